-- The products are bounded by those of radius 2 and eps 75; the rest is the definition.
use Prim.Native.Nat.{ℕ, ◌+◌, ◌*◌, ◌/◌, ◌≤◌}
use mathlib.Core.Path.{◌≡◌, refl, ap, subst, sym}
use native.Mathlib.Omega.{arith}
use Rattle.standard.specs.SelfGuided.{area, scale}
use Rattle.boxes.proofs.ScaleLaws.{ne_high, ne_low, scale_low, scale_high}
use Rattle.boxes.proofs.scale.Scale.for_radius.Goals as goal

module _ (c : goal.After-area-n) where
  abbrev ne : ℕ
  ne = c.area-n.result * c.area-n.result * c.args.eps

  s_is : (1048576 + ne / 2) / ne ≡ scale c.args.r c.args.eps
  s_is = ap (λ (n : ℕ). (1048576 + n * n * c.args.eps / 2) / (n * n * c.args.eps)) c.area-n.ensures

  high : area c.args.r * area c.args.r * c.args.eps ≤ 46875
  high = ne_high c.args.r c.args.eps c.requires.0 c.requires.1 c.requires.2 c.requires.3

  low : 81 ≤ area c.args.r * area c.args.r * c.args.eps
  low = ne_low c.args.r c.args.eps c.requires.0 c.requires.1 c.requires.2 c.requires.3

  s_low : 1 ≤ (1048576 + ne / 2) / ne
  s_low = subst (λ (s : ℕ). 1 ≤ s) (sym s_is) (scale_low (area c.args.r * area c.args.r * c.args.eps) low high)

  s_high : (1048576 + ne / 2) / ne ≤ 13235
  s_high = subst (λ (s : ℕ). s ≤ 13235) (sym s_is) (scale_high (area c.args.r * area c.args.r * c.args.eps) low high)

pub nonzero_div-top : goal.nonzero_div-top
nonzero_div-top c = omega (arith, s_low c)

pub invariant_of-result : goal.invariant_of-result
invariant_of-result c = let n = c.before.before.before in record {
  scaled = record { s_low = s_low n; s_high = s_high n; top_is = refl; sa_is = ap (λ (k : ℕ). 2 * k) c.above_eight-sb.ensures; sb_is = c.above_eight-sb.ensures; ra_is = c.half-ra.ensures; rb_is = c.half-rb.ensures };
}
