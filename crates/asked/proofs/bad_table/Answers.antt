-- The counts are those of the definition, and ten times their product fits.
use Prim.Native.Nat.{ℕ, ◌*◌}
use mathlib.Core.Path.{◌≡◌, ap}
use native.Mathlib.Omega.{arith}
use native.Mathlib.Nat.{mul-le-mul}
use lib.Dec.{eqb}
use mathlib.Core.Bool.{not}
use Rattle.laws.specs.Congruence.{ap2}
use Rattle.standard.specs.declared.Counts.{Counts}
use Rattle.standard.specs.declared.Frame.{Frame}
use Rattle.standard.specs.Refusals.{no10, plane_height, plane_width}
use Rattle.standard.specs.Stripes.{units}
use Rattle.standard.specs.Calls.{counts_of}
use Rattle.geometry.proofs.Tests.{divided_passes}
use Rattle.asked.proofs.Numbers.{unit_counts}
use Rattle.asked.proofs.bad_table.Goals as goal

module _ (f : Frame) (k : Counts) (e : k ≡ counts_of f) where
  high : k.unit_rows ≡ units (plane_height f) f.unit_size
  unfolding counts_of
  high = ap (λ n. n.unit_rows) e

  wide : k.unit_cols ≡ units (plane_width f) f.unit_size
  unfolding counts_of
  wide = ap (λ n. n.unit_cols) e

pub overflow_mul-result-2 : goal.overflow_mul-result-2
overflow_mul-result-2 c =
    let f = c.args.d.plane.frame in
    let k = c.counts-c.result in
    let small = unit_counts f (divided_passes c.args.d) in
    omega (arith, mul-le-mul {n₁ = 10 * k.unit_rows} {m₁ = k.unit_cols} {n₂ = 655350} {m₂ = 65535} (omega (arith, high f k c.counts-c.ensures, small.0)) (omega (arith, wide f k c.counts-c.ensures, small.1)))

pub returns : goal.returns
unfolding no10
returns c = ap2 (λ (a b : ℕ). not (eqb c.args.table (10 * a * b))) (high _ _ c.counts-c.ensures) (wide _ _ c.counts-c.ensures)
