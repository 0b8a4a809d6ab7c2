-- From a frame's numbers to the domain's cases: where 2 and 5 are not given, subsampling and unit size are legal. And a unit of type none
-- leaves its sample.
use mathlib.Core.Path.{◌≡◌, refl, ap, ◌∙◌, sym, subst}
use mathlib.Core.Bool.{Bool, true, false, cond, not, ◌&&◌, ◌||◌}
use Prim.Native.Nat.{ℕ, ◌+◌, ◌-◌, ◌<◌, min, max}
use native.Mathlib.Omega.{arith}
use lib.Dec.{T, eqb, ltb, eqb→eq, ltb→lt}
use Rattle.standard.specs.declared.Kind.TheVariants.{None}
use Rattle.standard.specs.declared.Frame.{Frame}
use Rattle.standard.specs.Wiener.{Grid}
use Rattle.standard.proofs.Stripes.{Halved, Sized, full, full_128, full_256, full_64, half, half_128, half_256, half_32, half_64, span}
use Rattle.standard.specs.Fetch.{Shape, fetch, near, restored_at, unit_at, window, restored}
use Rattle.laws.specs.Tests.{Test, and_l, and_r, test}
use Rattle.standard.specs.Refusals.{no2, no5, sub_y_of}
use Rattle.standard.specs.Stripes.{stripe_of, stripe_start, stripe_stop}

-- ---- type none leaves the sample
pub middle_own : (g : Shape) → Halved g.sy → (D C : Grid) (y x : ℕ) → y < g.height → x < g.width → window g D C y x 3 3 ≡ C y x
unfolding window fetch
middle_own g k D C y x hy hx =
    let ey : near g.height y 3 ≡ y = omega arith in
    let ex : near g.width x 3 ≡ x = omega arith in
    ap (λ v. fetch g.sy D C (stripe_of g.sy y) v (near g.width x 3)) ey ∙ ap (fetch g.sy D C (stripe_of g.sy y) y) ex
    ∙ go (ltb y (stripe_start g.sy (stripe_of g.sy y))) (test y (stripe_start g.sy (stripe_of g.sy y))) (ltb y (stripe_stop g.sy (stripe_of g.sy y))) (test y (stripe_stop g.sy (stripe_of g.sy y)))
  where
    go : (a : Bool) → Test y (stripe_start g.sy (stripe_of g.sy y)) a → (b : Bool) → Test y (stripe_stop g.sy (stripe_of g.sy y)) b →
        cond a (D (max y (stripe_start g.sy (stripe_of g.sy y) - 2)) x) (cond b (C y x) (D (min y (stripe_stop g.sy (stripe_of g.sy y) + 1)) x)) ≡ C y x
    go true (Test.below p) b t = absurd (omega (arith, (span k y).from))
    go false (Test.above p) true t = refl
    go false (Test.above p) false (Test.above q) = absurd (omega (arith, (span k y).to))

pub type_none : (g : Shape) → Halved g.sy → (D C : Grid) (y x : ℕ) → y < g.height → x < g.width → unit_at g y x ≡ None → restored_at g D C y x ≡ C y x
unfolding restored_at restored
type_none g k D C y x hy hx e = ap (λ u. restored g.depth y u (window g D C y x)) e ∙ middle_own g k D C y x hy hx

-- legal subsampling, as the proofs take it apart
sub_cases : (a b c d : Bool) (n : ℕ) → (T b → n ≡ 0) → (T d → n ≡ 1) → T (a && b || c && b || c && d) → Halved n
sub_cases a true c d n f g t = subst Halved (sym (f tt)) full
sub_cases a false c true n f g t = subst Halved (sym (g tt)) half
sub_cases true false true false n f g t = absurd t
sub_cases true false false false n f g t = absurd t
sub_cases false false true false n f g t = absurd t
sub_cases false false false false n f g t = absurd t

plane_cases : (a : Bool) (n : ℕ) → Halved n → Halved (cond a 0 n)
plane_cases true n h = full
plane_cases false n h = h

or_right : (a b : Bool) → (a || not b) ≡ false → T b
or_right true b e = absurd (subst T e tt)
or_right false true e = tt
or_right false false e = absurd (subst T e tt)

pub halved_of : (f : Frame) → no2 f.plane f.sub_x f.sub_y ≡ false → Halved (sub_y_of f)
unfolding no2
halved_of f e = plane_cases (eqb f.plane 0) f.sub_y
    (sub_cases (eqb f.sub_x 0) (eqb f.sub_y 0) (eqb f.sub_x 1) (eqb f.sub_y 1) f.sub_y (eqb→eq f.sub_y 0) (eqb→eq f.sub_y 1)
    (or_right (ltb 2 f.plane) (eqb f.sub_x 0 && eqb f.sub_y 0 || eqb f.sub_x 1 && eqb f.sub_y 0 || eqb f.sub_x 1 && eqb f.sub_y 1) e))

-- a legal unit size, as the proofs take it apart
big : {n : ℕ} → Halved n → (Sized n 64) × (Sized n 128) × (Sized n 256)
big full = (full_64, full_128, full_256)
big half = (half_64, half_128, half_256)

plane_sub : (a : Bool) (n : ℕ) → (T a → ⊥) → cond a 0 n ≡ n
plane_sub true n f = absurd (f tt)
plane_sub false n f = refl

size_cases : (a b c d : Bool) {n size : ℕ} → Halved n → (T a → size ≡ 64) → (T b → size ≡ 128) → (T c → size ≡ 256) → (T d → (size ≡ 32) × (n ≡ 1)) → T (a || b || c || d) → Sized n size
size_cases true b c d {n = n} k f64 f128 f256 f32 t = subst (Sized n) (sym (f64 tt)) (big k).0
size_cases false true c d {n = n} k f64 f128 f256 f32 t = subst (Sized n) (sym (f128 tt)) (big k).1
size_cases false false true d {n = n} k f64 f128 f256 f32 t = subst (Sized n) (sym (f256 tt)) (big k).2
size_cases false false false true {n = n} k f64 f128 f256 f32 t = subst (Sized n) (sym (f32 tt).0) (subst (λ m. Sized m 32) (sym (f32 tt).1) half_32)
size_cases false false false false k f64 f128 f256 f32 t = absurd t

pub sized_of : (f : Frame) → no2 f.plane f.sub_x f.sub_y ≡ false → no5 f.plane f.sub_x f.sub_y f.unit_size ≡ false → Sized (sub_y_of f) f.unit_size
unfolding no5
sized_of f e2 e5 =
    size_cases (eqb u 64) (eqb u 128) (eqb u 256) (eqb u 32 && ltb 0 f.plane && eqb f.sub_x 1 && eqb f.sub_y 1) (halved_of f e2)
    (eqb→eq u 64) (eqb→eq u 128) (eqb→eq u 256) small (or_right false (eqb u 64 || eqb u 128 || eqb u 256 || eqb u 32 && ltb 0 f.plane && eqb f.sub_x 1 && eqb f.sub_y 1) e5)
  where
    u : ℕ
    u = f.unit_size

    small : T (eqb u 32 && ltb 0 f.plane && eqb f.sub_x 1 && eqb f.sub_y 1) → (u ≡ 32) × (sub_y_of f ≡ 1)
    small t =
        let q = and_l (eqb u 32 && ltb 0 f.plane && eqb f.sub_x 1) (eqb f.sub_y 1) t in
        let r = and_l (eqb u 32 && ltb 0 f.plane) (eqb f.sub_x 1) q in (
          eqb→eq u 32 (and_l (eqb u 32) (ltb 0 f.plane) r),
          plane_sub (eqb f.plane 0) f.sub_y (λ z. omega (arith, eqb→eq f.plane 0 z, ltb→lt 0 f.plane (and_r (eqb u 32) (ltb 0 f.plane) r)))
              ∙ eqb→eq f.sub_y 1 (and_r (eqb u 32 && ltb 0 f.plane && eqb f.sub_x 1) (eqb f.sub_y 1) t),
        )
