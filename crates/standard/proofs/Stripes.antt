-- Rows and stripes: a row's stripe is the one whose span it is in, one stripe ends where the next starts, and the stripes of a plane are
-- those that start in it. By the domain's cases: each is linear arithmetic.
use mathlib.Core.Path.{◌≡◌, refl, ap, ◌∙◌}
use mathlib.Core.Logic.{◌↔◌}
use Prim.Native.Nat.{ℕ, zero, suc, ◌+◌, ◌-◌, ◌*◌, ◌/◌, ◌^◌, ◌≤◌, ◌<◌}
use native.Mathlib.Omega.{arith}
use lib.IntN.{pos, neg_ℤ, ◌+ℤ◌, ◌-ℤ◌}
use lib.Signed.{shr_z}
use Rattle.laws.specs.Linear.{#, ◌⊞◌, ◌⊟◌, ring}
use Rattle.standard.specs.Stripes.{stripe_start_y_of, stripe_end_y_of, stripe_of, stripe_start, stripe_stop, stripes}

-- ---- the domain's cases
pub data Halved : ℕ → Type 0 where
  full : Halved 0
  half : Halved 1

pub data Size : ℕ → Type 0 where
  s32 : Size 32
  s64 : Size 64
  s128 : Size 128
  s256 : Size 256

-- 32 only where sub_y is 1
pub data Sized : ℕ → ℕ → Type 0 where
  full_64 : Sized 0 64
  full_128 : Sized 0 128
  full_256 : Sized 0 256
  half_32 : Sized 1 32
  half_64 : Sized 1 64
  half_128 : Sized 1 128
  half_256 : Sized 1 256

pub halved : {sy size : ℕ} → Sized sy size → Halved sy
halved full_64 = full
halved full_128 = full
halved full_256 = full
halved half_32 = half
halved half_64 = half
halved half_128 = half
halved half_256 = half

pub size_of : {sy size : ℕ} → Sized sy size → Size size
size_of full_64 = s64
size_of full_128 = s128
size_of full_256 = s256
size_of half_32 = s32
size_of half_64 = s64
size_of half_128 = s128
size_of half_256 = s256

-- ---- a row's stripe is the one whose span it is in
pub record Span (sy s y : ℕ) : Type 0 where
  pub from : stripe_start sy s ≤ y
  pub to : y < stripe_stop sy s

pub span : {sy : ℕ} → Halved sy → (y : ℕ) → Span sy (stripe_of sy y) y
unfolding stripe_start stripe_stop stripe_of
span full y = record { from = omega arith; to = omega arith }
span half y = record { from = omega arith; to = omega arith }

pub stripe_is : {sy s y : ℕ} → Halved sy → Span sy s y → stripe_of sy y ≡ s
unfolding stripe_start stripe_stop stripe_of
stripe_is full h = omega (arith, h.from, h.to)
stripe_is half h = omega (arith, h.from, h.to)

-- one stripe ends where the next starts; the stripes of a plane are those that start in it
pub next : {sy : ℕ} → Halved sy → (s : ℕ) → stripe_stop sy s ≡ stripe_start sy (suc s)
unfolding stripe_start stripe_stop
next full s = omega arith
next half s = omega arith

pub stripe_exists : {sy : ℕ} → Halved sy → (h s : ℕ) → 0 < h → (s < stripes sy h) ↔ (stripe_start sy s < h)
unfolding stripe_start stripe_of stripes
stripe_exists full h s p = (omega arith, omega arith)
stripe_exists half h s p = (omega arith, omega arith)

pub stripe_below : {sy : ℕ} → Halved sy → (h y : ℕ) → y < h → stripe_of sy y < stripes sy h
unfolding stripe_of stripes
stripe_below full h y p = omega arith
stripe_below half h y p = omega arith

-- ---- the natural numbers used here are the specification's StripeStartY and StripeEndY, within the plane
pub start_first : {sy : ℕ} → Halved sy → (stripe_start_y_of sy 0 ≡ neg_ℤ (pos (8 / 2 ^ sy))) × (stripe_start sy 0 ≡ 0)
unfolding stripe_start_y_of stripe_start
start_first full = (refl, refl)
start_first half = (refl, refl)

above_eight : (s : ℕ) → 1 ≤ s → pos (64 * s) -ℤ pos 8 ≡ pos (64 * s - 8)
above_eight s p = ring (# (pos (64 * s)) ⊟ # (pos 8)) (# (pos (64 * s - 8))) (omega arith)

pub start_later : {sy : ℕ} → Halved sy → (s : ℕ) → 1 ≤ s → stripe_start_y_of sy s ≡ pos (stripe_start sy s)
unfolding stripe_start_y_of stripe_start
start_later {sy = sy} k s p = ap (λ z. shr_z z (2 ^ sy)) (above_eight s p)

pub end_is : {sy : ℕ} → Halved sy → (s : ℕ) → stripe_end_y_of sy s ≡ pos (stripe_stop sy s) -ℤ pos 1
unfolding stripe_end_y_of stripe_start_y_of stripe_stop
end_is full zero = refl
end_is half zero = refl
end_is full (suc s) = ap (λ z. shr_z z 1 +ℤ pos 64 -ℤ pos 1) (above_eight (suc s) (omega arith)) ∙ ring (# (pos ((64 * suc s - 8) / 1)) ⊞ # (pos 64) ⊟ # (pos 1)) (# (pos ((64 * suc s + 56) / 1)) ⊟ # (pos 1)) (omega arith)
end_is half (suc s) = ap (λ z. shr_z z 2 +ℤ pos 32 -ℤ pos 1) (above_eight (suc s) (omega arith)) ∙ ring (# (pos ((64 * suc s - 8) / 2)) ⊞ # (pos 32) ⊟ # (pos 1)) (# (pos ((64 * suc s + 56) / 2)) ⊟ # (pos 1)) (omega arith)
