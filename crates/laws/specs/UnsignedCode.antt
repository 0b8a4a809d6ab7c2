-- Straight-line unsigned code with products, by its syntax: one computed test shows that it fits. Sums alone are `omega arith`'s.
--
use Rattle.std.specs.Prelude.{ℕ, ◌+◌, ◌*◌, ◌-◌, ◌/◌, ◌^◌, ◌≤◌, T, ltb}
use Rattle.std.proofs.Common.{arith, le_refl, lt_of_le_of_lt, mul-le-mul, ltb→lt}
use Rattle.std.proofs.Math.Pow.{shr_mono}
use Rattle.std.specs.Int.{Width}
use mir.Val.{Fits, bits}

infixl 6 ◌⊞ᵤ◌ ◌⊟ᵤ◌
infixl 7 ◌⊠ᵤ◌
pub data Amount : Type 0 where
  UpTo : (n m : ℕ) → n ≤ m → Amount  -- n, at most m
  Const : ℕ → Amount
  ◌⊞ᵤ◌ : Amount → Amount → Amount
  ◌⊟ᵤ◌ : Amount → Amount → Amount  -- bounded by its left side
  ◌⊠ᵤ◌ : Amount → Amount → Amount
  ShrU : Amount → ℕ → Amount

abbrev pub amount : Amount → ℕ
amount (UpTo n m h) = n
amount (Const n) = n
amount (a ⊞ᵤ b) = amount a + amount b
amount (a ⊟ᵤ b) = amount a - amount b
amount (a ⊠ᵤ b) = amount a * amount b
amount (ShrU a k) = amount a / 2 ^ k

abbrev pub at_most : Amount → ℕ
at_most (UpTo n m h) = m
at_most (Const n) = n
at_most (a ⊞ᵤ b) = at_most a + at_most b
at_most (a ⊟ᵤ b) = at_most a
at_most (a ⊠ᵤ b) = at_most a * at_most b
at_most (ShrU a k) = at_most a / 2 ^ k

-- the bound, for omega: `omega (arith, amount_bounded e)`
pub amount_bounded : (e : Amount) → amount e ≤ at_most e
amount_bounded (UpTo n m h) = h
amount_bounded (Const n) = le_refl n
amount_bounded (a ⊞ᵤ b) = omega (arith, amount_bounded a, amount_bounded b)
amount_bounded (a ⊟ᵤ b) = omega (arith, amount_bounded a)
amount_bounded (a ⊠ᵤ b) = mul-le-mul (amount_bounded a) (amount_bounded b)
amount_bounded (ShrU a k) = shr_mono k (amount_bounded a)

-- the answer to a sum's or a product's need
pub amount_fits : (w : Width) (e : Amount) → T (ltb (at_most e) (2 ^ bits w)) → Fits w (amount e)
amount_fits w e t = record { fits = lt_of_le_of_lt (amount_bounded e) (ltb→lt (at_most e) (2 ^ bits w) t) }
