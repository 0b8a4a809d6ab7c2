-- Blocks of 1024 columns cover a plane: column x lies in block x / 1024 and in no other.
use Prim.Native.Nat.{ℕ, ◌+◌, ◌-◌, ◌*◌, ◌/◌, ◌%◌, min}
use native.Mathlib.Omega.{arith}
use Rattle.laws.specs.Cover.{Cover}

pub blocks_cover : (w h : ℕ) → Cover (w / 1024 + min 1 (w % 1024)) w h (λ k. k * 1024) (λ _. 0) (λ k. min (w - k * 1024) 1024) (λ _. h) (λ y x. x / 1024)
blocks_cover w h = record {
  within = λ k l. record { right = omega arith; low = omega arith };
  has = λ y x p q. record { top = omega arith; bottom = omega arith; left = omega arith; side = omega arith };
  only = λ k y x l i. omega (arith, i.left, i.side);
  below = λ y x p q. omega arith;
}
