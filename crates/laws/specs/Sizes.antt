-- The size `nat_abs` of an integer: of sums, products and shifts, and within a range. Overflow is argued by sizes alone.
use Rattle.std.specs.Prelude.{◌≡◌, refl, ℕ, zero, suc, ◌+◌, ◌*◌, ◌-◌, ◌/◌, ◌^◌, ◌<◌, ◌≤◌, max, Bool, true, false, cond, T, ltb, ℤ, pos, negsuc, neg_ℤ, nat_abs, ◌+ℤ◌, ◌-ℤ◌, ◌*ℤ◌, ◌≤ℤ◌}
use Rattle.std.proofs.Common.{suc-le-suc, arith, le_refl, le_trans, lt_of_le_of_lt, div-le_self, ltb→lt}
use Rattle.std.proofs.Math.Nat.{le-suc}
use Rattle.std.proofs.Math.Pow.{shr_mono}
use Rattle.std.specs.Int.Signed.{mag, shr_z}
use Rattle.std.specs.Int.{Width}
use mir.Val.{SFits, hbits}
use Rattle.laws.specs.Integers.{plus_part, minus_part, le_in}

cond_abs : (t : Bool) (a b : ℕ) → (T t → a < b) → nat_abs (cond t (negsuc (b - suc a)) (pos (a - b))) ≤ a + b
cond_abs true a b f = omega (arith, f tt)
cond_abs false a b f = omega arith

pub abs_add : (x y : ℤ) → nat_abs (x +ℤ y) ≤ nat_abs x + nat_abs y
abs_add (pos a) (pos b) = le_refl (a + b)
abs_add (pos a) (negsuc b) = cond_abs (ltb a (suc b)) a (suc b) (ltb→lt a (suc b))
abs_add (negsuc a) (pos b) = omega (arith, cond_abs (ltb b (suc a)) b (suc a) (ltb→lt b (suc a)))
abs_add (negsuc a) (negsuc b) = omega arith

pub abs_neg : (x : ℤ) → nat_abs (neg_ℤ x) ≡ nat_abs x
abs_neg (pos zero) = refl
abs_neg (pos (suc n)) = refl
abs_neg (negsuc n) = refl

pub abs_sub : (x y : ℤ) → nat_abs (x -ℤ y) ≤ nat_abs x + nat_abs y
abs_sub x y = omega (arith, abs_add x (neg_ℤ y), abs_neg y)

pub abs_mul : (x y : ℤ) → nat_abs (x *ℤ y) ≡ nat_abs x * nat_abs y
abs_mul (pos a) (pos b) = refl
abs_mul (pos a) (negsuc b) = abs_neg (pos (a * suc b))
abs_mul (negsuc a) (pos b) = abs_neg (pos (suc a * b))
abs_mul (negsuc a) (negsuc b) = refl

pub abs_shr : (x : ℤ) (k : ℕ) → nat_abs (shr_z x (2 ^ k)) ≤ nat_abs x / 2 ^ k + 1
abs_shr (pos a) k = omega arith
abs_shr (negsuc a) k = omega (arith, shr_mono k (le-suc a))

pub abs_shr_le : (x : ℤ) (m : ℕ) → nat_abs (shr_z x m) ≤ nat_abs x
abs_shr_le (pos a) m = div-le_self a m
abs_shr_le (negsuc a) m = suc-le-suc (div-le_self a m)

pub mag_abs : (x : ℤ) → mag x ≤ nat_abs x
mag_abs (pos n) = le_refl n
mag_abs (negsuc n) = le-suc n

pub abs_mag : (x : ℤ) → nat_abs x ≤ mag x + 1
abs_mag (pos n) = omega arith
abs_mag (negsuc n) = omega arith

pub abs_parts : (x : ℤ) → nat_abs x ≡ plus_part x + minus_part x
abs_parts (pos n) = omega arith
abs_parts (negsuc n) = omega arith

-- lo ≤ x ≤ hi
pub abs_in : {lo hi x : ℤ} → lo ≤ℤ x → x ≤ℤ hi → nat_abs x ≤ max (nat_abs lo) (nat_abs hi)
abs_in {lo} {hi} {x = pos n} p q = omega (arith, le_in q, abs_parts lo, abs_parts hi)
abs_in {lo} {hi} {x = negsuc n} p q = omega (arith, le_in p, abs_parts lo, abs_parts hi)

pub fits_abs : {w : Width} {x : ℤ} (m : ℕ) → nat_abs x ≤ m → T (ltb m (2 ^ hbits w)) → SFits w x
fits_abs {w} {x} m h t = record { sfits = lt_of_le_of_lt (le_trans (mag_abs x) h) (ltb→lt m (2 ^ hbits w) t) }
