-- Straight-line signed code as an expression: one computed test (`fits_all`) shows that no operation overflows (`safe`) and that the
-- machine's value is the mathematical one (`is_exact`).
use Rattle.std.specs.Prelude.{◌≡◌, refl, ℕ, ◌+◌, ◌*◌, ◌/◌, ◌^◌, ◌≤◌, max, Bool, ◌&&◌, T, ltb, ℤ, pos, nat_abs, ◌+ℤ◌, ◌-ℤ◌, ◌*ℤ◌, ◌≤ℤ◌}
use Rattle.std.proofs.Common.{sym, ◌∙◌, ap, subst, arith, le_refl, le_trans, lt_of_le_of_lt, mul-le-mul, ltb→lt, to_z-of_z}
use Rattle.std.proofs.Math.Pow.{shr_mono}
use Rattle.std.specs.Int.Signed.{shr_z, non_neg, yes_non_neg, pos-nat_abs}
use Rattle.std.specs.Int.{Width}
use mir.Val.{Fits, SFits, bits, hbits, to_z, of_z}
use Rattle.std.proofs.Math.Facts.{to_z_pos}
use Rattle.laws.specs.Tests.{and_l, and_r}
use Rattle.laws.specs.Sizes.{abs_add, abs_sub, abs_mul, abs_shr, abs_shr_le, abs_in, fits_abs}

-- ---- expressions
pub data Bin : Type 0 where
  plus : Bin
  minus : Bin
  times : Bin

abbrev pub fun : Bin → ℤ → ℤ → ℤ
fun plus x y = x +ℤ y
fun minus x y = x -ℤ y
fun times x y = x *ℤ y

abbrev pub op_bound : Bin → ℕ → ℕ → ℕ
op_bound plus m n = m + n
op_bound minus m n = m + n
op_bound times m n = m * n

-- Var: a parameter, an element of a slice, what a call returned. Held: a value that the code reads as `read` and that is the number z,
-- as a signed variable that a loop changes. The constructors' names begin with a capital letter, since one would hide a variable of an invariant
pub data Expression : Type 0 where
  Var : (z : ℤ) (m : ℕ) → nat_abs z ≤ m → Expression
  Nat : (n m : ℕ) → n ≤ m → Expression  -- an unsigned number that is cast
  Held : (read z : ℤ) (m : ℕ) → read ≡ z → nat_abs z ≤ m → Expression
  Lit : ℤ → Expression
  Op : Bin → Expression → Expression → Expression
  Shr : Expression → ℕ → Expression
  ShrBy : Expression → ℕ → Expression  -- by an amount that is no literal, or to a bound that need not be sharp
  Cast : Width → Expression → Expression

infixl 6 ◌⊕◌ ◌⊝◌
infixl 7 ◌⊗◌
abbrev pub ◌⊕◌ : Expression → Expression → Expression
a ⊕ b = Op plus a b

abbrev pub ◌⊝◌ : Expression → Expression → Expression
a ⊝ b = Op minus a b

abbrev pub ◌⊗◌ : Expression → Expression → Expression
a ⊗ b = Op times a b

-- the operands of the last operation: `safe w32 (lhs (rhs e)) tt`
abbrev pub lhs : Expression → Expression
lhs (Var z m q) = Var z m q
lhs (Nat n m q) = Nat n m q
lhs (Held y z m p q) = Held y z m p q
lhs (Lit z) = Lit z
lhs (Op o a b) = a
lhs (Shr a k) = a
lhs (ShrBy a k) = a
lhs (Cast w a) = a

abbrev pub rhs : Expression → Expression
rhs (Var z m q) = Var z m q
rhs (Nat n m q) = Nat n m q
rhs (Held y z m p q) = Held y z m p q
rhs (Lit z) = Lit z
rhs (Op o a b) = b
rhs (Shr a k) = a
rhs (ShrBy a k) = a
rhs (Cast w a) = a

-- the value
abbrev pub exact : Expression → ℤ
exact (Var z m q) = z
exact (Nat n m q) = pos n
exact (Held y z m p q) = z
exact (Lit z) = z
exact (Op o a b) = fun o (exact a) (exact b)
exact (Shr a k) = shr_z (exact a) (2 ^ k)
exact (ShrBy a k) = shr_z (exact a) (2 ^ k)
exact (Cast w a) = exact a

-- a bound of its size
abbrev pub bound_of : Expression → ℕ
bound_of (Var z m q) = m
bound_of (Nat n m q) = m
bound_of (Held y z m p q) = m
bound_of (Lit z) = nat_abs z
bound_of (Op o a b) = op_bound o (bound_of a) (bound_of b)
bound_of (Shr a k) = bound_of a / 2 ^ k + 1
bound_of (ShrBy a k) = bound_of a
bound_of (Cast w a) = bound_of a

-- what the machine reads, at width w
abbrev pub read_as : Width → Expression → ℤ
read_as w (Var z m q) = to_z w (of_z w z)
read_as w (Nat n m q) = to_z w n
read_as w (Held y z m p q) = y
read_as w (Lit z) = z
read_as w (Op o a b) = to_z w (of_z w (fun o (read_as w a) (read_as w b)))
read_as w (Shr a k) = to_z w (of_z w (shr_z (read_as w a) (2 ^ k)))
read_as w (ShrBy a k) = to_z w (of_z w (shr_z (read_as w a) (2 ^ k)))
read_as w (Cast v a) = to_z w (of_z w (read_as v a))

-- and what it has computed, before that is written at width w
abbrev pub computed : Width → Expression → ℤ
computed w (Var z m q) = z
computed w (Nat n m q) = pos n
computed w (Held y z m p q) = y
computed w (Lit z) = z
computed w (Op o a b) = fun o (read_as w a) (read_as w b)
computed w (Shr a k) = shr_z (read_as w a) (2 ^ k)
computed w (ShrBy a k) = shr_z (read_as w a) (2 ^ k)
computed w (Cast v a) = read_as v a

abbrev pub small : Width → ℕ → Bool
small w m = ltb m (2 ^ hbits w)

abbrev pub fits_all : Width → Expression → Bool
fits_all w (Var z m q) = small w m
fits_all w (Nat n m q) = small w m
fits_all w (Held y z m p q) = small w m
fits_all w (Lit z) = small w (nat_abs z)
fits_all w (Op o a b) = small w (op_bound o (bound_of a) (bound_of b)) && (fits_all w a && fits_all w b)
fits_all w (Shr a k) = small w (bound_of a / 2 ^ k + 1) && fits_all w a
fits_all w (ShrBy a k) = fits_all w a
fits_all w (Cast v a) = small w (bound_of a) && fits_all v a

bounded_op : (o : Bin) (x y : ℤ) (m n : ℕ) → nat_abs x ≤ m → nat_abs y ≤ n → nat_abs (fun o x y) ≤ op_bound o m n
bounded_op plus x y m n p q = omega (arith, abs_add x y)
bounded_op minus x y m n p q = omega (arith, abs_sub x y)
bounded_op times x y m n p q = subst (λ (k : ℕ). k ≤ m * n) (sym (abs_mul x y)) (mul-le-mul p q)

pub bounded : (e : Expression) → nat_abs (exact e) ≤ bound_of e
bounded (Var z m q) = q
bounded (Nat n m q) = q
bounded (Held y z m p q) = q
bounded (Lit z) = le_refl (nat_abs z)
bounded (Op o a b) = bounded_op o (exact a) (exact b) (bound_of a) (bound_of b) (bounded a) (bounded b)
bounded (Shr a k) = omega (arith, abs_shr (exact a) k, shr_mono k (bounded a))
bounded (ShrBy a k) = le_trans (abs_shr_le (exact a) (2 ^ k)) (bounded a)
bounded (Cast w a) = bounded a

back : (w : Width) (x y : ℤ) (m : ℕ) → x ≡ y → nat_abs y ≤ m → T (small w m) → to_z w (of_z w x) ≡ y
back w x y m e h t = ap (λ (z : ℤ). to_z w (of_z w z)) e ∙ to_z-of_z (fits_abs {w = w} m h t)

both : (o : Bin) {x y u v : ℤ} → x ≡ y → u ≡ v → fun o x u ≡ fun o y v
both o {y = y} {u = u} p q = ap (λ (z : ℤ). fun o z u) p ∙ ap (λ (z : ℤ). fun o y z) q

ok_small : (w : Width) (e : Expression) → T (fits_all w e) → T (small w (bound_of e))
ok_small w (Var z m q) t = t
ok_small w (Nat n m q) t = t
ok_small w (Held y z m p q) t = t
ok_small w (Lit z) t = t
ok_small w (Op o a b) t = and_l (small w (op_bound o (bound_of a) (bound_of b))) (fits_all w a && fits_all w b) t
ok_small w (Shr a k) t = and_l (small w (bound_of a / 2 ^ k + 1)) (fits_all w a) t
ok_small w (ShrBy a k) t = ok_small w a t
ok_small w (Cast v a) t = and_l (small w (bound_of a)) (fits_all v a) t

-- where the test passes, what the machine reads is the value
pub is_exact : (w : Width) (e : Expression) → T (fits_all w e) → read_as w e ≡ exact e
is_exact w (Var z m q) t = back w z z m refl q t
is_exact w (Nat n m q) t = to_z_pos w (lt_of_le_of_lt q (ltb→lt m (2 ^ hbits w) t))
is_exact w (Held y z m p q) t = p
is_exact w (Lit z) t = refl
is_exact w (Op o a b) t =
    let u = and_r (small w (op_bound o (bound_of a) (bound_of b))) (fits_all w a && fits_all w b) t in
    back w (fun o (read_as w a) (read_as w b)) (fun o (exact a) (exact b)) (op_bound o (bound_of a) (bound_of b))
    (both o (is_exact w a (and_l (fits_all w a) (fits_all w b) u)) (is_exact w b (and_r (fits_all w a) (fits_all w b) u))) (bounded (Op o a b)) (and_l (small w (op_bound o (bound_of a) (bound_of b))) (fits_all w a && fits_all w b) t)
is_exact w (Shr a k) t =
    back w (shr_z (read_as w a) (2 ^ k)) (shr_z (exact a) (2 ^ k)) (bound_of a / 2 ^ k + 1)
    (ap (λ (z : ℤ). shr_z z (2 ^ k)) (is_exact w a (and_r (small w (bound_of a / 2 ^ k + 1)) (fits_all w a) t))) (bounded (Shr a k)) (and_l (small w (bound_of a / 2 ^ k + 1)) (fits_all w a) t)
is_exact w (ShrBy a k) t =
    back w (shr_z (read_as w a) (2 ^ k)) (shr_z (exact a) (2 ^ k)) (bound_of a) (ap (λ (z : ℤ). shr_z z (2 ^ k)) (is_exact w a t)) (bounded (ShrBy a k)) (ok_small w a t)
is_exact w (Cast v a) t = back w (read_as v a) (exact a) (bound_of a) (is_exact v a (and_r (small w (bound_of a)) (fits_all v a) t)) (bounded a) (and_l (small w (bound_of a)) (fits_all v a) t)

computed_exact : (w : Width) (e : Expression) → T (fits_all w e) → computed w e ≡ exact e
computed_exact w (Var z m q) t = refl
computed_exact w (Nat n m q) t = refl
computed_exact w (Held y z m p q) t = p
computed_exact w (Lit z) t = refl
computed_exact w (Op o a b) t =
    let u = and_r (small w (op_bound o (bound_of a) (bound_of b))) (fits_all w a && fits_all w b) t in
    both o (is_exact w a (and_l (fits_all w a) (fits_all w b) u)) (is_exact w b (and_r (fits_all w a) (fits_all w b) u))
computed_exact w (Shr a k) t = ap (λ (z : ℤ). shr_z z (2 ^ k)) (is_exact w a (and_r (small w (bound_of a / 2 ^ k + 1)) (fits_all w a) t))
computed_exact w (ShrBy a k) t = ap (λ (z : ℤ). shr_z z (2 ^ k)) (is_exact w a t)
computed_exact w (Cast v a) t = is_exact v a (and_r (small w (bound_of a)) (fits_all v a) t)

-- an operation does not overflow: the answer to its need
pub safe : (w : Width) (e : Expression) → T (fits_all w e) → SFits w (computed w e)
safe w e t = subst (SFits w) (sym (computed_exact w e t)) (fits_abs {w = w} (bound_of e) (bounded e) (ok_small w e t))

-- a number in a range
abbrev pub ranged : (z : ℤ) {lo hi : ℤ} → lo ≤ℤ z → z ≤ℤ hi → Expression
ranged z {lo} {hi} p q = Var z (max (nat_abs lo) (nat_abs hi)) (abs_in p q)

-- a cast to an unsigned type: the answer to its need, and what it gives
pub cast_unsigned : (w v : Width) (e : Expression) → T (fits_all w e) → pos 0 ≤ℤ exact e → T (ltb (bound_of e) (2 ^ bits v)) → T (non_neg (read_as w e)) × Fits v (nat_abs (read_as w e))
cast_unsigned w v e t h u = subst (λ (z : ℤ). T (non_neg z) × Fits v (nat_abs z)) (sym (is_exact w e t)) (yes_non_neg h, record { fits = lt_of_le_of_lt (bounded e) (ltb→lt (bound_of e) (2 ^ bits v) u) })

pub cast_value : (w : Width) (e : Expression) → T (fits_all w e) → pos 0 ≤ℤ exact e → pos (nat_abs (read_as w e)) ≡ exact e
cast_value w e t h = subst (λ (z : ℤ). pos (nat_abs z) ≡ exact e) (sym (is_exact w e t)) (pos-nat_abs (exact e) (yes_non_neg h))
