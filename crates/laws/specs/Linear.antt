-- Linear arithmetic and ring identities over ℤ in place, at any terms: each expression by its two natural parts, which `omega` reads.
-- `omega (integer-order, split e)` with an expression e for each sum or product in the goal and in what is known; `ring e f (omega arith)` for an equation.
-- And the laws of the shift that rounds down.
use Rattle.std.specs.Prelude.{◌≡◌, ℕ, ◌+◌, ◌*◌, ◌/◌, ◌^◌, ◌<◌, ◌≤◌, ℤ, pos, negsuc, ◌+ℤ◌, ◌-ℤ◌, ◌*ℤ◌, ◌≤ℤ◌, ◌<ℤ◌}
use Rattle.std.proofs.Common.{sym, ◌∙◌, ap, subst, arith, mod-lt}
use Rattle.std.proofs.Math.Nat.{div-add-mod}
use Rattle.std.specs.Int.Signed.{shr_z}
use Rattle.std.proofs.Math.Pow.{shr_mono}
use Rattle.laws.specs.Integers.{◌⊖◌, plus_part, minus_part, parts, ⊖_add, ⊖_neg, ⊖_mul, ⊖_eq, ⊖_parts, le_in, lt_in, le_out, lt_out, eq_in}

infixl 6 ◌⊞◌ ◌⊟◌
infixl 7 ◌⊠◌
-- `# x`: an atom, or a literal
pub data Sum : Type 0 where
  # : ℤ → Sum
  ◌⊞◌ : Sum → Sum → Sum
  ◌⊟◌ : Sum → Sum → Sum
  ◌⊠◌ : Sum → Sum → Sum

abbrev pub sum_value : Sum → ℤ
sum_value (# z) = z
sum_value (a ⊞ b) = sum_value a +ℤ sum_value b
sum_value (a ⊟ b) = sum_value a -ℤ sum_value b
sum_value (a ⊠ b) = sum_value a *ℤ sum_value b

abbrev mutual
  pub plus_parts : Sum → ℕ
  plus_parts (# z) = plus_part z
  plus_parts (a ⊞ b) = plus_parts a + plus_parts b
  plus_parts (a ⊟ b) = plus_parts a + minus_parts b
  plus_parts (a ⊠ b) = plus_parts a * plus_parts b + minus_parts a * minus_parts b

  pub minus_parts : Sum → ℕ
  minus_parts (# z) = minus_part z
  minus_parts (a ⊞ b) = minus_parts a + minus_parts b
  minus_parts (a ⊟ b) = minus_parts a + plus_parts b
  minus_parts (a ⊠ b) = plus_parts a * minus_parts b + minus_parts a * plus_parts b

two : (f : ℤ → ℤ → ℤ) {x y u v : ℤ} → x ≡ y → u ≡ v → f x u ≡ f y v
two f {y = y} {u = u} p q = ap (λ (z : ℤ). f z u) p ∙ ap (f y) q

as_diff : (e : Sum) → sum_value e ≡ plus_parts e ⊖ minus_parts e
as_diff (# z) = parts z
as_diff (a ⊞ b) = two (λ x y. x +ℤ y) (as_diff a) (as_diff b) ∙ ⊖_add (plus_parts a) (minus_parts a) (plus_parts b) (minus_parts b)
as_diff (a ⊟ b) = two (λ x y. x -ℤ y) (as_diff a) (as_diff b) ∙ ap (λ (z : ℤ). (plus_parts a ⊖ minus_parts a) +ℤ z) (⊖_neg (plus_parts b) (minus_parts b)) ∙ ⊖_add (plus_parts a) (minus_parts a) (minus_parts b) (plus_parts b)
as_diff (a ⊠ b) = two (λ x y. x *ℤ y) (as_diff a) (as_diff b) ∙ ⊖_mul (plus_parts a) (minus_parts a) (plus_parts b) (minus_parts b)

pub split : (e : Sum) → plus_part (sum_value e) + minus_parts e ≡ plus_parts e + minus_part (sum_value e)
split e = subst (λ (z : ℤ). plus_part z + minus_parts e ≡ plus_parts e + minus_part z) (sym (as_diff e)) (⊖_parts (plus_parts e) (minus_parts e))

pub ring : (e f : Sum) → plus_parts e + minus_parts f ≡ plus_parts f + minus_parts e → sum_value e ≡ sum_value f
ring e f h = as_diff e ∙ ⊖_eq (plus_parts e) (minus_parts e) (plus_parts f) (minus_parts f) h ∙ sym (as_diff f)

pub linear_le : (e f : Sum) → plus_parts e + minus_parts f ≤ plus_parts f + minus_parts e → sum_value e ≤ℤ sum_value f
linear_le e f h = le_out (omega (arith, split e, split f))

pub linear_lt : (e f : Sum) → plus_parts e + minus_parts f < plus_parts f + minus_parts e → sum_value e <ℤ sum_value f
linear_lt e f h = lt_out (omega (arith, split e, split f))

-- a fact, as omega reads it
pub known_le : (e f : Sum) → sum_value e ≤ℤ sum_value f → plus_parts e + minus_parts f ≤ plus_parts f + minus_parts e
known_le e f h = omega (arith, split e, split f, le_in h)

pub known_lt : (e f : Sum) → sum_value e <ℤ sum_value f → plus_parts e + minus_parts f < plus_parts f + minus_parts e
known_lt e f h = omega (arith, split e, split f, lt_in h)

pub known_eq : (e f : Sum) → sum_value e ≡ sum_value f → plus_parts e + minus_parts f ≡ plus_parts f + minus_parts e
known_eq e f h = omega (arith, split e, split f, eq_in (sum_value e) (sum_value f) h)

-- ---- floor division
-- m q ≤ x < m q + m, for q = shr_z x m
pub shr_low : (x : ℤ) (m : ℕ) → 0 < m → (pos m *ℤ shr_z x m) ≤ℤ x
shr_low (pos a) m h = le_out (omega (arith, div-add-mod a m))
shr_low (negsuc a) m h = linear_le (# (pos m) ⊠ # (negsuc (a / m))) (# (negsuc a)) (omega (arith, div-add-mod a m, mod-lt a h))

pub shr_high : (x : ℤ) (m : ℕ) → 0 < m → x <ℤ (pos m *ℤ shr_z x m +ℤ pos m)
shr_high (pos a) m h = lt_out (omega (arith, div-add-mod a m, mod-lt a h))
shr_high (negsuc a) m h = linear_lt (# (negsuc a)) (# (pos m) ⊠ # (negsuc (a / m)) ⊞ # (pos m)) (omega (arith, div-add-mod a m))

pub shr_le : {x y : ℤ} (k : ℕ) → x ≤ℤ y → shr_z x (2 ^ k) ≤ℤ shr_z y (2 ^ k)
shr_le {x = pos a} {y = pos b} k h = le_out (omega (arith, shr_mono {a = a} {b = b} k (omega (arith, le_in h))))
shr_le {x = pos a} {y = negsuc b} k h = absurd h.le
shr_le {x = negsuc a} {y = pos b} k h = le_out (omega arith)
shr_le {x = negsuc a} {y = negsuc b} k h = le_out (omega (arith, shr_mono {a = b} {b = a} k (omega (arith, le_in h))))
