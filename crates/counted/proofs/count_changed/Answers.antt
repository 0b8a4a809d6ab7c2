-- The count so far is the sum so far, at most one for each place passed.
use Rattle.std.proofs.Common.{◌≡◌, ◌≤◌, ◌≤ℤ◌, Bool, true, false, not, cond, eqb, List, ℕ, ℤ, pos, negsuc, nat_abs, get_or, refl, ◌∙◌, arith}
use mir.Syntax.{w32}
use mir.Val.{of_z, bool_byte}
use Rattle.laws.specs.Congruence.{ap2}
use Rattle.standard.proofs.Sums.{sum_none, sum_more}
use Rattle.counted.proofs.count_changed.Invariants.{differ, unlike}
use Rattle.counted.proofs.count_changed.Goals as goal

-- a turn counts at most one
differ_most : (out cdef : List ℤ) (n : ℕ) → differ out cdef n ≤ 1
differ_most out cdef n = go (eqb (nat_abs (get_or out n (pos 0))) (nat_abs (get_or cdef n (pos 0))))
  where
    go : (b : Bool) → cond b 0 1 ≤ 1
    go true = omega arith
    go false = omega arith

-- a sample's bits are the sample, so the code's test is the definition's
bits_of : {a : ℤ} → pos 0 ≤ℤ a → of_z w32 a ≡ nat_abs a
bits_of {a = pos n} p = refl
bits_of {a = negsuc n} p = absurd p.le

counted : {a b : ℤ} → pos 0 ≤ℤ a → pos 0 ≤ℤ b → bool_byte (not (eqb (of_z w32 a) (of_z w32 b))) ≡ unlike a b
counted p q = ap2 (λ m n. bool_byte (not (eqb m n))) (bits_of p) (bits_of q) ∙ byte (eqb _ _)
  where
    byte : (b : Bool) → bool_byte (not b) ≡ cond b 0 1
    byte true = refl
    byte false = refl

pub loop-n-init : goal.loop-n-init
loop-n-init c = (sum_none _, omega arith)

pub loop-n-preserved : goal.loop-n-preserved
loop-n-preserved c =
    let n = c.loop-n.n in
    let v : c.from-count.result ≡ differ c.args.out.now c.args.cdef.now n = c.from-count.ensures ∙ counted (c.requires.whole.0.low n (omega arith)) (c.requires.whole.1.low n (omega arith)) in
    (sum_more _ _ _ _ c.loop-n.invariant.0 v, omega (arith, differ_most c.args.out.now c.args.cdef.now n))
