-- A frame's depth that number 1 passes is the depth's own number of bits; the largest sample.
use mathlib.Core.Path.{◌≡◌, sym, subst}
use mathlib.Core.Bool.{Bool, true, false, cond, not, ◌||◌}
use Prim.Native.Nat.{ℕ, ◌≤◌}
use native.Mathlib.Omega.{arith}
use lib.Dec.{T, eqb, eqb→eq}
use Rattle.standard.specs.declared.Depth.{Depth}
use Rattle.standard.specs.declared.Depth.TheVariants.{Eight, Ten, Twelve}
use Rattle.standard.specs.Depths.{bits, depth_of, largest}
use Rattle.standard.specs.Refusals.{no1}

pub bits_of : (n : ℕ) → no1 n ≡ false → bits (depth_of n) ≡ n
unfolding no1
bits_of n h = go (eqb n 8) (eqb n 10) (eqb n 12) (eqb→eq n 8) (eqb→eq n 10) (eqb→eq n 12) h
  where
    go : (a b c : Bool) → (T a → n ≡ 8) → (T b → n ≡ 10) → (T c → n ≡ 12) → not (a || b || c) ≡ false → bits (cond a Eight (cond b Ten Twelve)) ≡ n
    go true b c f g k h = sym (f tt)
    go false true c f g k h = sym (g tt)
    go false false true f g k h = sym (k tt)
    go false false false f g k h = absurd (subst T h tt)

pub largest_most : (d : Depth) → largest d ≤ 4095
largest_most Eight = omega arith
largest_most Ten = omega arith
largest_most Twelve = omega arith
