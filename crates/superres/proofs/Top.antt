-- The largest sample of a depth that number 1 is not given for.
use mathlib.Core.Path.{◌≡◌, sym, ap, subst}
use mathlib.Core.Bool.{Bool, true, false, cond, not, ◌||◌}
use Prim.Native.Nat.{ℕ, ◌-◌, ◌^◌}
use lib.Dec.{T, eqb, eqb→eq}
use Rattle.standard.specs.declared.Depth.TheVariants.{Eight, Ten, Twelve}
use Rattle.standard.specs.Depths.{depth_of, largest}
use Rattle.standard.specs.Refusals.{no1}

pub top_is : (n : ℕ) → no1 n ≡ false → largest (depth_of n) ≡ 2 ^ n - 1
unfolding no1
top_is n e = pick (eqb n 8) (eqb n 10) (eqb n 12) (eqb→eq n 8) (eqb→eq n 10) (eqb→eq n 12) e
  where
    pick : (a b c : Bool) → (T a → n ≡ 8) → (T b → n ≡ 10) → (T c → n ≡ 12) → not (a || b || c) ≡ false → largest (cond a Eight (cond b Ten Twelve)) ≡ 2 ^ n - 1
    pick true b c f g h e = ap (λ (k : ℕ). 2 ^ k - 1) (sym (f tt))
    pick false true c f g h e = ap (λ (k : ℕ). 2 ^ k - 1) (sym (g tt))
    pick false false true f g h e = ap (λ (k : ℕ). 2 ^ k - 1) (sym (h tt))
    pick false false false f g h e = absurd (subst T e tt)
