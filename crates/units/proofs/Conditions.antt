-- An entry by its type.
use Rattle.std.proofs.Common.{◌≡◌, refl, sym, ap, Bool, true, false, ◌||◌, List, ℕ, arith, ℤ, pos, negsuc, T}
use lib.Dec.{leb, leb→le}
use Rattle.laws.specs.Tests.{and_l, and_r}
use Rattle.standard.specs.Units.{field, between, is_type, legal_wiener, legal_guided, legal_entry}

or_no_more : (a : Bool) → (a || false) ≡ a
or_no_more true = refl
or_no_more false = refl

pub type_is : (n : ℕ) (z : ℤ) → T (between (pos n) (pos n) z) → z ≡ pos n
type_is n (pos k) t = ap pos (omega (arith, leb→le n k (and_l (leb n k) (leb k n) t), leb→le k n (and_r (leb n k) (leb k n) t)))
type_is n (negsuc k) t = absurd t

pub entry_none : (plane : ℕ) (t : List ℤ) (e : ℕ) → field t e 0 ≡ pos 0 → true ≡ legal_entry plane t e
unfolding legal_entry is_type
entry_none plane t e p = rw p

pub entry_wiener : (plane : ℕ) (t : List ℤ) (e : ℕ) → field t e 0 ≡ pos 1 → legal_wiener plane t e ≡ legal_entry plane t e
unfolding legal_entry is_type
entry_wiener plane t e p = rw p (sym (or_no_more (legal_wiener plane t e)))

pub entry_guided : (plane : ℕ) (t : List ℤ) (e : ℕ) → field t e 0 ≡ pos 2 → legal_guided t e ≡ legal_entry plane t e
unfolding legal_entry is_type
entry_guided plane t e p = rw p
