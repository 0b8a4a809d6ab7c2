-- The bounds of a2 and of the sums, on a smaller part of a list that is equal there; the listing is a table of a2.
use mathlib.Core.Path.{◌≡◌, sym, ◌∙◌, ap, subst}
use mathlib.Core.List.{List}
use Prim.Native.Nat.{ℕ, ◌*◌, ◌≤◌, ◌<◌}
use native.Mathlib.Omega.{arith}
use lib.IntN.{ℤ, pos, nat_abs}
use lib.ListN.{get_or}
use Rattle.laws.specs.Bounds.{samples_part, samples_same}
use Rattle.laws.specs.Lists.{listing, at_listing}
use Rattle.standard.specs.SelfGuided.{a2_of}
use Rattle.boxes.specs.Tables.{A2Table, Shares, Weighed}

module _ {lo hi : ℕ} {s : List ℤ} (a b : ℕ) (t : List ℤ) where
  pub shares_kept : Shares lo hi s → lo ≤ a → b ≤ hi → ((k : ℕ) → a ≤ k → k < b → get_or t k (pos 0) ≡ get_or s k (pos 0)) → Shares a b t
  shares_kept p u v e = record {
    whole = samples_same t (samples_part a b p.whole u v) e;
    some = λ k l m. subst (λ (z : ℤ). 1 ≤ nat_abs z) (sym (e k l m)) (p.some k (omega arith) (omega arith));
  }

  pub weighed_kept : {o : ℕ} → Weighed o lo hi s → lo ≤ a → b ≤ hi → ((k : ℕ) → a ≤ k → k < b → get_or t k (pos 0) ≡ get_or s k (pos 0)) → Weighed o a b t
  weighed_kept {o} p u v e = record {
    whole = samples_same t (samples_part a b p.whole u v) e;
    small = λ k l m. subst (λ (z : ℤ). nat_abs z * o ≤ 16789500) (sym (e k l m)) (p.small k (omega arith) (omega arith));
  }

-- what `table` leaves
pub listing_table : {t : List ℤ} → t ≡ listing 256 (λ z. pos (a2_of z)) → A2Table t
listing_table e = record { holds = λ z h. ap (λ (t : List ℤ). get_or t z (pos 0)) e ∙ at_listing 256 (λ z. pos (a2_of z)) (pos 0) z h }
