-- A lent part `&mut d[a..e]` that the library's `copy_from_slice` or `fill` wrote: it is a run written in the whole.
use Rattle.std.specs.Prelude.{◌≡◌, List, ℕ, ◌+◌, ◌-◌, ◌<◌, ◌≤◌, length, get_or, take, drop, replicate}
use Rattle.std.proofs.Common.{refl, sym, ap, ◌∙◌, arith, ext_get_or, length-take, length-drop}
use borrow.Rule.Slice.PartMut.{mid_of, put_mid}
use Rattle.std.proofs.lemmas.List.{get_or-replicate, length-replicate}
use Rattle.laws.specs.Index.{part_at}
use Rattle.laws.specs.Runs.{stamp, stamp_length, stamp_inside, part_back}

module _ {A : Type 0} where
  -- a list whose element k is f k is the run of f over one as long
  pub stamp_all : (f : ℕ → A) (z : A) (d l : List A) → length l ≡ length d → ((k : ℕ) → k < length d → get_or l k z ≡ f k) → l ≡ stamp f 0 (length d) d
  stamp_all f z d l e h = ext_get_or z _ _ (e ∙ sym (stamp_length f 0 (length d) d))
      (λ k p. h k (omega arith) ∙ sym (stamp_inside f 0 (length d) d k z (omega arith) (omega arith)) ∙ ap (λ i. get_or (stamp f 0 (length d) d) i z) (omega arith))

  pub part_written : (f : ℕ → A) (z : A) (a e n : ℕ) (d l : List A) → e ≡ a + n → e ≤ length d → length l ≡ n → ((k : ℕ) → k < n → get_or l k z ≡ f k) → put_mid a (e - a) d l ≡ stamp f a n d
  part_written f z a e n d l p q r h =
      let s : length (mid_of a (e - a) d) ≡ n = length-take (e - a) (drop a d) ∙ omega (arith, length-drop a d) in
      part_back f a e n d l p q (stamp_all f z (mid_of a (e - a) d) l (r ∙ sym s) (λ k u. h k (omega arith)))

  -- `d[to..to + n].copy_from_slice(&s[from..from + n])`
  pub part_copied : (z : A) (to from n : ℕ) (d s l : List A) → to + n ≤ length d → from + n ≤ length s → l ≡ take (from + n - from) (drop from s)
      → put_mid to (to + n - to) d l ≡ stamp (λ k. get_or s (from + k) z) to n d
  part_copied z to from n d s l p q e =
      part_written _ z to (to + n) n d l refl p (ap length e ∙ length-take (from + n - from) (drop from s) ∙ omega (arith, length-drop from s))
      (λ k h. ap (λ t. get_or t k z) e ∙ part_at from (from + n - from) s k z (omega arith))

  -- `d[to..to + n].fill(v)`
  pub part_filled : (v : A) (to n : ℕ) (d l : List A) → to + n ≤ length d → l ≡ replicate (length (mid_of to (to + n - to) d)) v → put_mid to (to + n - to) d l ≡ stamp (λ _. v) to n d
  part_filled v to n d l p e =
      let m : length (mid_of to (to + n - to) d) ≡ n = length-take (to + n - to) (drop to d) ∙ omega (arith, length-drop to d) in
      part_written _ v to (to + n) n d l refl p (ap length e ∙ length-replicate _ v ∙ m) (λ k h. ap (λ t. get_or t k v) e ∙ get_or-replicate _ k v v (omega arith))
