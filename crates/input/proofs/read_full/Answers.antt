-- What a turn reads stands in the buffer after what was read before it.
use Rattle.std.proofs.Common.{rules, ◌≡◌, ℕ, ◌+◌, ◌-◌, ◌≤◌, List, ◌++◌, length, take, sym, ap, ◌∙◌, subst, length-take-le}
use Rattle.std.proofs.lemmas.List.{take-append-le}
use Rattle.std.proofs.Math.Seq.{take-append-add}
use Rattle.std.specs.Io.KnownBytes.{Consumes}
use Rattle.std.proofs.KnownBytes.{Consumes-trans}
use borrow.Rule.Slice.PartMut.{put_mid, post_of}
use Rattle.input.proofs.read_full.Goals as goal

joined : (a k n : ℕ) (xs ys : List ℕ) → a ≤ length xs → n ≤ length ys → take a xs ++ take n ys ≡ take (a + n) (put_mid a k xs ys)
joined a k n xs ys p q =
    sym (ap (λ m. take (m + n) (put_mid a k xs ys)) (sym (length-take-le a xs p))
    ∙ take-append-add (take a xs) (ys ++ post_of a k xs) n ∙ ap (λ l. take a xs ++ l) (take-append-le n ys (post_of a k xs) q))

pub loop-done-preserved : goal.loop-done-preserved
loop-done-preserved g c =
    let at = c.loop-done.done in
    let i = c.loop-done.invariant in
    record {
      within = search rules;
      taken = subst (Consumes _ _) (joined at (length c.loop-done.buf - at) c.in_ok-n.n _ _ i.within c.in_ok-n.ensures.bound.0) (Consumes-trans _ _ _ _ _ i.taken c.in_ok-n.ensures.bytes.0);
    }
