-- Another length answers alone; at that length, what `all` tests is the definition's test.
use Rattle.std.proofs.Common.{◌≡◌, refl, sym, ap, ◌∙◌, Bool, not, ◌&&◌, List, [], ◌∷◌, length, rules, tests}
use borrow.Author.Tests.{eq-eqb, ne_eqb}
use lib.Dec.{leb}
use Rattle.std.proofs.lemmas.Iterator.{YieldsList-from_slice}
use Rattle.std.proofs.lemmas.Iterator.Search.{all_from_yields_List}
use Rattle.std.specs.List.{list_all}
use Rattle.laws.specs.Lists.{all}
use Rattle.standard.specs.Refusals.{no12}
use Rattle.stripe_tests.proofs.marks.bad_marks.Goals as goal

all_is : {A : Type 0} (f : A → Bool) (xs : List A) → list_all f xs ≡ all f xs
unfolding all
all_is f [] = refl
all_is f (x ∷ xs) = ap (λ b. f x && b) (all_is f xs)

pub returns-then-marks-n : goal.returns-then-marks-n
unfolding no12
returns-then-marks-n c = rw (ne_eqb (length c.args.marks.now) c.args.n c.if-marks-n.true)

pub returns-else-marks-n : goal.returns-else-marks-n
unfolding no12
returns-else-marks-n c =
    ap not (all_from_yields_List (λ m. leb m 1) _ _ _ c.all.ensures.ran (YieldsList-from_slice c.args.marks.now cc) (λ x b q k. search (rules, tests)) ∙ all_is (λ m. leb m 1) c.args.marks.now)
    ∙ ap (λ b. not (b && all (λ m. leb m 1) c.args.marks.now)) (sym (eq-eqb (length c.args.marks.now) c.args.n c.if-marks-n.false))
