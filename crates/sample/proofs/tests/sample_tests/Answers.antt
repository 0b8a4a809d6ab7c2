-- Each return is the number of the first test that holds.
use mathlib.Core.Path.{sym, ◌∙◌, ap}
use mathlib.Core.Bool.{not}
use Rattle.standard.specs.Answers.{refusal_number}
use Rattle.sample.proofs.Numbers.{gives_1, gives_7, gives_11, gives_15, gives_0}
use Rattle.std.proofs.lemmas.Bool.{not_from_false, not_from_true}
use Rattle.sample.proofs.tests.sample_tests.Goals as goal

pub returns-then-bad_depth : goal.returns-then-bad_depth
unfolding refusal_number
returns-then-bad_depth c = gives_1 _ _ _ (sym c.bad_depth.ensures ∙ c.if-bad_depth.true)

pub returns-then-bytes-ne98 : goal.returns-then-bytes-ne98
unfolding refusal_number
returns-then-bytes-ne98 c = gives_7 _ _ _ (sym c.bad_depth.ensures ∙ c.if-bad_depth.false) c.if-bytes-ne98.true

pub returns-then-not-legal_entry : goal.returns-then-not-legal_entry
unfolding refusal_number
returns-then-not-legal_entry c = gives_11 _ _ _ (sym c.bad_depth.ensures ∙ c.if-bad_depth.false) c.if-bytes-ne98.false (ap not (sym c.legal_entry.ensures) ∙ (not_from_false _ c.if-not-legal_entry.true))

pub outside-requires : goal.outside-requires
outside-requires c = ((sym c.bad_depth.ensures ∙ c.if-bad_depth.false), c.if-bytes-ne98.false)

pub returns-then-outside : goal.returns-then-outside
unfolding refusal_number
returns-then-outside c = gives_15 _ _ _ (sym c.bad_depth.ensures ∙ c.if-bad_depth.false) c.if-bytes-ne98.false (ap not (sym c.legal_entry.ensures) ∙ (not_from_true _ c.if-not-legal_entry.false)) (sym c.outside.ensures ∙ c.if-outside.true)

pub returns : goal.returns
returns c = gives_0 _ _ _ (sym c.bad_depth.ensures ∙ c.if-bad_depth.false) c.if-bytes-ne98.false (ap not (sym c.legal_entry.ensures) ∙ (not_from_true _ c.if-not-legal_entry.false)) (sym c.outside.ensures ∙ c.if-outside.false)
