-- Each return is the number of the first test that holds.
use mathlib.Core.Path.{sym, ◌∙◌}
use Rattle.standard.specs.Answers.{refusal_number}
use Rattle.edges.proofs.Numbers.{gives_7, gives_9, gives_15, gives_0}
use Rattle.edges.proofs.tests.slice_tests.Goals as goal

pub returns-then-deblocked-samples : goal.returns-then-deblocked-samples
unfolding refusal_number
returns-then-deblocked-samples c = let p = c.args.p in gives_7 _ _ _ c.requires p.plane p.high p.wide (λ e. c.if-deblocked-samples.true (e ∙ sym c.samples.ensures))

pub returns-then-edges-edge_room : goal.returns-then-edges-edge_room
unfolding refusal_number
returns-then-edges-edge_room c = let p = c.args.p in gives_9 _ _ _ c.requires p.plane p.high p.wide (c.if-deblocked-samples.false ∙ c.samples.ensures) (λ e. c.if-edges-edge_room.true (e ∙ sym c.edge_room.ensures))

pub returns-then-out_of_range : goal.returns-then-out_of_range
unfolding refusal_number
returns-then-out_of_range c = let p = c.args.p in gives_15 _ _ _ c.requires p.plane p.high p.wide (c.if-deblocked-samples.false ∙ c.samples.ensures) (c.if-edges-edge_room.false ∙ c.edge_room.ensures) (cc)

pub returns : goal.returns
returns c = let p = c.args.p in gives_0 _ _ _ c.requires p.plane p.high p.wide (c.if-deblocked-samples.false ∙ c.samples.ensures) (c.if-edges-edge_room.false ∙ c.edge_room.ensures) (cc)
