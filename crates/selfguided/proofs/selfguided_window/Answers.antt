-- The passes make the scratch ready, and the rows of results read the window that the call found.
use Rattle.selfguided.proofs.CallLaws.{window_of, eps_first, eps_second, between, ready_at, results}
use Rattle.selfguided.proofs.selfguided_window.Goals as goal

pub params_of-p-requires : goal.params_of-p-requires
params_of-p-requires c = c.requires.samples.2.set_high

pub first_pass-requires : goal.first_pass-requires
first_pass-requires c = (window_of c.requires.le_w.1 c.requires.le_w.3 c.requires.le_w.4 c.requires.le_w.5 c.requires.samples.0, eps_first c.params_of-p.ensures)

pub second_pass-requires : goal.second_pass-requires
second_pass-requires c = (between (window_of c.requires.le_w.1 c.requires.le_w.3 c.requires.le_w.4 c.requires.le_w.5 c.requires.samples.0) c.first_pass.ensures, eps_second c.params_of-p.ensures)

pub mix_of-m-requires : goal.mix_of-m-requires
mix_of-m-requires c = c.requires.samples.2

pub last-requires : goal.last-requires
last-requires c = let m = c.mix_of-m.ensures in (
  c.requires.samples.1,
  ready_at c.args.weights c.params_of-p.ensures (window_of c.requires.le_w.1 c.requires.le_w.3 c.requires.le_w.4 c.requires.le_w.5 c.requires.samples.0) c.first_pass.ensures c.second_pass.ensures m.0,
  record { set_high = c.requires.samples.2.set_high; params = c.params_of-p.ensures; w0_is = m.1; w1_is = m.2 },
)

pub returns : goal.returns
returns c = results c.args.weights c.params_of-p.ensures (window_of c.requires.le_w.1 c.requires.le_w.3 c.requires.le_w.4 c.requires.le_w.5 c.requires.samples.0) c.first_pass.ensures c.second_pass.ensures c.mix_of-m.ensures.0 _ _ _ c.last.ensures
