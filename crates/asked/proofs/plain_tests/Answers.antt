-- Each return is the number of the first test that holds at frame type 0.
use Rattle.standard.specs.Answers.{refusal_number}
use Rattle.asked.proofs.Numbers.{plain_framed, plain_7, plain_15, plain_0}
use Rattle.asked.proofs.plain_tests.Goals as goal

pub returns-then-bad_shape : goal.returns-then-bad_shape
unfolding refusal_number
returns-then-bad_shape c = λ table scratch. let r = c.requires in plain_7 _ table _ _ _ scratch (plain_framed c.args.p r.depth_value r.frame_type_value) r.frame_type_value (cc)

pub returns-then-bad_samples : goal.returns-then-bad_samples
unfolding refusal_number
returns-then-bad_samples c = λ table scratch. let r = c.requires in plain_15 _ table _ _ _ scratch (plain_framed c.args.p r.depth_value r.frame_type_value) r.frame_type_value (cc) (cc)

pub returns : goal.returns
returns c = λ table scratch. let r = c.requires in plain_0 _ table _ _ _ scratch (plain_framed c.args.p r.depth_value r.frame_type_value) r.frame_type_value (cc) (cc)
