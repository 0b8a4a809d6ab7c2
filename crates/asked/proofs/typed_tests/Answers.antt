-- Each return is the number of the first test that holds.
use Rattle.standard.specs.Answers.{refusal_number}
use Rattle.asked.proofs.Numbers.{framed, gives_7, gives_10, gives_11, gives_15, gives_16, gives_0}
use Rattle.asked.proofs.typed_tests.Goals as goal

pub returns-then-bad_shape : goal.returns-then-bad_shape
unfolding refusal_number
returns-then-bad_shape c = let d = c.args.d in let r = c.requires in gives_7 _ _ _ _ _ _ (framed d.plane r.depth_value r.frame_type_nonzero.0) r.frame_type_nonzero.1 d.size (cc)

pub returns-then-bad_table : goal.returns-then-bad_table
unfolding refusal_number
returns-then-bad_table c = let d = c.args.d in let r = c.requires in gives_10 _ _ _ _ _ _ (framed d.plane r.depth_value r.frame_type_nonzero.0) r.frame_type_nonzero.1 d.size (cc) (cc)

pub returns-then-some_illegal : goal.returns-then-some_illegal
unfolding refusal_number
returns-then-some_illegal c = let d = c.args.d in let r = c.requires in gives_11 _ _ _ _ _ _ (framed d.plane r.depth_value r.frame_type_nonzero.0) r.frame_type_nonzero.1 d.size (cc) (cc) (cc)

pub returns-then-bad_samples : goal.returns-then-bad_samples
unfolding refusal_number
returns-then-bad_samples c = let d = c.args.d in let r = c.requires in gives_15 _ _ _ _ _ _ (framed d.plane r.depth_value r.frame_type_nonzero.0) r.frame_type_nonzero.1 d.size (cc) (cc) (cc) (cc)

pub returns-then-short_scratch : goal.returns-then-short_scratch
unfolding refusal_number
returns-then-short_scratch c = let d = c.args.d in let r = c.requires in gives_16 _ _ _ _ _ _ (framed d.plane r.depth_value r.frame_type_nonzero.0) r.frame_type_nonzero.1 d.size (cc) (cc) (cc) (cc) (cc)

pub returns : goal.returns
returns c = let d = c.args.d in let r = c.requires in gives_0 _ _ _ _ _ _ (framed d.plane r.depth_value r.frame_type_nonzero.0) r.frame_type_nonzero.1 d.size (cc) (cc) (cc) (cc) (cc)
