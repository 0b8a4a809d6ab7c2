-- The call under its C name: its own promise, on the ten numbers as they are read.
use mathlib.Core.Path.{◌∙◌, ap}
use mir.Syntax.{w32}
use mir.Facts.{to_z-of_z}
use Rattle.laws.specs.ReadBack.{returned}
use Rattle.standard.specs.Calls.{sample_answer}
use Rattle.sample.proofs.Laws.{ten}
use Rattle.host.proofs.sample_calls.cironetop_restore_sample.Goals as goal

pub returns : goal.returns
returns c = let a = c.args in let f = c.ranges in returned w32 c.restore_sample.type_inv (c.restore_sample.ensures ∙ ap (λ t. sample_answer a.depth a.row t a.window.now) (ten (to_z-of_z f.kind) (to_z-of_z f.v0) (to_z-of_z f.v1) (to_z-of_z f.v2) (to_z-of_z f.h0) (to_z-of_z f.h1) (to_z-of_z f.h2) (to_z-of_z f.set) (to_z-of_z f.w0) (to_z-of_z f.w1)))
