-- Where a test gives its number the slice is as it was; else it is written.
use mathlib.Core.Path.{sym, ◌∙◌}
use native.Mathlib.Omega.{arith}
use borrow.Author.Tests.{eq-eqb, ne_eqb}
use Rattle.laws.specs.Tests.{cond_true, cond_false}
use lib.ListN.{length}
use Rattle.standard.specs.Calls.{upscale_out}
use Rattle.standard.specs.Refusals.{first, upscale_tests}
use Rattle.standard.proofs.Answers.{refused}
use Rattle.superres.proofs.upscale_plane.Goals as goal

pub returns-in_err-tested-clause-output_after : goal.returns-in_err-tested-clause-output_after
unfolding upscale_out
returns-in_err-tested-clause-output_after c = sym (cond_false _ _ _ (ne_eqb (first (upscale_tests c.args.s c.args.input.now (length c.args.output.now))) 0 (λ e. omega (arith, refused c.in_err-tested.field-0.0, c.in_err-tested.ensures))))

pub returns-clause-output_after : goal.returns-clause-output_after
unfolding upscale_out
returns-clause-output_after c = c.write.ensures ∙ sym (cond_true _ _ _ (eq-eqb _ 0 (sym c.in_ok-tested.ensures)))
