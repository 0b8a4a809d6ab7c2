-- What is printed of a job is within the bounds, and no sample of it is negative.
use Rattle.std.proofs.Common.{◌≡◌, ◌∙◌, ap, subst, sym, arith, length, pos}
use Rattle.std.proofs.lemmas.List.{length-replicate}
use Rattle.counted.specs.Whole.{Whole}
use Rattle.worked.proofs.Theorems.{small, zeros_whole, printed_whole, printed_long}
use Rattle.restore_job.proofs.main.Goals as goal

pub print_report-requires : goal.print_report-requires
print_report-requires c =
    let q = small _ _ c.in-Ok.ensures.result_value in
    let long : length c.run_job.new.out ≡ 1024 = ap length c.in-Ok.ensures.out_after ∙ printed_long _ _ (length-replicate 1024 (pos 0)) in (
      omega (arith, q.0, long),
      q.1,
      q.2,
      subst Whole (sym c.in-Ok.ensures.out_after) (printed_whole _ _ (zeros_whole 1024) (length-replicate 1024 (pos 0))),
    )
