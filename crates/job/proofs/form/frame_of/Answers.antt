-- Each number is its entry.
use Rattle.standard.specs.Job.{frame_of}
use Rattle.job.proofs.form.frame_of.Goals as goal

pub returns : goal.returns
unfolding frame_of
returns c = rw (c.entry.ensures.0, c.entry-2.ensures.0, c.entry-3.ensures.0, c.entry-4.ensures.0, c.entry-5.ensures.0, c.entry-6.ensures.0, c.entry-7.ensures.0, c.entry-8.ensures.0)
