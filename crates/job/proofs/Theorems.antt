-- No second answer keeps the promise of `read_job`, and a refused call leaves all room as it was.
use mathlib.Core.Path.{◌≡◌, sym, ◌∙◌}
use mathlib.Core.List.{List}
use Prim.Native.Nat.{ℕ}
use lib.IntN.{ℤ}
use Rattle.std.specs.Prelude.{Result, Err}
use Rattle.standard.specs.declared.JobRefusal.{JobRefusal}
use Rattle.standard.specs.declared.Sections.{Sections}
use Rattle.standard.specs.Answers.{of_job_read}
use Rattle.standard.specs.Job.{open_answer, open_room}
use Rattle.standard.proofs.Answers.{job_read_once, job_refused}
use Rattle.job.proofs.Laws.{room_refused}

module _ (b : List ℕ) where
  pub read_once : (r s : Result Sections JobRefusal) → of_job_read r ≡ open_answer b → of_job_read s ≡ open_answer b → r ≡ s
  read_once r s p q = job_read_once r s (p ∙ sym q)

  pub refused_as_it_was : (why : JobRefusal) → of_job_read (Err why) ≡ open_answer b → (l room : List ℤ) → open_room b l room ≡ room
  refused_as_it_was why p l room = sym (room_refused b _ (job_refused why) p l room)
