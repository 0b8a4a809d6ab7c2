-- The number of an answer that hands on a value: 0 where the value is there, else the refusal's.
use Rattle.std.specs.Prelude.{ℕ, Result, Ok, Err}
use Rattle.standard.specs.declared.Refusal.{Refusal}
use Rattle.standard.specs.Answers.{refusal_number}

abbrev pub number_of : {A : Type 0} → Result A Refusal → ℕ
number_of (Ok _) = 0
number_of (Err why) = refusal_number why
