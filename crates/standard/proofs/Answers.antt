-- An answer is determined by document 01's number and values: no two answers have the same. So a promise that gives them fixes the answer.
use mathlib.Core.Path.{◌≡◌, refl, sym, ap, ◌∙◌, subst}
use mathlib.Core.List.{[], ◌∷◌}
use Prim.Native.Nat.{ℕ, zero, suc, ◌-◌, ◌≤◌}
use native.Mathlib.Omega.{arith}
use lib.IntN.{pos, neg_ℤ, nat_abs}
use lib.ListN.{get_or}
use lib.Dec.{T}
use lib.Signed.{non_neg}
use Rattle.laws.specs.Sizes.{abs_neg}
use Rattle.std.specs.Prelude.{Result, Ok, Err}
use Rattle.standard.specs.declared.Refusal.{Refusal}
use Rattle.standard.specs.declared.Refusal.TheVariants.{BadDepth, BadPlane, BadFrameType, BadFrameSide, BadUnitSize, WidthShrinks, BadShape, NotWider, BadEdgeRows, BadUnitTable, BadUnit, BadMarks, BadIndex, AlreadyRestored, BadSample, ShortScratch}
use Rattle.standard.specs.declared.JobRefusal.{JobRefusal}
use Rattle.standard.specs.declared.JobRefusal.TheVariants.{NoJob, OverBound, Table}
use Rattle.standard.specs.declared.Counts.{Counts}
use Rattle.standard.specs.declared.Geometry.{Geometry}
use Rattle.standard.specs.declared.Sections.{Sections}
use Rattle.standard.specs.declared.Report.{Report}
use Rattle.standard.specs.Answers.{refusal_number, no_counts, nowhere, answer_of, of_restored, of_stored, of_counted, of_placed, of_sampled, job_refusal_number, no_sections, no_report, of_job_read, of_job_ran}

-- the refusal of a number, from the table's order
unfoldable pub refusal_of : ℕ → Refusal
refusal_of n = get_or
    (BadDepth ∷ BadPlane ∷ BadFrameType ∷ BadFrameSide ∷ BadUnitSize ∷ WidthShrinks ∷ BadShape ∷ NotWider ∷
    BadEdgeRows ∷ BadUnitTable ∷ BadUnit ∷ BadMarks ∷ BadIndex ∷ AlreadyRestored ∷ BadSample ∷ ShortScratch ∷ []) (n - 1) BadDepth

pub refusal_back : (a : Refusal) → (refusal_of (refusal_number a) ≡ a) × (1 ≤ refusal_number a) × (refusal_number a ≤ 16)
unfolding refusal_of refusal_number
refusal_back BadDepth = (refl, omega arith, omega arith)
refusal_back BadPlane = (refl, omega arith, omega arith)
refusal_back BadFrameType = (refl, omega arith, omega arith)
refusal_back BadFrameSide = (refl, omega arith, omega arith)
refusal_back BadUnitSize = (refl, omega arith, omega arith)
refusal_back WidthShrinks = (refl, omega arith, omega arith)
refusal_back BadShape = (refl, omega arith, omega arith)
refusal_back NotWider = (refl, omega arith, omega arith)
refusal_back BadEdgeRows = (refl, omega arith, omega arith)
refusal_back BadUnitTable = (refl, omega arith, omega arith)
refusal_back BadUnit = (refl, omega arith, omega arith)
refusal_back BadMarks = (refl, omega arith, omega arith)
refusal_back BadIndex = (refl, omega arith, omega arith)
refusal_back AlreadyRestored = (refl, omega arith, omega arith)
refusal_back BadSample = (refl, omega arith, omega arith)
refusal_back ShortScratch = (refl, omega arith, omega arith)

pub refusal_once : (a b : Refusal) → refusal_number a ≡ refusal_number b → a ≡ b
refusal_once a b e = sym (refusal_back a).0 ∙ ap refusal_of e ∙ (refusal_back b).0

pub refused : (a : Refusal) → 1 ≤ refusal_number a
refused a = (refusal_back a).1

-- ---- each kind of answer
-- a number that only one refusal has, and that is not 0, leaves no second answer
module _ {A E : Type 0} (number : E → ℕ) (none : A) (one : (a b : E) → number a ≡ number b → a ≡ b) (some : (a : E) → 1 ≤ number a) where
  pub answer_once : (r s : Result A E) → answer_of number none r ≡ answer_of number none s → r ≡ s
  answer_once (Ok a) (Ok b) e = ap Ok (ap (λ p. p.1) e)
  answer_once (Ok a) (Err b) e = absurd (omega (arith, some b, ap (λ p. p.0) e))
  answer_once (Err a) (Ok b) e = absurd (omega (arith, some a, ap (λ p. p.0) e))
  answer_once (Err a) (Err b) e = ap Err (one a b (ap (λ p. p.0) e))

pub restored_once : (r s : Result ℕ Refusal) → of_restored r ≡ of_restored s → r ≡ s
restored_once = answer_once refusal_number 0 refusal_once refused

pub stored_once : (r s : Result (Unit {0}) Refusal) → of_stored r ≡ of_stored s → r ≡ s
stored_once (Ok _) (Ok _) e = refl
stored_once (Ok _) (Err b) e = absurd (omega (arith, refused b))
stored_once (Err a) (Ok _) e = absurd (omega (arith, refused a))
stored_once (Err a) (Err b) e = ap Err (refusal_once a b e)

pub counted_once : (r s : Result Counts Refusal) → of_counted r ≡ of_counted s → r ≡ s
counted_once = answer_once refusal_number no_counts refusal_once refused

pub placed_once : (r s : Result Geometry Refusal) → of_placed r ≡ of_placed s → r ≡ s
placed_once = answer_once refusal_number nowhere refusal_once refused

-- a sample is not negative, and minus a number is
minus : (n a : ℕ) → 1 ≤ n → neg_ℤ (pos n) ≡ pos a → ⊥
minus zero a p e = omega arith
minus (suc n) a p e = subst (λ z. T (non_neg z)) (sym e) tt

pub sampled_once : (r s : Result ℕ Refusal) → of_sampled r ≡ of_sampled s → r ≡ s
sampled_once (Ok a) (Ok b) e = ap Ok (ap nat_abs e)
sampled_once (Ok a) (Err b) e = absurd (minus (refusal_number b) a (refused b) (sym e))
sampled_once (Err a) (Ok b) e = absurd (minus (refusal_number a) b (refused a) e)
sampled_once (Err a) (Err b) e =
    ap Err (refusal_once a b (sym (abs_neg (pos (refusal_number a))) ∙ ap nat_abs e ∙ abs_neg (pos (refusal_number b))))

-- ---- jobs: 17 and 18 are no numbers of the table
pub job_refusal_once : (a b : JobRefusal) → job_refusal_number a ≡ job_refusal_number b → a ≡ b
unfolding job_refusal_number
job_refusal_once NoJob NoJob e = refl
job_refusal_once NoJob OverBound e = absurd (omega arith)
job_refusal_once NoJob (Table b) e = absurd (omega (arith, (refusal_back b).2))
job_refusal_once OverBound NoJob e = absurd (omega arith)
job_refusal_once OverBound OverBound e = refl
job_refusal_once OverBound (Table b) e = absurd (omega (arith, (refusal_back b).2))
job_refusal_once (Table a) NoJob e = absurd (omega (arith, (refusal_back a).2))
job_refusal_once (Table a) OverBound e = absurd (omega (arith, (refusal_back a).2))
job_refusal_once (Table a) (Table b) e = ap Table (refusal_once a b e)

pub job_refused : (a : JobRefusal) → 1 ≤ job_refusal_number a
unfolding job_refusal_number
job_refused NoJob = omega arith
job_refused OverBound = omega arith
job_refused (Table a) = refused a

pub job_read_once : (r s : Result Sections JobRefusal) → of_job_read r ≡ of_job_read s → r ≡ s
job_read_once = answer_once job_refusal_number no_sections job_refusal_once job_refused

pub job_ran_once : (r s : Result Report JobRefusal) → of_job_ran r ≡ of_job_ran s → r ≡ s
job_ran_once = answer_once job_refusal_number no_report job_refusal_once job_refused
