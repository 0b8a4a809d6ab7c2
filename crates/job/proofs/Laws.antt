-- From the counts to the reader's answer, and from sections as they are stored to the room that is left.
use mathlib.Core.Path.{◌≡◌, refl, sym, ap, ◌∙◌}
use mathlib.Core.Bool.{Bool, true, false, cond, not, ◌&&◌}
use mathlib.Core.List.{List, ◌++◌}
use mathlib.Core.Logic.{◌⊎◌, inl, inr}
use Prim.Native.Nat.{ℕ, zero, suc, ◌+◌, ◌-◌, ◌*◌, ◌≤◌, ◌<◌}
use native.Mathlib.Omega.{arith}
use borrow.Author.Tests.{eq-eqb, ne_eqb, lt-ltb, le-ltb}
use lib.Dec.{eqb}
use lib.IntN.{ℤ, pos}
use lib.ListN.{length, get_or, drop, length-append, length-drop, get_or-append}
use lib.Seq.{ext_get_or, get_or-append-add, get_or-drop}
use Rattle.laws.specs.Lists.{listing, length_listing, at_listing}
use Rattle.laws.specs.Runs.{stamp, stamp_length, stamp_at, stamp_after}
use Rattle.laws.specs.Index.{lt_or_le}
use Rattle.standard.specs.declared.Sections.{Sections}
use Rattle.standard.specs.Answers.{no_sections}
use Rattle.standard.specs.Refusals.{wide, first}
use Rattle.standard.specs.Calls.{if_done}
use Rattle.standard.specs.Job.{unit_count, deblocked_count, cdef_count, signed16, job_of, no17, no18, form_tests, sections_of, open_answer, laid, open_room}
use Rattle.standard.proofs.Job.{bounded, counts_fit, passed}
use Rattle.job.specs.Form.{counted_answer, over_bounds}

-- ---- the counts
abbrev by_form : Bool → List ℕ → ℕ × Sections
by_form t b = cond t (17, no_sections) (0, sections_of b)

module _ (b : List ℕ) where
  abbrev entry_count : ℕ
  entry_count = 12 + unit_count b + deblocked_count b + cdef_count b

  no17_frame : (wide b 0 ≡ 8 → ⊥) → no17 b ≡ true
  unfolding no17
  no17_frame h = ap (λ t. not (t && eqb (length b) (2 * entry_count))) (ne_eqb (wide b 0) 8 h)

  and_no : (a c : Bool) → c ≡ false → not (a && c) ≡ true
  and_no true c e = ap not e
  and_no false c e = refl

  no17_count : (length b ≡ 2 * entry_count → ⊥) → no17 b ≡ true
  unfolding no17
  no17_count h = and_no (eqb (wide b 0) 8) (eqb (length b) (2 * entry_count)) (ne_eqb (length b) (2 * entry_count) h)

  no17_fits : wide b 0 ≡ 8 → length b ≡ 2 * entry_count → no17 b ≡ false
  unfolding no17
  no17_fits p q = rw (eq-eqb (wide b 0) 8 p, eq-eqb (length b) (2 * entry_count) q)

  -- what the counts alone answer
  pub other_frame : (wide b 0 ≡ 8 → ⊥) → (17, no_sections) ≡ counted_answer b
  unfolding counted_answer
  other_frame h = rw (no17_frame h)

  pub other_count : (length b ≡ 2 * entry_count → ⊥) → (17, no_sections) ≡ counted_answer b
  unfolding counted_answer
  other_count h = rw (no17_count h)

  pub counts_done : wide b 0 ≡ 8 → length b ≡ 2 * entry_count → (s : Sections) → s ≡ sections_of b → (0, s) ≡ counted_answer b
  unfolding counted_answer
  counts_done p q s e = rw (no17_fits p q, e)

  -- the bounds, by the counts
  over_same : over_bounds (sections_of b) ≡ no18 (job_of b)
  unfolding over_bounds sections_of no18 job_of
  over_same = rw (length_listing (unit_count b) (λ k. signed16 (wide b (10 + k))), length_listing (deblocked_count b) (λ k. pos (wide b (11 + unit_count b + k))), length_listing (cdef_count b) (λ k. pos (wide b (12 + unit_count b + deblocked_count b + k))))

  -- what the reader answers
  pub too_long : 4160 < length b → (18, no_sections) ≡ open_answer b
  unfolding open_answer first form_tests
  too_long h = rw (lt-ltb 4160 (length b) h)

  module _ (short : length b ≤ 4160) where
    refused_so : (t : Bool) → no17 b ≡ t → (n : ℕ) → 1 ≤ n → (n, no_sections) ≡ by_form t b → (n, no_sections) ≡ open_answer b
    unfolding open_answer first form_tests
    refused_so true e n h q = q ∙ rw (le-ltb 4160 (length b) short, e)
    refused_so false e n h q = absurd (omega (arith, ap (λ p. p.0) q))

    pub refused : (n : ℕ) → 1 ≤ n → (n, no_sections) ≡ counted_answer b → (n, no_sections) ≡ open_answer b
    unfolding counted_answer
    refused n h q = refused_so (no17 b) refl n h q

    done_so : (t : Bool) → no17 b ≡ t → (s : Sections) → (0, s) ≡ by_form t b → (no17 b ≡ false) × (s ≡ sections_of b)
    done_so true e s q = absurd (omega (arith, ap (λ p. p.0) q))
    done_so false e s q = (e, ap (λ p. p.1) q)

    module _ (s : Sections) (q : (0, s) ≡ counted_answer b) where
      found : (no17 b ≡ false) × (s ≡ sections_of b)
      unfolding counted_answer
      found = done_so (no17 b) refl s q

      bounds : {t : Bool} → over_bounds s ≡ t → no18 (job_of b) ≡ t
      bounds e = sym over_same ∙ sym (ap over_bounds found.1) ∙ e

      pub over_bound : over_bounds s ≡ true → (18, no_sections) ≡ open_answer b
      unfolding open_answer first form_tests
      over_bound e = rw (le-ltb 4160 (length b) short, found.0, bounds e)

      pub taken : over_bounds s ≡ false → (0, s) ≡ open_answer b
      unfolding open_answer first form_tests
      taken e = ap (λ z. (0, z)) found.1 ∙ rw (le-ltb 4160 (length b) short, found.0, bounds e)

-- ---- sections as they are stored
-- a run at the start of the room is a section laid there
pub stamp_laid : (f : ℕ → ℤ) (n : ℕ) (room t : List ℤ) → n ≤ length room → t ≡ stamp f 0 n room → t ≡ laid (listing n f) room
unfolding laid
stamp_laid f n room t h e = ext_get_or (pos 0) t (listing n f ++ drop (length (listing n f)) room) (long ∙ sym laid_long) (λ k p. at k (omega (arith, long)) (lt_or_le k n))
  where
    long : length t ≡ length room
    long = ap length e ∙ stamp_length f 0 n room

    laid_long : length (listing n f ++ drop (length (listing n f)) room) ≡ length room
    laid_long = length-append (listing n f) _ ∙ omega (arith, length-drop (length (listing n f)) room, length_listing n f)

    at : (k : ℕ) → k < length room → (k < n) ⊎ (n ≤ k) → get_or t k (pos 0) ≡ get_or (listing n f ++ drop (length (listing n f)) room) k (pos 0)
    at k p (inl q) = stamp_at f 0 n room t k k (pos 0) e (omega arith) q (omega arith) ∙ sym (get_or-append (listing n f) _ (pos 0) k (omega (arith, length_listing n f)) ∙ at_listing n f (pos 0) k q)
    at k p (inr q) =
        let l = length (listing n f) in
        stamp_after f 0 n room t k (pos 0) e (omega arith)
        ∙ sym (ap (λ i. get_or (listing n f ++ drop l room) i (pos 0)) {x = k} {y = l + (k - n)} (omega (arith, length_listing n f)) ∙ get_or-append-add (listing n f) (drop l room) (k - n) (pos 0) ∙ get_or-drop l room (k - n) (pos 0) ∙ ap (λ i. get_or room i (pos 0)) (omega (arith, length_listing n f)))

-- ---- what the reader found
pub record Found (b : List ℕ) (s : Sections) : Type 0 where
  pub number : first (form_tests b) ≡ 0
  pub same : s ≡ sections_of b
  pub few_units : s.units ≤ 20
  pub few_deblocked : s.deblocked ≤ 1024
  pub few_cdef : s.cdef ≤ 1024
  pub long : length b ≡ 2 * (12 + s.units + s.deblocked + s.cdef)

abbrev by_number : ℕ → Sections → ℕ × Sections
by_number n t = (n, if_done n t no_sections)

numbered : (n : ℕ) (s t : Sections) → (0, s) ≡ by_number n t → (n ≡ 0) × (s ≡ t)
numbered zero s t q = (refl, ap (λ p. p.1) q)
numbered (suc n) s t q = absurd (omega (arith, ap (λ p. p.0) q))

pub found_in : (b : List ℕ) (s : Sections) → (0, s) ≡ open_answer b → Found b s
unfolding open_answer job_of sections_of
found_in b s q =
    let r = numbered (first (form_tests b)) s (sections_of b) q in
    let p = passed b r.0 in
    let l = bounded (job_of b) p.2 in
    let u : s.units ≡ unit_count b = ap (λ z. z.units) r.1 in
    let d : s.deblocked ≡ deblocked_count b = ap (λ z. z.deblocked) r.1 in
    let c : s.cdef ≡ cdef_count b = ap (λ z. z.cdef) r.1 in
    record {
      number = r.0;
      same = r.1;
      few_units = omega (arith, l.units, length_listing (unit_count b) (λ k. signed16 (wide b (10 + k))));
      few_deblocked = omega (arith, l.deblocked, length_listing (deblocked_count b) (λ k. pos (wide b (11 + unit_count b + k))));
      few_cdef = omega (arith, l.cdef, length_listing (cdef_count b) (λ k. pos (wide b (12 + unit_count b + deblocked_count b + k))));
      long = omega (arith, (counts_fit b p.1).1);
    }

pub room_refused : (b : List ℕ) (n : ℕ) → 1 ≤ n → (n, no_sections) ≡ open_answer b → (l room : List ℤ) → room ≡ open_room b l room
unfolding open_answer open_room
room_refused b n h q l room = sym (ap (λ t. cond t (laid l room) room) (ne_eqb (first (form_tests b)) 0 (λ e. omega (arith, ap (λ p. p.0) q))))

module _ (b : List ℕ) (s : Sections) (f : Found b s) where
  room_done : (l room : List ℤ) → laid l room ≡ open_room b l room
  unfolding open_room
  room_done l room = sym (ap (λ t. cond t (laid l room) room) (eq-eqb (first (form_tests b)) 0 f.number))

  pub units_laid : (room t : List ℤ) → length room ≡ 20 → t ≡ stamp (λ k. signed16 (wide b (10 + k))) 0 s.units room → t ≡ open_room b (job_of b).units room
  unfolding job_of sections_of
  units_laid room t h e = stamp_laid _ s.units room t (omega (arith, f.few_units)) e ∙ ap (λ n. laid (listing n (λ k. signed16 (wide b (10 + k)))) room) (ap (λ z. z.units) f.same) ∙ room_done _ room

  pub deblocked_laid : (room t : List ℤ) → length room ≡ 1024 → t ≡ stamp (λ k. pos (wide b (11 + s.units + k))) 0 s.deblocked room → t ≡ open_room b (job_of b).deblocked room
  unfolding job_of sections_of
  deblocked_laid room t h e = stamp_laid _ s.deblocked room t (omega (arith, f.few_deblocked)) e ∙ ap (λ z. laid (listing z.deblocked (λ k. pos (wide b (11 + z.units + k)))) room) f.same ∙ room_done _ room

  pub cdef_laid : (room t : List ℤ) → length room ≡ 1024 → t ≡ stamp (λ k. pos (wide b (12 + s.units + s.deblocked + k))) 0 s.cdef room → t ≡ open_room b (job_of b).cdef room
  unfolding job_of sections_of
  cdef_laid room t h e = stamp_laid _ s.cdef room t (omega (arith, f.few_cdef)) e ∙ ap (λ z. laid (listing z.cdef (λ k. pos (wide b (12 + z.units + z.deblocked + k)))) room) f.same ∙ room_done _ room
