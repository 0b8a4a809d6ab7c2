-- A job has one form: what is written is read back, and what is read without number 17 is written back byte for byte.
use mathlib.Core.Path.{◌≡◌, refl, sym, ap, ◌∙◌}
use mathlib.Core.Bool.{Bool, true, false, cond, not, ◌&&◌, ◌||◌}
use mathlib.Core.List.{List, [], ◌∷◌, ◌++◌, map, append_assoc}
use Prim.Native.Nat.{ℕ, zero, suc, ◌+◌, ◌*◌, ◌/◌, ◌%◌, ◌-◌, ◌≤◌, ◌<◌}
use native.Mathlib.Omega.{arith}
use lib.IntN.{ℤ, pos, negsuc, nat_abs}
use lib.ListN.{length, get_or, length-append, length-map, get_or-map, get_or-append}
use lib.Seq.{ext_get_or, get_or-append-add}
use lib.Dec.{T, eqb, ltb, leb, leb→le, le→leb, ltb→lt, lt→ltb, eqb→eq, nltb→le}
use borrow.Author.Tests.{eq-eqb, lt-ltb, le-ltb}
use Rattle.laws.specs.Congruence.{ap2, ap3, ap4}
use Rattle.laws.specs.Tests.{Test, below, above, test, and_l, and_r, and_both, not_no, false_not, or_no}
use Rattle.laws.specs.Lists.{listing, length_listing, at_listing, all, all_at}
use Rattle.standard.specs.declared.Frame.{Frame}
use Rattle.standard.specs.Arithmetic.{wrap}
use Rattle.standard.specs.Refusals.{wide, first}
use Rattle.standard.specs.Units.{between}
use Rattle.standard.specs.Job.{Job, entry_bytes, section, frame_entries, job_entries, job_bytes, unit_count, deblocked_count, cdef_count, signed16, frame_of, job_of, no17, no18, form_tests}

-- ---- the extra results in their order: 18 for a longer input whatever its form, 17 for no job whatever its bounds, then 18
pub longer_18 : (b : List ℕ) → 4160 < length b → first (form_tests b) ≡ 18
unfolding first form_tests
longer_18 b h = rw (lt-ltb 4160 (length b) h)

pub no_job_17 : (b : List ℕ) → length b ≤ 4160 → no17 b ≡ true → first (form_tests b) ≡ 17
unfolding first form_tests
no_job_17 b h e = rw (le-ltb 4160 (length b) h, e)

pub over_18 : (b : List ℕ) → length b ≤ 4160 → no17 b ≡ false → no18 (job_of b) ≡ true → first (form_tests b) ≡ 18
unfolding first form_tests
over_18 b h e o = rw (le-ltb 4160 (length b) h, e, o)

-- ---- entries and bytes
pub length_bytes : (l : List ℕ) → length (entry_bytes l) ≡ 2 * length l
unfolding entry_bytes
length_bytes [] = refl
length_bytes (n ∷ l) = omega (arith, length_bytes l)

pub wide_bytes : (l : List ℕ) (k : ℕ) → wide (entry_bytes l) k ≡ get_or l k 0
unfolding wide entry_bytes
wide_bytes [] k = refl
wide_bytes (n ∷ l) zero = omega arith
wide_bytes (n ∷ l) (suc k) =
    let e : 2 * suc k ≡ suc (suc (2 * k)) = omega arith in
    let f : 2 * suc k + 1 ≡ suc (suc (2 * k + 1)) = omega arith in
    ap2 (λ (a b : ℕ). get_or (entry_bytes (n ∷ l)) a 0 + 256 * get_or (entry_bytes (n ∷ l)) b 0) e f ∙ wide_bytes l k

-- 16 bits, and what they stand for
signed_wrap : (n : ℕ) → n < 65536 → wrap 65536 (signed16 n) ≡ n
unfolding wrap signed16
signed_wrap n h = go (ltb n 32768) (test n 32768)
  where
    go : (b : Bool) → Test n 32768 b → wrap 65536 (signed16 n) ≡ n
    go true (below p) = simp (lt-ltb n 32768 p) (omega arith)
    go false (above p) = simp (le-ltb n 32768 p, lt-ltb n 65536 h) (omega arith)

wrap_signed : (z : ℤ) → T (between (negsuc 32767) (pos 32767) z) → signed16 (wrap 65536 z) ≡ z
unfolding wrap signed16
wrap_signed (pos n) h =
    let p : n ≤ 32767 = leb→le n 32767 h in
    let e : n % 65536 ≡ n = omega arith in
    rw e (simp (lt-ltb n 32768 (omega arith)))
wrap_signed (negsuc n) h =
    let p : n ≤ 32767 = leb→le n 32767 (and_l (leb n 32767) true h) in
    let e : 65536 - suc (n % 65536) ≡ 65535 - n = omega arith in
    rw e (simp (le-ltb (65535 - n) 32768 (omega arith), lt-ltb (65535 - n) 65536 (omega arith)) (ap negsuc (omega arith)))

-- ---- sections among the entries: T is ten entries (the frame's section and the units' count), U, D and C the entries of the others
abbrev parts : List ℕ → List ℕ → List ℕ → List ℕ → List ℕ
parts T U D C = T ++ (U ++ (section D ++ section C))

module _ (T U D C : List ℕ) (ten : length T ≡ 10) where
  part_u : (k : ℕ) → k < length U → get_or (parts T U D C) (10 + k) 0 ≡ get_or U k 0
  part_u k h = ap (λ n. get_or (parts T U D C) (n + k) 0) (sym ten) ∙ get_or-append-add T _ k 0 ∙ get_or-append U _ 0 k h

  past_u : (k : ℕ) → get_or (parts T U D C) (10 + length U + k) 0 ≡ get_or (section D ++ section C) k 0
  past_u k = ap (λ n. get_or (parts T U D C) n 0) {y = length T + (length U + k)} (omega (arith, ten)) ∙ get_or-append-add T _ _ 0 ∙ get_or-append-add U _ k 0

  past_d : (k : ℕ) → get_or (parts T U D C) (11 + length U + length D + k) 0 ≡ get_or (section C) k 0
  past_d k = ap (λ n. get_or (parts T U D C) n 0) {y = 10 + length U + suc (length D + k)} (omega arith) ∙ past_u (suc (length D + k)) ∙ get_or-append-add D _ k 0

  count_d : get_or (parts T U D C) (10 + length U) 0 ≡ length D
  count_d = ap (λ n. get_or (parts T U D C) n 0) (omega arith) ∙ past_u 0

  part_d : (k : ℕ) → k < length D → get_or (parts T U D C) (11 + length U + k) 0 ≡ get_or D k 0
  part_d k h = ap (λ n. get_or (parts T U D C) n 0) {y = 10 + length U + suc k} (omega arith) ∙ past_u (suc k) ∙ get_or-append D _ 0 k h

  count_c : get_or (parts T U D C) (11 + length U + length D) 0 ≡ length C
  count_c = ap (λ n. get_or (parts T U D C) n 0) (omega arith) ∙ past_d 0

  part_c : (k : ℕ) → get_or (parts T U D C) (12 + length U + length D + k) 0 ≡ get_or C k 0
  part_c k = ap (λ n. get_or (parts T U D C) n 0) {y = 11 + length U + length D + suc k} (omega arith) ∙ past_d (suc k)

  parts_long : length (parts T U D C) ≡ 12 + length U + length D + length C
  parts_long = length-append T _ ∙ omega (arith, ten, length-append U (section D ++ section C), length-append D (section C))

-- ---- what is written is read back
abbrev is16 : ℕ → Bool
is16 n = ltb n 65536

-- the numbers of a job, all 16 bits wide
pub record Sixteen (j : Job) : Type 0 where
  pub frame : T (all is16 (frame_entries j.frame))
  pub units : T (all (between (negsuc 32767) (pos 32767)) j.units)
  pub deblocked : T (all (between (pos 0) (pos 65535)) j.deblocked)
  pub cdef : T (all (between (pos 0) (pos 65535)) j.cdef)

pub listing_is : {A : Type 0} (z : A) (n : ℕ) (f : ℕ → A) (l : List A) → n ≡ length l → ((k : ℕ) → k < length l → f k ≡ get_or l k z) → listing n f ≡ l
listing_is z n f l e h = ext_get_or z _ l (length_listing n f ∙ e) (λ k p. at_listing n f z k (omega (arith, length_listing n f)) ∙ h k (omega (arith, length_listing n f)))

unsigned : (z : ℤ) → T (between (pos 0) (pos 65535) z) → pos (nat_abs z) ≡ z
unsigned (pos n) h = refl
unsigned (negsuc n) h = absurd h

abbrev heading : Frame → ℕ → List ℕ
heading f n = section (frame_entries f) ++ (n ∷ [])

module _ (j : Job) where
  abbrev U : List ℕ
  U = map (wrap 65536) j.units

  abbrev D : List ℕ
  D = map nat_abs j.deblocked

  abbrev C : List ℕ
  C = map nat_abs j.cdef

  abbrev entries : List ℕ
  entries = parts (heading j.frame (length U)) U D C

  job_entries_lem : job_entries j ≡ entries
  unfolding job_entries
  job_entries_lem = ap (λ l. heading j.frame (length U) ++ l) (append_assoc U (section D) (section C))

  at_entry : (k : ℕ) → wide (job_bytes j) k ≡ get_or entries k 0
  unfolding job_bytes
  at_entry k = wide_bytes (job_entries j) k ∙ ap (λ l. get_or l k 0) job_entries_lem

  units_written : unit_count (job_bytes j) ≡ length j.units
  units_written = at_entry 9 ∙ length-map j.units (wrap 65536)

  deblocked_written : deblocked_count (job_bytes j) ≡ length j.deblocked
  deblocked_written =
      at_entry (10 + unit_count (job_bytes j)) ∙ ap (λ n. get_or entries (10 + n) 0) (at_entry 9)
      ∙ count_d (heading j.frame (length U)) U D C refl ∙ length-map j.deblocked nat_abs

  cdef_written : cdef_count (job_bytes j) ≡ length j.cdef
  cdef_written =
      at_entry (11 + unit_count (job_bytes j) + deblocked_count (job_bytes j))
      ∙ ap2 (λ m n. get_or entries (11 + m + n) 0) (at_entry 9) (deblocked_written ∙ sym (length-map j.deblocked nat_abs))
      ∙ count_c (heading j.frame (length U)) U D C refl ∙ length-map j.cdef nat_abs

  frame_written : frame_of (job_bytes j) ≡ j.frame
  unfolding frame_of
  frame_written = rw (at_entry 1, at_entry 2, at_entry 3, at_entry 4, at_entry 5, at_entry 6, at_entry 7, at_entry 8)

  written_long : length (job_bytes j) ≡ 2 * (12 + unit_count (job_bytes j) + deblocked_count (job_bytes j) + cdef_count (job_bytes j))
  unfolding job_bytes
  written_long =
      length_bytes (job_entries j) ∙ ap (λ l. 2 * length l) job_entries_lem
      ∙ omega (arith, parts_long (heading j.frame (length U)) U D C refl, length-map j.units (wrap 65536), length-map j.deblocked nat_abs, length-map j.cdef nat_abs, units_written, deblocked_written, cdef_written)

  -- 17 is not given
  pub written_form : no17 (job_bytes j) ≡ false
  unfolding no17
  written_form = ap2 (λ a c. not (a && c)) (eq-eqb _ _ (at_entry 0)) (eq-eqb _ _ written_long)

  module _ (s : Sixteen j) where
    units_read : listing (unit_count (job_bytes j)) (λ k. signed16 (wide (job_bytes j) (10 + k))) ≡ j.units
    unfolding wrap
    units_read = listing_is (pos 0) _ _ j.units units_written (λ k h.
        ap signed16 (at_entry (10 + k) ∙ part_u (heading j.frame (length U)) U D C refl k (omega (arith, length-map j.units (wrap 65536))) ∙ get_or-map (wrap 65536) j.units k (pos 0))
        ∙ wrap_signed _ (all_at (between (negsuc 32767) (pos 32767)) (pos 0) tt j.units s.units k))

    deblocked_read : listing (deblocked_count (job_bytes j)) (λ k. pos (wide (job_bytes j) (11 + unit_count (job_bytes j) + k))) ≡ j.deblocked
    deblocked_read = listing_is (pos 0) _ _ j.deblocked deblocked_written (λ k h.
        ap pos (at_entry (11 + unit_count (job_bytes j) + k) ∙ ap (λ n. get_or entries (11 + n + k) 0) (at_entry 9)
        ∙ part_d (heading j.frame (length U)) U D C refl k (omega (arith, length-map j.deblocked nat_abs)) ∙ get_or-map nat_abs j.deblocked k (pos 0))
        ∙ unsigned _ (all_at (between (pos 0) (pos 65535)) (pos 0) tt j.deblocked s.deblocked k))

    cdef_read : listing (cdef_count (job_bytes j)) (λ k. pos (wide (job_bytes j) (12 + unit_count (job_bytes j) + deblocked_count (job_bytes j) + k))) ≡ j.cdef
    cdef_read = listing_is (pos 0) _ _ j.cdef cdef_written (λ k h.
        ap pos (at_entry (12 + unit_count (job_bytes j) + deblocked_count (job_bytes j) + k)
        ∙ ap2 (λ m n. get_or entries (12 + m + n + k) 0) (at_entry 9) (deblocked_written ∙ sym (length-map j.deblocked nat_abs))
        ∙ part_c (heading j.frame (length U)) U D C refl k ∙ get_or-map nat_abs j.cdef k (pos 0))
        ∙ unsigned _ (all_at (between (pos 0) (pos 65535)) (pos 0) tt j.cdef s.cdef k))

    pub read_written : job_of (job_bytes j) ≡ j
    unfolding job_of
    read_written = ap4 (λ f u d c. record { frame = f; units = u; deblocked = d; cdef = c }) frame_written units_read deblocked_read cdef_read

-- ---- what is read without number 17 is written back
pub listing_same : {A : Type 0} (n : ℕ) (f g : ℕ → A) → ((k : ℕ) → k < n → f k ≡ g k) → listing n f ≡ listing n g
unfolding listing
listing_same zero f g h = refl
listing_same (suc n) f g h = ap2 ◌∷◌ (h 0 (omega arith)) (listing_same n _ _ (λ k p. h (suc k) (omega arith)))

listing_map : {A B : Type 0} (g : A → B) (n : ℕ) (f : ℕ → A) → map g (listing n f) ≡ listing n (λ k. g (f k))
unfolding listing
listing_map g zero f = refl
listing_map g (suc n) f = ap (λ l. g (f 0) ∷ l) (listing_map g n (λ k. f (suc k)))

pub listing_join : {A : Type 0} (m n : ℕ) (f g : ℕ → A) → ((k : ℕ) → g k ≡ f (m + k)) → listing m f ++ listing n g ≡ listing (m + n) f
unfolding listing
listing_join zero n f g h = listing_same n g f (λ k p. h k ∙ ap f (omega arith)) ∙ ap (λ m. listing m f) {x = n} {y = 0 + n} (omega arith)
listing_join (suc m) n f g h = ap (λ l. f 0 ∷ l) (listing_join m n (λ k. f (suc k)) g (λ k. h k ∙ ap f (omega arith))) ∙ ap (λ i. listing i f) {x = suc (m + n)} {y = suc m + n} (omega arith)

abbrev is8 : ℕ → Bool
is8 n = ltb n 256

-- bytes, two by two
pub record Bytes (b : List ℕ) : Type 0 where
  pub below_256 : T (all is8 b)

pub next_wide : (x y : ℕ) (b : List ℕ) (k : ℕ) → wide (x ∷ y ∷ b) (suc k) ≡ wide b k
unfolding wide
next_wide x y b k =
    let e : 2 * suc k ≡ suc (suc (2 * k)) = omega arith in
    let f : 2 * suc k + 1 ≡ suc (suc (2 * k + 1)) = omega arith in
    ap2 (λ (m n : ℕ). get_or (x ∷ y ∷ b) m 0 + 256 * get_or (x ∷ y ∷ b) n 0) e f

bytes_back : (n : ℕ) (b : List ℕ) → Bytes b → length b ≡ 2 * n → entry_bytes (listing n (wide b)) ≡ b
unfolding entry_bytes listing all wide
bytes_back zero [] h e = refl
bytes_back zero (x ∷ b) h e = absurd (omega arith)
bytes_back (suc n) [] h e = absurd (omega arith)
bytes_back (suc n) (x ∷ []) h e = absurd (omega arith)
bytes_back (suc n) (x ∷ y ∷ b) h e =
    let t = and_r (ltb x 256) (ltb y 256 && all is8 b) h.below_256 in
    let p : x < 256 = ltb→lt x 256 (and_l (ltb x 256) (ltb y 256 && all is8 b) h.below_256) in
    let q : y < 256 = ltb→lt y 256 (and_l (ltb y 256) (all is8 b) t) in
    let low : (x + 256 * y) % 256 ≡ x = omega arith in
    let high : (x + 256 * y) / 256 ≡ y = omega arith in
    ap3 (λ m n l. m ∷ n ∷ l) low high
    (ap entry_bytes (listing_same n _ _ (λ k _. next_wide x y b k)) ∙ bytes_back n b (record { below_256 = and_r (ltb y 256) (all is8 b) t }) (omega arith))

abbrev entry_count : List ℕ → ℕ
entry_count b = 12 + unit_count b + deblocked_count b + cdef_count b

-- where 17 is not given the counts are the bytes'
pub counts_fit : (b : List ℕ) → no17 b ≡ false → (wide b 0 ≡ 8) × (length b ≡ 2 * entry_count b)
unfolding no17
counts_fit b form =
    let t = not_no (eqb (wide b 0) 8 && eqb (length b) (2 * entry_count b)) form in
    (eqb→eq (wide b 0) 8 (and_l (eqb (wide b 0) 8) (eqb (length b) (2 * entry_count b)) t), eqb→eq (length b) (2 * entry_count b) (and_r (eqb (wide b 0) 8) (eqb (length b) (2 * entry_count b)) t))

-- a section of f's entries, after its count
section_back : (n at : ℕ) (f g : ℕ → ℕ) (l : List ℕ) → l ≡ listing n g → f at ≡ n → ((k : ℕ) → g k ≡ f (at + suc k)) → section l ≡ listing (suc n) (λ k. f (at + k))
unfolding listing
section_back n at f g l e c h = ap section e ∙ ap2 ◌∷◌ (length_listing n g ∙ sym c ∙ ap f {x = at} {y = at + 0} (omega arith)) (listing_same n _ _ (λ k _. h k))

module _ (b : List ℕ) (bytes : Bytes b) where
  pub wide_low : (k : ℕ) → wide b k < 65536
  unfolding wide
  wide_low k =
      let p : get_or b (2 * k) 0 < 256 = ltb→lt (get_or b (2 * k) 0) 256 (all_at is8 0 tt b bytes.below_256 (2 * k)) in
      let q : get_or b (2 * k + 1) 0 < 256 = ltb→lt (get_or b (2 * k + 1) 0) 256 (all_at is8 0 tt b bytes.below_256 (2 * k + 1)) in
      omega arith

  units_back : map (wrap 65536) (job_of b).units ≡ listing (unit_count b) (λ k. wide b (10 + k))
  unfolding job_of
  units_back = listing_map (wrap 65536) _ _ ∙ listing_same _ _ _ (λ k _. signed_wrap (wide b (10 + k)) (wide_low (10 + k)))

  deblocked_back : section (map nat_abs (job_of b).deblocked) ≡ listing (suc (deblocked_count b)) (λ k. wide b (10 + unit_count b + k))
  unfolding job_of
  deblocked_back =
      section_back (deblocked_count b) (10 + unit_count b) (wide b) (λ k. wide b (11 + unit_count b + k)) _ (listing_map nat_abs _ _) refl (λ k. ap (wide b) {x = 11 + unit_count b + k} {y = 10 + unit_count b + suc k} (omega arith))

  cdef_back : section (map nat_abs (job_of b).cdef) ≡ listing (suc (cdef_count b)) (λ k. wide b (11 + unit_count b + deblocked_count b + k))
  unfolding job_of
  cdef_back =
      section_back (cdef_count b) (11 + unit_count b + deblocked_count b) (wide b) (λ k. wide b (12 + unit_count b + deblocked_count b + k)) _ (listing_map nat_abs _ _) refl
      (λ k. ap (wide b) {x = 12 + unit_count b + deblocked_count b + k} {y = 11 + unit_count b + deblocked_count b + suc k} (omega arith))

  heading_back : wide b 0 ≡ 8 → heading (job_of b).frame (length (map (wrap 65536) (job_of b).units)) ≡ listing 10 (wide b)
  unfolding job_of frame_of listing
  heading_back eight =
      ap2 (λ m n. m ∷ wide b 1 ∷ wide b 2 ∷ wide b 3 ∷ wide b 4 ∷ wide b 5 ∷ wide b 6 ∷ wide b 7 ∷ wide b 8 ∷ n ∷ []) (sym eight) (ap length units_back ∙ length_listing (unit_count b) _)

  entries_back : wide b 0 ≡ 8 → entries (job_of b) ≡ listing (10 + (unit_count b + (suc (deblocked_count b) + suc (cdef_count b)))) (wide b)
  entries_back eight =
      ap4 (λ t u d c. t ++ (u ++ (d ++ c))) (heading_back eight) units_back deblocked_back cdef_back
      ∙ ap (λ l. listing 10 (wide b) ++ (listing (unit_count b) (λ k. wide b (10 + k)) ++ l)) (listing_join (suc (deblocked_count b)) (suc (cdef_count b)) _ _ (λ k. ap (wide b) (omega arith)))
      ∙ ap (λ l. listing 10 (wide b) ++ l) (listing_join (unit_count b) (suc (deblocked_count b) + suc (cdef_count b)) _ _ (λ k. ap (wide b) (omega arith)))
      ∙ listing_join 10 (unit_count b + (suc (deblocked_count b) + suc (cdef_count b))) _ _ (λ k. refl)

  pub written_back : no17 b ≡ false → job_bytes (job_of b) ≡ b
  unfolding job_bytes
  written_back form =
      let fit = counts_fit b form in
      ap entry_bytes (job_entries_lem (job_of b) ∙ entries_back fit.0) ∙ bytes_back (10 + (unit_count b + (suc (deblocked_count b) + suc (cdef_count b)))) b bytes (fit.1 ∙ omega arith)

-- ---- jobs within the bounds and the bytes that the reader takes are the same, one for one
pub all_listing : {A : Type 0} (g : A → Bool) (n : ℕ) (f : ℕ → A) → ((k : ℕ) → T (g (f k))) → T (all g (listing n f))
unfolding listing all
all_listing g zero f h = tt
all_listing g (suc n) f h = and_both (g (f 0)) (all g (listing n (λ k. f (suc k)))) (h 0) (all_listing g n (λ k. f (suc k)) (λ k. h (suc k)))

signed_fits : (n : ℕ) → n < 65536 → T (between (negsuc 32767) (pos 32767) (signed16 n))
unfolding signed16
signed_fits n h = go (ltb n 32768) (test n 32768)
  where
    go : (b : Bool) → Test n 32768 b → T (between (negsuc 32767) (pos 32767) (signed16 n))
    go true (below p) = simp (lt-ltb n 32768 p) (le→leb n 32767 (omega arith))
    go false (above p) = simp (le-ltb n 32768 p, lt-ltb n 65536 h) (and_both (leb (65536 - suc n) 32767) true (le→leb (65536 - suc n) 32767 (omega arith)) tt)

unsigned_fits : (n : ℕ) → n < 65536 → T (between (pos 0) (pos 65535) (pos n))
unsigned_fits n h = and_both (leb 0 n) (leb n 65535) (le→leb 0 n (omega arith)) (le→leb n 65535 (omega arith))

pub sixteen : (b : List ℕ) → Bytes b → Sixteen (job_of b)
unfolding job_of frame_of listing
sixteen b bytes = record {
  frame = all_listing is16 8 (λ k. wide b (suc k)) (λ k. lt→ltb (wide b (suc k)) 65536 (wide_low b bytes (suc k)));
  units = all_listing (between (negsuc 32767) (pos 32767)) (unit_count b) (λ k. signed16 (wide b (10 + k))) (λ k. signed_fits (wide b (10 + k)) (wide_low b bytes (10 + k)));
  deblocked = all_listing (between (pos 0) (pos 65535)) (deblocked_count b) (λ k. pos (wide b (11 + unit_count b + k))) (λ k. unsigned_fits (wide b (11 + unit_count b + k)) (wide_low b bytes (11 + unit_count b + k)));
  cdef = all_listing (between (pos 0) (pos 65535)) (cdef_count b) (λ k. pos (wide b (12 + unit_count b + deblocked_count b + k))) (λ k. unsigned_fits (wide b (12 + unit_count b + deblocked_count b + k)) (wide_low b bytes (12 + unit_count b + deblocked_count b + k)));
}

all_map : {A B : Type 0} (g : B → Bool) (h : A → Bool) (f : A → B) → ((a : A) → T (h a) → T (g (f a))) → (l : List A) → T (all h l) → T (all g (map f l))
unfolding all
all_map g h f i [] t = tt
all_map g h f i (a ∷ l) t = and_both (g (f a)) (all g (map f l)) (i a (and_l (h a) (all h l) t)) (all_map g h f i l (and_r (h a) (all h l) t))

all_append : {A : Type 0} (g : A → Bool) (l m : List A) → T (all g l) → T (all g m) → T (all g (l ++ m))
unfolding all
all_append g [] m s t = t
all_append g (a ∷ l) m s t = and_both (g a) (all g (l ++ m)) (and_l (g a) (all g l) s) (all_append g l m (and_r (g a) (all g l) s) t)

bytes_of : (l : List ℕ) → T (all is16 l) → T (all is8 (entry_bytes l))
unfolding all entry_bytes
bytes_of [] t = tt
bytes_of (n ∷ l) t =
    let p : n < 65536 = ltb→lt n 65536 (and_l (ltb n 65536) (all is16 l) t) in
    and_both (ltb (n % 256) 256) (ltb (n / 256) 256 && all is8 (entry_bytes l)) (lt→ltb (n % 256) 256 (omega arith))
    (and_both (ltb (n / 256) 256) (all is8 (entry_bytes l)) (lt→ltb (n / 256) 256 (omega arith)) (bytes_of l (and_r (ltb n 65536) (all is16 l) t)))

section_wide : (l : List ℕ) → length l < 65536 → T (all is16 l) → T (all is16 (section l))
unfolding all
section_wide l h t = and_both (ltb (length l) 65536) (all is16 l) (lt→ltb (length l) 65536 h) t

wrap_wide : (z : ℤ) → T (between (negsuc 32767) (pos 32767) z) → T (ltb (wrap 65536 z) 65536)
unfolding wrap
wrap_wide (pos n) h = lt→ltb (n % 65536) 65536 (omega arith)
wrap_wide (negsuc n) h = lt→ltb (65536 - suc (n % 65536)) 65536 (omega arith)

abs_wide : (z : ℤ) → T (between (pos 0) (pos 65535) z) → T (ltb (nat_abs z) 65536)
abs_wide (pos n) h = lt→ltb n 65536 (omega (arith, leb→le n 65535 (and_r (leb 0 n) (leb n 65535) h)))
abs_wide (negsuc n) h = absurd h

-- the bounds, as numbers
pub record Bounded (j : Job) : Type 0 where
  pub width : j.frame.upscaled_width ≤ 8
  pub height : j.frame.frame_height ≤ 128
  pub units : length j.units ≤ 20
  pub deblocked : length j.deblocked ≤ 1024
  pub cdef : length j.cdef ≤ 1024

not_over : (m n : ℕ) → ltb m n ≡ false → n ≤ m
not_over m n e = nltb→le m n (false_not (ltb m n) e)

pub bounded : (j : Job) → no18 j ≡ false → Bounded j
unfolding no18
bounded j e =
    let a = ltb 8 j.frame.upscaled_width in
    let b = ltb 128 j.frame.frame_height in
    let c = ltb 20 (length j.units) in
    let d = ltb 1024 (length j.deblocked) in
    let p = or_no (a || b || c || d) (ltb 1024 (length j.cdef)) e in
    let q = or_no (a || b || c) d p.0 in
    let r = or_no (a || b) c q.0 in
    let s = or_no a b r.0 in
    record {
      width = not_over 8 j.frame.upscaled_width s.0;
      height = not_over 128 j.frame.frame_height s.1;
      units = not_over 20 (length j.units) r.1;
      deblocked = not_over 1024 (length j.deblocked) q.1;
      cdef = not_over 1024 (length j.cdef) p.1;
    }

entries_wide : (j : Job) → Sixteen j → Bounded j → T (all is16 (job_entries j))
unfolding job_entries
entries_wide j s r =
    all_append is16 (section (frame_entries j.frame) ++ section (U j) ++ section (D j)) (section (C j))
    (all_append is16 (section (frame_entries j.frame) ++ section (U j)) (section (D j))
    (all_append is16 (section (frame_entries j.frame)) (section (U j))
    (section_wide (frame_entries j.frame) (omega arith) s.frame)
    (section_wide (U j) (omega (arith, length-map j.units (wrap 65536), r.units)) (all_map is16 (between (negsuc 32767) (pos 32767)) (wrap 65536) wrap_wide j.units s.units)))
    (section_wide (D j) (omega (arith, length-map j.deblocked nat_abs, r.deblocked)) (all_map is16 (between (pos 0) (pos 65535)) nat_abs abs_wide j.deblocked s.deblocked)))
    (section_wide (C j) (omega (arith, length-map j.cdef nat_abs, r.cdef)) (all_map is16 (between (pos 0) (pos 65535)) nat_abs abs_wide j.cdef s.cdef))

written_bytes : (j : Job) → Sixteen j → Bounded j → Bytes (job_bytes j)
unfolding job_bytes
written_bytes j s r = record { below_256 = bytes_of (job_entries j) (entries_wide j s r) }

-- a job within the bounds, as the writer leaves it: bytes that the reader takes, and takes back to that job
pub record Taken (j : Job) : Type 0 where
  pub bytes : Bytes (job_bytes j)
  pub number : first (form_tests (job_bytes j)) ≡ 0
  pub job : job_of (job_bytes j) ≡ j

pub taken : (j : Job) → Sixteen j → no18 j ≡ false → Taken j
unfolding first form_tests
taken j s e =
    let r = bounded j e in
    let short : length (job_bytes j) ≤ 4160 = omega (arith, written_long j, units_written j, deblocked_written j, cdef_written j, r.units, r.deblocked, r.cdef) in
    record {
      bytes = written_bytes j s r;
      number = rw (le-ltb 4160 (length (job_bytes j)) short, written_form j, read_written j s, e);
      job = read_written j s;
    }

-- bytes that the reader takes are the ones that the writer leaves for the job that was read, which is within the bounds
pub record Given (b : List ℕ) : Type 0 where
  pub wide16 : Sixteen (job_of b)
  pub bounds : no18 (job_of b) ≡ false
  pub back : job_bytes (job_of b) ≡ b

none_of : (a b c : Bool) → ◌≡◌ {A = ℕ} (cond a 18 (cond b 17 (cond c 18 0))) 0 → (a ≡ false) × (b ≡ false) × (c ≡ false)
none_of true b c e = absurd (omega arith)
none_of false true c e = absurd (omega arith)
none_of false false true e = absurd (omega arith)
none_of false false false e = (refl, refl, refl)

-- the tests that the reader passed
pub passed : (b : List ℕ) → first (form_tests b) ≡ 0 → (ltb 4160 (length b) ≡ false) × (no17 b ≡ false) × (no18 (job_of b) ≡ false)
unfolding first form_tests
passed b e = none_of (ltb 4160 (length b)) (no17 b) (no18 (job_of b)) e

pub given : (b : List ℕ) → Bytes b → first (form_tests b) ≡ 0 → Given b
given b bytes e = record { wide16 = sixteen b bytes; bounds = (passed b e).2; back = written_back b bytes (passed b e).1 }
