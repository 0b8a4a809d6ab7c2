-- Entries of bytes that are taken two at a time, or cut in two at an entry.
use Rattle.std.proofs.Common.{◌≡◌, refl, sym, ap, ◌∙◌, ℕ, zero, suc, ◌+◌, ◌*◌, ◌<◌, ◌≤◌, List, [], ◌∷◌, ◌++◌, length, slice_index_or, slice_range, take, ◌-◌, arith}
use Rattle.std.proofs.Math.Seq.{take-length}
use Rattle.records.specs.Entries.{entries}

pub entries_none : (bs : List ℕ) → length bs < 2 → entries bs ≡ []
unfolding entries
entries_none [] h = refl
entries_none (low ∷ []) h = refl
entries_none (low ∷ high ∷ rest) h = absurd (omega (arith, h))

pub entries_more : (bs : List ℕ) → 2 ≤ length bs → entries bs ≡ (slice_index_or bs 0 0 + slice_index_or bs 1 0 * 256) ∷ entries (slice_range bs 2 (length bs))
unfolding entries
entries_more [] h = absurd (omega (arith, h))
entries_more (low ∷ []) h = absurd (omega (arith, h))
entries_more (low ∷ high ∷ rest) h =
    let number : low + 256 * high ≡ low + high * 256 = omega arith in
    let fewer : suc (suc (length rest)) - 2 ≡ length rest = omega arith in
    let same : take (suc (suc (length rest)) - 2) rest ≡ rest = ap (λ n. take n rest) fewer ∙ take-length rest in
    ap (λ n. n ∷ entries rest) number ∙ ap (λ l. (low + high * 256) ∷ entries l) (sym same)

pub entries_append : (n : ℕ) (xs ys : List ℕ) → length xs ≡ 2 * n → entries (xs ++ ys) ≡ entries xs ++ entries ys
unfolding entries
entries_append zero [] ys h = refl
entries_append zero (x ∷ xs) ys h = absurd (omega (arith, h))
entries_append (suc n) [] ys h = absurd (omega (arith, h))
entries_append (suc n) (x ∷ []) ys h = absurd (omega (arith, h))
entries_append (suc n) (low ∷ high ∷ xs) ys h = ap (λ l. (low + 256 * high) ∷ l) (entries_append n xs ys (omega (arith, h)))

pub entries_length : (n : ℕ) (xs : List ℕ) → length xs ≡ 2 * n → length (entries xs) ≡ n
unfolding entries
entries_length zero [] h = refl
entries_length zero (x ∷ xs) h = absurd (omega (arith, h))
entries_length (suc n) [] h = absurd (omega (arith, h))
entries_length (suc n) (x ∷ []) h = absurd (omega (arith, h))
entries_length (suc n) (low ∷ high ∷ xs) h = ap suc (entries_length n xs (omega (arith, h)))
