-- The values of a row of results: what code computes from the areas is the definition's F, for the window of each sample.
use mathlib.Core.Path.{◌≡◌, refl, sym, ◌∙◌, ap}
use mathlib.Core.List.{List}
use Prim.Native.Nat.{ℕ, ◌+◌, ◌-◌, ◌*◌, ◌/◌, ◌%◌, ◌≤◌, ◌<◌}
use native.Mathlib.Omega.{arith}
use lib.IntN.{ℤ, pos, nat_abs}
use lib.ListN.{get_or}
use Rattle.laws.specs.Congruence.{ap2, ap3}
use Rattle.standard.specs.declared.Depth.{Depth}
use Rattle.standard.specs.declared.Weights.{Weights}
use Rattle.standard.specs.Arithmetic.{sum, round_ℕ}
use Rattle.standard.specs.Wiener.{Grid}
use Rattle.standard.specs.SelfGuided.{sgr, a2_at, b2_at, weight, shift, weighted, filtered, pass_of, project, self_guided}
use Rattle.boxes.specs.Reads.{sample_at, seen}
use Rattle.boxes.proofs.RunLaws.{run_at}
use Rattle.boxes.proofs.BoxLaws.{a2_moved, b2_moved}
use Rattle.selfguided.specs.declared.spots.Spots.{Spots}
use Rattle.selfguided.specs.Areas.{six_a, six_b}
use Rattle.selfguided.specs.Weighing.{five_six, crossed}
use Rattle.selfguided.specs.Passes.{counted}
use Rattle.selfguided.specs.Finals.{cross_f, even_f, odd_f}
use Rattle.selfguided.specs.Windows.{Ready, SpotsOf}
use Rattle.selfguided.proofs.WeighLaws.{six_same, crossed_same}
use Rattle.selfguided.proofs.ParamLaws.{first_present, second_present}

-- ---- the weighted sums of the definition
cross_weighted : (y : ℕ) (g : Grid) → crossed (λ a b. g (a + 2) (b + 2)) ≡ weighted 1 y g
unfolding crossed weighted weight
cross_weighted y g = refl

even_weighted : (y : ℕ) (g : Grid) → y % 2 ≡ 0 → five_six (λ b. g 2 (b + 2)) + five_six (λ b. g 4 (b + 2)) ≡ weighted 0 y g
unfolding five_six weighted weight sum
even_weighted y g e =
    let e0 : (y + 0) % 2 ≡ 0 = omega arith in
    let e1 : (y + 1) % 2 ≡ 1 = omega arith in
    let e2 : (y + 2) % 2 ≡ 0 = omega arith in
    simp (e0, e1, e2) (omega arith)

odd_weighted : (y : ℕ) (g : Grid) → y % 2 ≡ 1 → five_six (λ b. g 3 (b + 2)) ≡ weighted 0 y g
unfolding five_six weighted weight sum
odd_weighted y g e =
    let e0 : (y + 0) % 2 ≡ 1 = omega arith in
    let e1 : (y + 1) % 2 ≡ 0 = omega arith in
    let e2 : (y + 2) % 2 ≡ 1 = omega arith in
    simp (e0, e1, e2) (omega arith)

shift_even : (y : ℕ) → y % 2 ≡ 0 → shift 0 y ≡ 5
unfolding shift
shift_even y e = simp e

shift_odd : (y : ℕ) → y % 2 ≡ 1 → shift 0 y ≡ 4
unfolding shift
shift_odd y e = simp e

-- ---- the window of sample i, j
module _ (t : List ℤ) (w i j : ℕ) where
  abbrev pub window_at : Grid
  window_at a b = nat_abs (get_or t ((i + a) * (w + 6) + (j + b)) (pos 0))

  in_grid : (a b : ℕ) → a ≤ 6 → b ≤ 6 → window_at a b ≡ seen (w + 6) t 0 (i + a) (j + b)
  unfolding seen
  in_grid a b p q = ap (sample_at t) (omega arith)

  a2_window : (d : Depth) (r eps y x : ℕ) → r ≤ 2 → r ≤ y → r ≤ x → y ≤ 4 → x ≤ 4 → a2_at d r eps window_at y x ≡ a2_at d r eps (seen (w + 6) t 0) (i + y) (j + x)
  a2_window d r eps y x p u v m n = a2_moved (seen (w + 6) t 0) window_at i j 6 6 in_grid d r eps y x u v (omega arith) (omega arith)

  b2_window : (d : Depth) (r eps y x : ℕ) → r ≤ 2 → r ≤ y → r ≤ x → y ≤ 4 → x ≤ 4 → b2_at d r eps window_at y x ≡ b2_at d r eps (seen (w + 6) t 0) (i + y) (j + x)
  b2_window d r eps y x p u v m n = b2_moved (seen (w + 6) t 0) window_at i j 6 6 in_grid d r eps y x u v (omega arith) (omega arith)

module _ {d : Depth} {w h odd : ℕ} {weights : Weights} {t : List ℤ} (R : Ready d w h odd weights t) {i : ℕ} (low : i < h) {p : Spots} (P : SpotsOf w h odd i p) where
  abbrev set : ℕ
  set = weights.set

  abbrev k : ℕ
  k = (i + 1 - odd) / 2

  pub centre : (j : ℕ) → sample_at t (p.u + j) ≡ window_at t w i j 3 3
  centre j = ap (sample_at t) (omega (arith, P.u_is))

  -- pass 1
  module _ (f : (sgr weights.set).2 ≡ 0 → ⊥) where
    abbrev eps1 : ℕ
    eps1 = (sgr weights.set).3

    cross_a : (j : ℕ) → j < w → crossed (seen (w + 2) t (p.a + j)) ≡ weighted 1 (odd + i) (a2_at d 1 eps1 (window_at t w i j))
    unfolding seen
    cross_a j q = crossed_same _ (λ a b. a2_at d 1 eps1 (window_at t w i j) (a + 2) (b + 2)) (λ a b u v. cell a b u v) ∙ cross_weighted (odd + i) (a2_at d 1 eps1 (window_at t w i j))
      where
        cell : (a b : ℕ) → a < 3 → b < 3 → sample_at t (p.a + j + a * (w + 2) + b) ≡ a2_at d 1 eps1 (window_at t w i j) (a + 2) (b + 2)
        cell a b u v =
            ap (sample_at t) (omega (arith, P.a_is)) ∙ run_at ((R.cross f).a2 (i + a) (omega arith)) (j + b) (omega arith)
            ∙ ap2 (a2_at d 1 eps1 (seen (w + 6) t 0)) (omega arith) (omega arith) ∙ sym (a2_window t w i j d 1 eps1 (a + 2) (b + 2) (omega arith) (omega arith) (omega arith) (omega arith) (omega arith))

    cross_b : (j : ℕ) → j < w → crossed (seen (w + 2) t (p.b + j)) ≡ weighted 1 (odd + i) (b2_at d 1 eps1 (window_at t w i j))
    unfolding seen
    cross_b j q = crossed_same _ (λ a b. b2_at d 1 eps1 (window_at t w i j) (a + 2) (b + 2)) (λ a b u v. cell a b u v) ∙ cross_weighted (odd + i) (b2_at d 1 eps1 (window_at t w i j))
      where
        cell : (a b : ℕ) → a < 3 → b < 3 → sample_at t (p.b + j + a * (w + 2) + b) ≡ b2_at d 1 eps1 (window_at t w i j) (a + 2) (b + 2)
        cell a b u v =
            ap (sample_at t) (omega (arith, P.b_is)) ∙ run_at ((R.cross f).b2 (i + a) (omega arith)) (j + b) (omega arith)
            ∙ ap2 (b2_at d 1 eps1 (seen (w + 6) t 0)) (omega arith) (omega arith) ∙ sym (b2_window t w i j d 1 eps1 (a + 2) (b + 2) (omega arith) (omega arith) (omega arith) (omega arith) (omega arith))

    pub cross_is : (j : ℕ) → j < w → cross_f t (p.a + j) (p.b + j) (w + 2) (sample_at t (p.u + j)) ≡ pass_of 1 d (odd + i) (sgr weights.set).2 eps1 (window_at t w i j)
    unfolding pass_of filtered shift
    cross_is j q =
        ap3 (λ x y z. round_ℕ 9 (x * y + z)) (cross_a j q) (centre j) (cross_b j q)
        ∙ ap (λ (r : ℕ). pass_of 1 d (odd + i) r eps1 (window_at t w i j)) (sym (second_present weights.set f).radius)

  -- pass 0
  module _ (f : (sgr weights.set).0 ≡ 0 → ⊥) where
    abbrev eps0 : ℕ
    eps0 = (sgr weights.set).1

    -- a 5-6-5 sum of row y of the window
    six_a_lem : (n y j place : ℕ) → j < w → n < counted h odd → 2 * n + odd + 2 ≡ i + y → y ≤ 4 → 2 ≤ y → place ≡ six_a w h + n * w + j →
        sample_at t place ≡ five_six (λ b. a2_at d 2 eps0 (window_at t w i j) y (b + 2))
    six_a_lem n y j place q u e v m s = ap (sample_at t) s ∙ run_at ((R.six f).a2 n u) j q
        ∙ six_same _ _ (λ b l. ap2 (a2_at d 2 eps0 (seen (w + 6) t 0)) e (omega arith) ∙ sym (a2_window t w i j d 2 eps0 y (b + 2) (omega arith) m (omega arith) v (omega arith)))

    six_b_lem : (n y j place : ℕ) → j < w → n < counted h odd → 2 * n + odd + 2 ≡ i + y → y ≤ 4 → 2 ≤ y → place ≡ six_b w h + n * w + j →
        sample_at t place ≡ five_six (λ b. b2_at d 2 eps0 (window_at t w i j) y (b + 2))
    six_b_lem n y j place q u e v m s = ap (sample_at t) s ∙ run_at ((R.six f).b2 n u) j q
        ∙ six_same _ _ (λ b l. ap2 (b2_at d 2 eps0 (seen (w + 6) t 0)) e (omega arith) ∙ sym (b2_window t w i j d 2 eps0 y (b + 2) (omega arith) m (omega arith) v (omega arith)))

    pub even_is : (odd + i) % 2 ≡ 0 → (j : ℕ) → j < w → even_f t (p.sa + j) (p.sb + j) w (sample_at t (p.u + j)) ≡ pass_of 0 d (odd + i) (sgr weights.set).0 eps0 (window_at t w i j)
    unfolding pass_of filtered
    even_is e j q =
        ap3 (λ x y z. round_ℕ 9 (x * y + z))
        (ap2 ◌+◌ (six_a_lem k 2 j (p.sa + j) q (omega arith) (omega arith) (omega arith) (omega arith) (omega (arith, P.sa_is))) (six_a_lem (k + 1) 4 j (p.sa + j + w) q (omega arith) (omega arith) (omega arith) (omega arith) (omega (arith, P.sa_is)))
        ∙ even_weighted (odd + i) (a2_at d 2 eps0 (window_at t w i j)) e)
        (centre j)
        (ap2 ◌+◌ (six_b_lem k 2 j (p.sb + j) q (omega arith) (omega arith) (omega arith) (omega arith) (omega (arith, P.sb_is))) (six_b_lem (k + 1) 4 j (p.sb + j + w) q (omega arith) (omega arith) (omega arith) (omega arith) (omega (arith, P.sb_is)))
        ∙ even_weighted (odd + i) (b2_at d 2 eps0 (window_at t w i j)) e)
        ∙ ap (λ (s : ℕ). round_ℕ (4 + s) (weighted 0 (odd + i) (a2_at d 2 eps0 (window_at t w i j)) * window_at t w i j 3 3 + weighted 0 (odd + i) (b2_at d 2 eps0 (window_at t w i j)))) (sym (shift_even (odd + i) e))
        ∙ ap (λ (r : ℕ). pass_of 0 d (odd + i) r eps0 (window_at t w i j)) (sym (first_present weights.set f).radius)

    pub odd_is : (odd + i) % 2 ≡ 1 → (j : ℕ) → j < w → odd_f t (p.sa + j) (p.sb + j) (sample_at t (p.u + j)) ≡ pass_of 0 d (odd + i) (sgr weights.set).0 eps0 (window_at t w i j)
    unfolding pass_of filtered
    odd_is e j q =
        ap3 (λ x y z. round_ℕ 8 (x * y + z))
        (six_a_lem k 3 j (p.sa + j) q (omega arith) (omega arith) (omega arith) (omega arith) (omega (arith, P.sa_is)) ∙ odd_weighted (odd + i) (a2_at d 2 eps0 (window_at t w i j)) e)
        (centre j)
        (six_b_lem k 3 j (p.sb + j) q (omega arith) (omega arith) (omega arith) (omega arith) (omega (arith, P.sb_is)) ∙ odd_weighted (odd + i) (b2_at d 2 eps0 (window_at t w i j)) e)
        ∙ ap (λ (s : ℕ). round_ℕ (4 + s) (weighted 0 (odd + i) (a2_at d 2 eps0 (window_at t w i j)) * window_at t w i j 3 3 + weighted 0 (odd + i) (b2_at d 2 eps0 (window_at t w i j)))) (sym (shift_odd (odd + i) e))
        ∙ ap (λ (r : ℕ). pass_of 0 d (odd + i) r eps0 (window_at t w i j)) (sym (first_present weights.set f).radius)

  -- u stands for a filter whose radius is 0
  pub absent : (pass r eps j : ℕ) → r ≡ 0 → 16 * sample_at t (p.u + j) ≡ pass_of pass d (odd + i) r eps (window_at t w i j)
  unfolding pass_of
  absent pass r eps j e = ap (λ (n : ℕ). 16 * n) (centre j) ∙ ap (λ (r : ℕ). pass_of pass d (odd + i) r eps (window_at t w i j)) (sym e)

  -- the three numbers that are projected
  pub guided : (j f0 f1 : ℕ) → f0 ≡ pass_of 0 d (odd + i) (sgr weights.set).0 (sgr weights.set).1 (window_at t w i j) →
      f1 ≡ pass_of 1 d (odd + i) (sgr weights.set).2 (sgr weights.set).3 (window_at t w i j) →
      project d weights.w0 weights.w1 (16 * sample_at t (p.u + j)) f0 f1 ≡ self_guided d (odd + i) weights (window_at t w i j)
  unfolding self_guided
  guided j f0 f1 e g = ap3 (project d weights.w0 weights.w1) (ap (λ (n : ℕ). 16 * n) (centre j)) e g
