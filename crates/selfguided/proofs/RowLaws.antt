-- What each filter of a row of results reads is there, and it makes what the definition makes.
use mathlib.Core.Path.{◌≡◌, refl, sym, ◌∙◌, ap}
use mathlib.Core.Bool.{true, false}
use mathlib.Core.List.{List}
use mathlib.Core.Logic.{◌⊎◌, inl, inr}
use Prim.Native.Nat.{ℕ, suc, ◌+◌, ◌*◌, ◌%◌, ◌<◌}
use native.Mathlib.Omega.{arith}
use lib.IntN.{ℤ, pos}
use Rattle.std.specs.Prelude.{Option, Some, None, is_some, ⊤}
use Rattle.laws.specs.Congruence.{ap2}
use Rattle.laws.specs.Runs.{stamp, stamp_same}
use Rattle.standard.specs.declared.Weights.{Weights}
use Rattle.standard.specs.SelfGuided.{sgr, pass_of, project, self_guided}
use Rattle.boxes.specs.Reads.{sample_at}
use Rattle.selfguided.specs.declared.parameters.Params.{Params}
use Rattle.selfguided.specs.declared.projection.Mix.{Mix}
use Rattle.selfguided.specs.declared.spots.Spots.{Spots}
use Rattle.selfguided.specs.Finals.{Sixes, Crosses, cross_f, even_f, odd_f}
use Rattle.selfguided.specs.Parameters.{radius_of}
use Rattle.selfguided.specs.Windows.{Ready, Plan, SpotsOf}
use Rattle.selfguided.proofs.FinalLaws.{sixes_part, crosses_part}
use Rattle.selfguided.proofs.ParamLaws.{not_both}
use Rattle.selfguided.proofs.GuidedLaws.{window_at, cross_is, even_is, odd_is, absent, guided}
use Rattle.selfguided.proofs.ReadyLaws.{sixes_even, sixes_odd, crosses}

no_radius : (r : ℕ) (eps : Option ℕ) → is_some eps ≡ false → radius_of r eps ≡ 0
no_radius r None e = refl
no_radius r (Some _) e = absurd (cc)

a_radius : (r : ℕ) (eps : Option ℕ) → is_some eps ≡ true → radius_of (suc r) eps ≡ 0 → ⊥
a_radius r None e z = absurd (cc)
a_radius r (Some _) e z = omega arith

-- a filter f that reads what `can_read` says makes g of each of w samples
pub record Serves (w : ℕ) (can_read : ℕ → Type 0) (f g : ℕ → ℕ) : Type 0 where
  pub reads : (j : ℕ) → j < w → can_read j
  pub is : (j : ℕ) → j < w → f j ≡ g j

module _ {w h odd i : ℕ} {weights : Weights} {params : Params} {m : Mix} {p : Spots} {t : List ℤ}
    (R : Ready m.depth w h odd weights t) (L : Plan weights params m) (low : i < h) (P : SpotsOf w h odd i p) where
  abbrev set : ℕ
  set = weights.set

  abbrev first : ℕ → ℕ
  first j = pass_of 0 m.depth (odd + i) (sgr set).0 (sgr set).1 (window_at t w i j)

  abbrev second : ℕ → ℕ
  second j = pass_of 1 m.depth (odd + i) (sgr set).2 (sgr set).3 (window_at t w i j)

  no_first : is_some params.eps0 ≡ false → (sgr set).0 ≡ 0
  no_first e = sym L.params.r0_is ∙ no_radius 2 params.eps0 e

  a_first : is_some params.eps0 ≡ true → (sgr set).0 ≡ 0 → ⊥
  a_first e z = a_radius 1 params.eps0 e (L.params.r0_is ∙ z)

  -- where pass 0 is not done, pass 1 is
  a_second : (is_some params.eps0 ≡ false) ⊎ (is_some params.eps1 ≡ true) → (sgr set).2 ≡ 0 → ⊥
  a_second (inl e) z = not_both set L.set_high (no_first e) z
  a_second (inr e) z = a_radius 0 params.eps1 e (L.params.r1_is ∙ z)

  -- ---- pass 0
  pub absent_first : is_some params.eps0 ≡ false → Serves w (λ _. ⊤) (λ j. 16 * sample_at t (p.u + j)) first
  absent_first e = record { reads = λ j q. tt; is = λ j q. absent R low P 0 (sgr set).0 (sgr set).1 j (no_first e) }

  pub even_first : is_some params.eps0 ≡ true → (odd + i) % 2 ≡ 0 → Serves w (λ j. Sixes (w + 1) (p.sa + j) (p.sb + j) t) (λ j. even_f t (p.sa + j) (p.sb + j) w (sample_at t (p.u + j))) first
  even_first e q = record {
    reads = λ j l. sixes_part _ j (sixes_even R low P (a_first e) q) (omega arith);
    is = even_is R low P (a_first e) q;
  }

  pub odd_first : is_some params.eps0 ≡ true → ((odd + i) % 2 ≡ 0 → ⊥) → Serves w (λ j. Sixes 1 (p.sa + j) (p.sb + j) t) (λ j. odd_f t (p.sa + j) (p.sb + j) (sample_at t (p.u + j))) first
  odd_first e q = record {
    reads = λ j l. sixes_part _ j (sixes_odd R low P (a_first e) (omega arith)) (omega arith);
    is = odd_is R low P (a_first e) (omega arith);
  }

  -- ---- pass 1
  pub absent_second : is_some params.eps1 ≡ false → Serves w (λ _. ⊤) (λ j. 16 * sample_at t (p.u + j)) second
  absent_second e = record { reads = λ j q. tt; is = λ j q. absent R low P 1 (sgr set).2 (sgr set).3 j (sym L.params.r1_is ∙ no_radius 1 params.eps1 e) }

  pub cross_second : (is_some params.eps0 ≡ false) ⊎ (is_some params.eps1 ≡ true) →
      Serves w (λ j. Crosses (2 * (w + 2) + 3) (p.a + j) (p.b + j) t) (λ j. cross_f t (p.a + j) (p.b + j) (w + 2) (sample_at t (p.u + j))) second
  cross_second e = record {
    reads = λ j l. crosses_part _ j (crosses R low P (a_second e)) (omega arith);
    is = cross_is R low P (a_second e);
  }

  -- ---- the row that both make
  pub row_is : {A B : ℕ → Type 0} {f g : ℕ → ℕ} → Serves w A f first → Serves w B g second → (to : ℕ) (out : List ℤ) →
      stamp (λ j. pos (project m.depth m.w0 m.w1 (16 * sample_at t (p.u + j)) (f j) (g j))) to w out ≡ stamp (λ j. pos (self_guided m.depth (odd + i) weights (window_at t w i j))) to w out
  row_is {f = f} {g = g} F G to out = stamp_same _ _ _ _ _ (λ j q. ap pos
      (ap2 (λ (x y : ℤ). project m.depth x y (16 * sample_at t (p.u + j)) (f j) (g j)) L.w0_is L.w1_is
      ∙ guided R low P j (f j) (g j) (F.is j q) (G.is j q)))
