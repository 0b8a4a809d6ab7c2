-- From the call to its passes and on to the rows of results; the window that the call found is the one that they read.
use mathlib.Core.Path.{◌≡◌, refl, sym, ◌∙◌, ap, subst}
use mathlib.Core.List.{List}
use Prim.Native.Nat.{ℕ, ◌+◌, ◌*◌, ◌≤◌, ◌<◌}
use native.Mathlib.Omega.{arith}
use lib.IntN.{ℤ, pos, nat_abs}
use lib.ListN.{length}
use Rattle.laws.specs.Congruence.{ap2}
use Rattle.laws.specs.Index.{cell_lt, row_le}
use Rattle.laws.specs.Rows.{rows, rows_same}
use Rattle.laws.specs.Bounds.{Samples}
use Rattle.standard.specs.declared.Depth.{Depth}
use Rattle.standard.specs.declared.Weights.{Weights}
use Rattle.standard.specs.declared.Kind.TheVariants.{SelfGuided}
use Rattle.standard.specs.Depths.{largest}
use Rattle.standard.specs.Fetch.{restored}
use Rattle.standard.specs.SelfGuided.{a2_at, b2_at, self_guided}
use Rattle.standard.proofs.Locality.{Agree, restored_local}
use Rattle.boxes.specs.Reads.{seen}
use Rattle.boxes.specs.BoxRows.{Kept}
use Rattle.boxes.proofs.RunLaws.{run_same, run_kept, kept_on, kept_none, samples_kept}
use Rattle.boxes.proofs.BoxLaws.{a2_moved, b2_moved}
use Rattle.selfguided.specs.declared.parameters.Params.{Params}
use Rattle.selfguided.specs.Areas.{lines, six_a, cross_a}
use Rattle.selfguided.specs.Parameters.{ParamsOf, EpsFor, radius_of, eps_of}
use Rattle.selfguided.specs.Passes.{Sixed, Crossed, counted}
use Rattle.selfguided.specs.Windows.{Window, First, Second, Ready}
use Rattle.selfguided.proofs.WeighLaws.{six_same}
use Rattle.selfguided.proofs.WindowLaws.{seen_from}
use Rattle.selfguided.proofs.ParamLaws.{first_present, second_present}
use Rattle.selfguided.proofs.GuidedLaws.{window_at}

-- the scratch that the call asks for has room for all areas
pub window_of : {d : Depth} {w h odd : ℕ} {s : List ℤ} → w ≤ 383 → h ≤ 64 → odd ≤ 1 → 6 * (w + 8) * (h + 8) ≤ length s → Samples (largest d) 0 ((h + 6) * (w + 6)) s → Window d w h odd s
window_of p q r room S = record { width = p; height = q; parity = r; room = omega arith; samples = S }

-- ---- the eps of a set
module _ {set : ℕ} {p : Params} (P : ParamsOf set p) where
  pub eps_first : EpsFor (radius_of 2 p.eps0) (eps_of p.eps0)
  eps_first = record {
    low = λ f. omega (arith, P.eps0_is, (first_present set (λ e. f (P.r0_is ∙ e))).low);
    high = λ f. omega (arith, P.eps0_is, (first_present set (λ e. f (P.r0_is ∙ e))).high);
  }

  pub eps_second : EpsFor (radius_of 1 p.eps1) (eps_of p.eps1)
  eps_second = record {
    low = λ f. omega (arith, P.eps1_is, (second_present set (λ e. f (P.r1_is ∙ e))).low);
    high = λ f. omega (arith, P.eps1_is, (second_present set (λ e. f (P.r1_is ∙ e))).high);
  }

-- ---- the values of a list s, told of a list t that has kept the window
module _ (d : Depth) (eps w h : ℕ) (s t : List ℤ) (K : Kept 0 (lines w h) s t) where
  same_cell : (i j : ℕ) → i ≤ h + 5 → j ≤ w + 5 → seen (w + 6) t 0 i j ≡ seen (w + 6) s 0 (0 + i) (0 + j)
  same_cell i j p q = seen_from w h 0 0 0 K (omega arith) i j (omega arith) (omega arith)

  same_a2 : (r y x : ℕ) → r ≤ y → r ≤ x → y + r ≤ h + 5 → x + r ≤ w + 5 → a2_at d r eps (seen (w + 6) s 0) y x ≡ a2_at d r eps (seen (w + 6) t 0) y x
  same_a2 r y x u v m n = sym (a2_moved (seen (w + 6) s 0) (seen (w + 6) t 0) 0 0 (h + 5) (w + 5) same_cell d r eps y x u v m n ∙ ap2 (a2_at d r eps (seen (w + 6) s 0)) (omega arith) (omega arith))

  same_b2 : (r y x : ℕ) → r ≤ y → r ≤ x → y + r ≤ h + 5 → x + r ≤ w + 5 → b2_at d r eps (seen (w + 6) s 0) y x ≡ b2_at d r eps (seen (w + 6) t 0) y x
  same_b2 r y x u v m n = sym (b2_moved (seen (w + 6) s 0) (seen (w + 6) t 0) 0 0 (h + 5) (w + 5) same_cell d r eps y x u v m n ∙ ap2 (b2_at d r eps (seen (w + 6) s 0)) (omega arith) (omega arith))

  -- pass 0 left u, and pass 1 has kept its sums
  pub sixed_here : (odd : ℕ) → odd ≤ 1 → (u : List ℤ) → Sixed d eps w h odd (counted h odd) s u → Kept (six_a w h) (cross_a w h) u t → Sixed d eps w h odd (counted h odd) t t
  sixed_here odd bit u C L = record {
    long = refl;
    window = kept_none _ _ t;
    a2 = λ k p. run_same _ (run_kept (C.a2 k p) L (omega arith) (omega (arith, row_le w (in_area k p)))) (λ j q. six_same _ _ (λ b l. same_a2 2 (2 * k + odd + 2) (j + b + 2) (omega arith) (omega arith) (omega arith) (omega arith)));
    b2 = λ k p. run_same _ (run_kept (C.b2 k p) L (omega arith) (omega (arith, row_le w (in_area k p)))) (λ j q. six_same _ _ (λ b l. same_b2 2 (2 * k + odd + 2) (j + b + 2) (omega arith) (omega arith) (omega arith) (omega arith)));
  }
    where
      in_area : (k : ℕ) → k < counted h odd → k < h + 2
      in_area k p = omega arith

  pub crossed_here : Crossed d eps w h (h + 2) s t → Crossed d eps w h (h + 2) t t
  crossed_here C = record {
    long = refl;
    window = kept_none _ _ t;
    sixes = kept_none _ _ t;
    a2 = λ y p. run_same _ (C.a2 y p) (λ j q. same_a2 1 (y + 2) (j + 2) (omega arith) (omega arith) (omega arith) (omega arith));
    b2 = λ y p. run_same _ (C.b2 y p) (λ j q. same_b2 1 (y + 2) (j + 2) (omega arith) (omega arith) (omega arith) (omega arith));
  }

-- ---- both passes done
pub between : {r eps w h odd : ℕ} {d : Depth} {s t : List ℤ} → Window d w h odd s → First r eps d w h odd s t → Window d w h 0 t
between W A =
    record { width = W.width; height = W.height; parity = omega arith; room = omega (arith, A.long, W.room); samples = samples_kept W.samples A.window }

module _ {d : Depth} {w h odd : ℕ} (weights : Weights) {p : Params} (P : ParamsOf weights.set p) {s t u : List ℤ}
    (W : Window d w h odd s) (A : First (radius_of 2 p.eps0) (eps_of p.eps0) d w h odd s t) (B : Second (radius_of 1 p.eps1) (eps_of p.eps1) d w h t u) where
  kept_all : Kept 0 (lines w h) s u
  kept_all = kept_on A.window B.window

  ready : Ready d w h odd weights u
  ready = record {
    window = record { width = W.width; height = W.height; parity = W.parity; room = omega (arith, A.long, B.long, W.room); samples = samples_kept W.samples kept_all };
    six = λ f. sixed_here d _ w h s u kept_all odd W.parity t (subst (λ (e : ℕ). Sixed d e w h odd (counted h odd) s t) P.eps0_is (A.six (λ e. f (sym P.r0_is ∙ e)))) B.sixes;
    cross = λ f. crossed_here d _ w h t u B.window (subst (λ (e : ℕ). Crossed d e w h (h + 2) t u) P.eps1_is (B.cross (λ e. f (sym P.r1_is ∙ e))));
  }

  pub ready_at : {e : Depth} → e ≡ d → Ready e w h odd weights u
  ready_at q = subst (λ (e : Depth). Ready e w h odd weights u) (sym q) ready

  -- the result is that of the window that the call found
  guided_same : (i j : ℕ) → i < h → j < w → self_guided d (odd + i) weights (window_at u w i j) ≡ self_guided d (odd + i) weights (window_at s w i j)
  unfolding restored
  guided_same i j m n = restored_local agree d (odd + i) (SelfGuided weights)
    where
      agree : Agree (window_at u w i j) (window_at s w i j)
      agree = record { same = λ a b x y. ap nat_abs (kept_all.same ((i + a) * (w + 6) + (j + b)) (omega arith) (omega (arith, cell_lt {y = i + a} {x = j + b} {h = h + 6} {w = w + 6} (omega arith) (omega arith)))) }

  pub results : {e : Depth} → e ≡ d → (to stride : ℕ) (before : List ℤ) {after : List ℤ} → after ≡ rows (λ i j. pos (self_guided e (odd + i) weights (window_at u w i j))) to stride w h before →
      after ≡ rows (λ i j. pos (self_guided d (odd + i) weights (window_at s w i j))) to stride w h before
  results q to stride before r =
      r ∙ ap (λ (e : Depth). rows (λ i j. pos (self_guided e (odd + i) weights (window_at u w i j))) to stride w h before) q
      ∙ rows_same _ _ to stride w h before (λ i j m n. ap pos (guided_same i j m n))
