-- A gathered window in the scratch, from the call on to the rows of results.
use Rattle.std.specs.Prelude.{◌≡◌, List, ℕ, ◌+◌, ◌-◌, ◌*◌, ◌/◌, ◌≤◌, ◌<◌, ℤ, length}
use Rattle.laws.specs.Bounds.{Samples}
use Rattle.standard.specs.declared.Depth.{Depth}
use Rattle.standard.specs.declared.Weights.{Weights}
use Rattle.standard.specs.Depths.{largest}
use Rattle.standard.specs.SelfGuided.{sgr}
use Rattle.boxes.specs.BoxRows.{Kept}
use Rattle.selfguided.specs.declared.parameters.Params.{Params}
use Rattle.selfguided.specs.declared.projection.Mix.{Mix}
use Rattle.selfguided.specs.declared.spots.Spots.{Spots}
use Rattle.selfguided.specs.Areas.{lines, six_a, six_b, cross_a, cross_b, used}
use Rattle.selfguided.specs.Parameters.{ParamsOf}
use Rattle.selfguided.specs.Passes.{Sixed, Crossed, counted}

-- h results of w, so h + 6 rows of w + 6 samples from place 0 on; `odd` is the parity of the first row
pub record Window (d : Depth) (w h odd : ℕ) (s : List ℤ) : Type 0 where
  pub width : w ≤ 383
  pub height : h ≤ 64
  pub parity : odd ≤ 1
  pub room : used w h ≤ length s
  pub samples : Samples (largest d) 0 (lines w h) s

-- after pass 0 of radius r: nothing is done where that is 0
pub record First (r eps : ℕ) (d : Depth) (w h odd : ℕ) (s t : List ℤ) : Type 0 where
  pub long : length t ≡ length s
  pub window : Kept 0 (lines w h) s t
  pub six : (r ≡ 0 → ⊥) → Sixed d eps w h odd (counted h odd) s t

-- after pass 1
pub record Second (r eps : ℕ) (d : Depth) (w h : ℕ) (s t : List ℤ) : Type 0 where
  pub long : length t ≡ length s
  pub window : Kept 0 (lines w h) s t
  pub sixes : Kept (six_a w h) (cross_a w h) s t
  pub cross : (r ≡ 0 → ⊥) → Crossed d eps w h (h + 2) s t

-- both passes done
pub record Ready (d : Depth) (w h odd : ℕ) (weights : Weights) (t : List ℤ) : Type 0 where
  pub window : Window d w h odd t
  pub six : ((sgr weights.set).0 ≡ 0 → ⊥) → Sixed d (sgr weights.set).1 w h odd (counted h odd) t t
  pub cross : ((sgr weights.set).2 ≡ 0 → ⊥) → Crossed d (sgr weights.set).3 w h (h + 2) t t

-- what row i of the results reads
pub record SpotsOf (w h odd i : ℕ) (p : Spots) : Type 0 where
  pub sa_is : p.sa ≡ six_a w h + (i + 1 - odd) / 2 * w
  pub sb_is : p.sb ≡ six_b w h + (i + 1 - odd) / 2 * w
  pub a_is : p.a ≡ cross_a w h + i * (w + 2)
  pub b_is : p.b ≡ cross_b w h + i * (w + 2)
  pub u_is : p.u ≡ (i + 3) * (w + 6) + 3

-- rows of results, one `stride` places after the other
pub record Rows (to stride w h : ℕ) (out : List ℤ) : Type 0 where
  pub fits : (i : ℕ) → i < h → to + i * stride + w ≤ length out

-- the numbers of a unit as the rows of results take them
pub record Plan (weights : Weights) (p : Params) (m : Mix) : Type 0 where
  pub set_high : weights.set ≤ 15
  pub params : ParamsOf weights.set p
  pub w0_is : m.w0 ≡ weights.w0
  pub w1_is : m.w1 ≡ weights.w1
