-- Places of the edge rows: each boundary has four rows of w, and rows stored one after the other are the captured slice.
use mathlib.Core.Path.{◌≡◌, sym, ◌∙◌, ap}
use mathlib.Core.List.{List}
use Prim.Native.Nat.{ℕ, ◌+◌, ◌-◌, ◌*◌, ◌/◌, ◌%◌, ◌≤◌, ◌<◌}
use native.Mathlib.Omega.{arith}
use native.Mathlib.Nat.{mul_comm, mul_assoc}
use lib.IntN.{ℤ, pos}
use lib.ListN.{length, get_or}
use Rattle.laws.specs.Index.{row_le}
use Rattle.laws.specs.Lists.{plane, is_plane}
use Rattle.laws.specs.Rows.{rows, rows_length, area_at}
use Rattle.standard.specs.Stripes.{stripe_start, stripe_of, stripes}
use Rattle.standard.specs.Planes.{edge_row, captured_slice}
use Rattle.standard.proofs.Stripes.{Halved, full, half}

-- a later stripe starts at row 28 or after it
pub start_later : {sy : ℕ} → Halved sy → (s : ℕ) → 1 ≤ s → 28 ≤ stripe_start sy s
unfolding stripe_start
start_later full s p = omega arith
start_later half s p = omega arith

pub some_stripe : (sy h : ℕ) → 1 ≤ stripes sy h
unfolding stripes
some_stripe sy h = omega arith

pub few_stripes : {sy : ℕ} → Halved sy → (h : ℕ) → h ≤ 16384 → stripes sy h ≤ 513
unfolding stripes stripe_of
few_stripes full h p = omega arith
few_stripes half h p = omega arith

-- the four rows of boundary s + 1
pub boundary_room : (w s n : ℕ) → s + 1 < n → 4 * w * s + 4 * w ≤ 4 * w * (n - 1)
boundary_room w s n p = omega (arith, row_le {y = s} {h = n - 1} (4 * w) (omega arith), mul_comm (4 * w) s, mul_comm (4 * w) (n - 1))

-- N rows of w are the room of the slice
pub rows_room : (w n : ℕ) → 4 * (n - 1) * w ≡ 4 * w * (n - 1)
rows_room w n = mul_assoc 4 (n - 1) w ∙ ap (λ (k : ℕ). 4 * k) (mul_comm (n - 1) w) ∙ sym (mul_assoc 4 w (n - 1))

-- the row of a place, as the loop has it
pub edge_in : (sy h s k : ℕ) → 0 < h → edge_row sy h s k < h
unfolding edge_row
edge_in sy h s k p = omega arith

pub captured_is : (sy h w : ℕ) (D e t : List ℤ) → length e ≡ 4 * w * (stripes sy h - 1) →
    t ≡ rows (λ k x. get_or D (edge_row sy h (k / 4 + 1) (k % 4) * w + x) (pos 0)) 0 w w (4 * (stripes sy h - 1)) e → t ≡ captured_slice sy h w D
unfolding captured_slice plane
captured_is sy h w D e t long p = is_plane (λ k x. get_or D (edge_row sy h (k / 4 + 1) (k % 4) * w + x) (pos 0)) w (4 * (stripes sy h - 1)) t (pos 0)
    (ap length p ∙ rows_length _ _ _ _ _ _ ∙ long ∙ sym (rows_room w (stripes sy h)))
    (λ y x hy hx. ap (λ (i : ℕ). get_or t i (pos 0)) {y = 0 + y * w + x} (omega arith) ∙ area_at _ 0 w (4 * (stripes sy h - 1)) e t y x (pos 0) p (omega (arith, long, rows_room w (stripes sy h))) hy hx)
