-- One restored sample, where its window is fetched (§7.17.6), and the restored plane. D is the deblocked plane (UpscaledCurrFrame), C the CDEF plane (UpscaledCdefFrame).
use Rattle.std.specs.Prelude.{cond, ℕ, ◌+◌, ◌-◌, min, max, ltb, eqb}
use Rattle.standard.specs.declared.Depth.{Depth}
use Rattle.standard.specs.declared.Kind.{Kind}
use Rattle.standard.specs.declared.Kind.TheVariants.{None, Wiener, SelfGuided}
use Rattle.standard.specs.Arithmetic.{sum}
use Rattle.standard.specs.Wiener.{Grid, wiener}
use Rattle.standard.specs.SelfGuided.{self_guided}
use Rattle.standard.specs.Stripes.{stripe_start, stripe_stop, stripe_of, unit_row_of, unit_col_of}

-- one restored sample from its 7 by 7 window, by rType (§7.17.1). The row y counts only by being odd or even
unfoldable pub restored : Depth → ℕ → Kind → Grid → ℕ
restored d y None w = w 3 3
restored d y (Wiener t) w = wiener d t w
restored d y (SelfGuided s) w = self_guided d y s w

-- what a plane's restoration is asked with: its shape, its depth, and the units by unit row and unit column
pub record Shape : Type 0 where
  pub sy : ℕ
  pub size : ℕ
  pub height : ℕ
  pub width : ℕ
  pub depth : Depth
  pub unit : ℕ → ℕ → Kind

-- row y of the plane as stripe s reads it (§7.17.6): a row above the stripe comes from D at max(y, start − 2), one below it from D at
-- min(y, end + 2), where end is the stripe's last row
unfoldable pub fetch : ℕ → Grid → Grid → ℕ → Grid
fetch sy D C s y x =
    cond (ltb y (stripe_start sy s)) (D (max y (stripe_start sy s - 2)) x)
    (cond (ltb y (stripe_stop sy s)) (C y x) (D (min y (stripe_stop sy s + 1)) x))

-- the row or column of the window's place i round y, clamped to the plane (§7.17.6). Subtraction stops at 0, which is the lower clamp
abbrev pub near : ℕ → ℕ → ℕ → ℕ
near extent y i = min (y + i - 3) (extent - 1)

-- the 7 by 7 window round the sample y, x
unfoldable pub window : Shape → Grid → Grid → ℕ → ℕ → Grid
window g D C y x i j = fetch g.sy D C (stripe_of g.sy y) (near g.height y i) (near g.width x j)

-- the unit of the sample y, x (§7.17.1)
unfoldable pub unit_at : Shape → ℕ → ℕ → Kind
unit_at g y x = g.unit (unit_row_of g.sy g.size g.height (stripe_of g.sy y)) (unit_col_of g.size g.width x)

-- LrFrame at y, x (§7.17): the sample that the standard gives
unfoldable pub restored_at : Shape → Grid → Grid → Grid
restored_at g D C y x = restored g.depth y (unit_at g y x) (window g D C y x)

-- the places where two planes differ
unfoldable pub changed : ℕ → ℕ → Grid → Grid → ℕ
changed h w P C = sum h (λ y. sum w (λ x. cond (eqb (P y x) (C y x)) 0 1))
