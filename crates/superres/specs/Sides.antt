-- A call's numbers where 2 and 4 are not given, its tests from 7 on, and what its plan holds.
use Rattle.std.specs.Prelude.{Bool, cond, not, ◌&&◌, List, [], ◌∷◌, ◌≡◌, ℕ, ◌-◌, ◌*◌, ◌≤◌, ◌<◌, min, ℤ, length, eqb, leb}
use Rattle.standard.specs.declared.Scaling.{Scaling}
use Rattle.standard.specs.Refusals.{copies, same_shape, scaling_shape, sub_of, scaled_height, up_width, down_width, no15}
use Rattle.standard.specs.Depths.{largest, depth_of}
use Rattle.standard.specs.Superres.{start, step, last_col}

pub record Sided (s : Scaling) : Type 0 where
  pub sub_x : s.sub_x ≤ 1
  pub sub_y : s.sub_y ≤ 1
  pub height : s.frame_height ≤ 16384
  pub width : s.frame_width ≤ 16384
  pub upscaled : s.upscaled_width ≤ 16384
  pub some_rows : 0 < s.frame_height
  pub some_cols : 0 < s.frame_width

abbrev pub late_tests : Scaling → List ℤ → ℕ → List (ℕ × Bool)
late_tests s input out =
    (7, not (eqb (length input) (s.in_rows * s.in_cols) && eqb out (s.out_rows * s.out_cols) && cond (copies s) (same_shape s) (scaling_shape s))) ∷
    (8, not (copies s) && leb (up_width s) (down_width s)) ∷
    (15, no15 s.depth input) ∷ []

-- a plan's numbers, by their definitions
pub record Planned (s : Scaling) (start' step' last cols rows width top : ℕ) : Type 0 where
  pub start_is : start' ≡ start (down_width s) (up_width s)
  pub step_is : step' ≡ step (down_width s) (up_width s)
  pub last_is : last ≡ min (last_col s.frame_width (sub_of s.plane s.sub_x)) (s.in_cols - 1)
  pub cols_is : cols ≡ s.in_cols
  pub rows_is : rows ≡ scaled_height s
  pub width_is : width ≡ up_width s
  pub top_is : top ≡ largest (depth_of s.depth)
