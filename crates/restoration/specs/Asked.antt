-- What a frame, its unit table and the scratch meet where no test refuses them, and what a restored rectangle shows.
use Rattle.std.specs.Prelude.{◌≡◌, false, List, ℕ, ◌*◌, ◌≤◌, ◌<◌, ℤ, length}
use Rattle.standard.specs.declared.Frame.{Frame}
use Rattle.standard.specs.declared.Depth.{Depth}
use Rattle.standard.specs.Stripes.{units, stripe_start, stripe_stop}
use Rattle.standard.specs.Refusals.{sub_y_of, plane_height, plane_width, first, count_tests, no2, size5, no11, scratch_need}
use Rattle.standard.specs.Fetch.{unit_at}
use Rattle.standard.specs.Calls.{shape_of}
use Rattle.fetch.specs.declared.Source.{Source}
use Rattle.rectangle.specs.View.{shown_at}
use Rattle.frames.proofs.Legal.{LegalFrame}

pub record Asked (f : Frame) (table : List ℤ) (scratch : ℕ) : Type 0 where
  pub legal : LegalFrame f
  pub plane : no2 f.plane f.sub_x f.sub_y ≡ false
  pub typed : 0 < f.frame_type
  pub size : size5 f ≡ false
  pub counts : first (count_tests f) ≡ 0
  pub long : length table ≡ 10 * units (plane_height f) f.unit_size * units (plane_width f) f.unit_size
  pub entries : no11 f.plane table ≡ false
  pub room : scratch_need (sub_y_of f) (plane_height f) (plane_width f) ≤ scratch

-- the rows of stripe s are the source's own
pub record Stripe (f : Frame) (s : ℕ) (r : Source) : Type 0 where
  pub start : r.start ≡ stripe_start (sub_y_of f) s
  pub stop : r.stop ≡ stripe_stop (sub_y_of f) s

-- the sample that the unit there restores from the source
abbrev pub unit_shown : Frame → List ℤ → Depth → List ℤ → List ℤ → Source → ℕ → ℕ → ℤ
unit_shown f table d inside beside r y x = shown_at d (unit_at (shape_of f table) y x) inside beside (plane_width f) (plane_height f) r y x
