-- Number 13 by its test against the count, else the rectangle.
use native.Mathlib.Omega.{arith}
use mathlib.Core.Path.{◌≡◌, ap}
use borrow.Author.Tests.{le-leb, lt-leb}
use Rattle.geometry.proofs.Tests.{divided_passes, rectangle_done, rectangle_over}
use Rattle.standard.specs.Answers.{refusal_number}
use Rattle.standard.specs.declared.Counts.{Counts}
use Rattle.standard.specs.declared.Frame.{Frame}
use Rattle.standard.specs.Calls.{counts_of}
use Rattle.standard.specs.Stripes.{rectangles}
use Rattle.standard.specs.Refusals.{sub_y_of, plane_height, plane_width}
use Rattle.geometry.proofs.indexed.Goals as goal

all : (f : Frame) (k : Counts) → k ≡ counts_of f → k.rectangles ≡ rectangles (sub_y_of f) f.unit_size (plane_height f) (plane_width f)
unfolding counts_of
all f k e = ap (λ k. k.rectangles) e

pub returns-then-counts-index : goal.returns-then-counts-index
unfolding refusal_number
returns-then-counts-index c = rectangle_over _ _ (divided_passes c.args.d) (le-leb _ _ (omega (arith, c.if-counts-index.true, all _ _ c.counts.ensures)))

pub rectangle-requires : goal.rectangle-requires
rectangle-requires c = omega (arith, c.if-counts-index.false, all _ _ c.counts.ensures)

pub returns : goal.returns
returns c = rectangle_done _ _ _ (divided_passes c.args.d) (lt-leb _ _ (omega (arith, c.if-counts-index.false, all _ _ c.counts.ensures))) c.rectangle.ensures
