-- Row by row: the rows so far are the boundaries' rows; all of them are the captured slice.
use Prim.Native.Nat.{ℕ, ◌+◌, ◌*◌, ◌-◌, ◌/◌, ◌%◌, ◌≤◌}
use mathlib.Core.Path.{◌≡◌, ◌∙◌, ap}
use native.Mathlib.Omega.{arith}
use lib.ListN.{length, get_or}
use lib.IntN.{pos}
use Rattle.laws.specs.Index.{row_le}
use Rattle.laws.specs.Rows.{rows, rows_none, rows_more, rows_length}
use Rattle.standard.specs.Stripes as defined
use Rattle.standard.specs.Planes.{edge_row}
use Rattle.frames.proofs.Legal.{halved}
use Rattle.edges.proofs.Laws.{some_stripe, few_stripes, rows_room, edge_in, captured_is}
use Rattle.edges.proofs.rows.capture_rows.Lts as lts
use Rattle.edges.proofs.rows.capture_rows.Reads as reads
use Rattle.edges.proofs.rows.capture_rows.Tie as tie
use Rattle.edges.proofs.rows.capture_rows.Goals as goal

-- few boundaries
few : (c : goal.After-stripes) → c.stripes.result ≤ 513
few c = omega (arith, c.stripes.ensures, few_stripes (halved _ c.requires.sub_y_bound.0) c.args.h c.requires.sub_y_bound.2)

module _ (c : goal.In-loop-k) where
  abbrev start : goal.Start
  start = c.before.before.before

  abbrev k : ℕ
  k = c.loop-k.k

  room : k * start.args.w + start.args.w ≤ length start.args.edges.now
  room = omega (arith, row_le {y = k} {h = 4 * (defined.stripes start.args.sub_y start.args.h - 1)} start.args.w (omega (arith, c.before.stripes.ensures)), rows_room start.args.w (defined.stripes start.args.sub_y start.args.h), start.requires.deblocked_len.1)

  as_long : length c.loop-k.edges ≡ length start.args.edges.now
  as_long = ap length c.loop-k.invariant ∙ rows_length _ _ _ _ _ _

row : (c : lts.After-edge_row tie.the-claims reads.Pre reads.Post goal.the-invariant-loop-k goal.the-decreases-loop-k tie.handed_clauses) → c.edge_row-y.result * (start c.before).args.w + (start c.before).args.w ≤ length (start c.before).args.deblocked.now
row c = let s = start c.before in omega (arith, row_le {y = c.edge_row-y.result} {h = s.args.h} s.args.w (omega (arith, c.edge_row-y.ensures, edge_in s.args.sub_y s.args.h (k c.before / 4 + 1) (k c.before % 4) s.requires.sub_y_bound.1)), s.requires.deblocked_len.0)

pub stripes-requires : goal.stripes-requires
stripes-requires c = (omega arith, omega arith, omega arith)

pub overflow_sub-n : goal.overflow_sub-n
overflow_sub-n c = omega (arith, c.stripes.ensures, some_stripe c.args.sub_y c.args.h)

pub overflow_mul-n : goal.overflow_mul-n
overflow_mul-n c = omega (arith, few c)

pub loop-k-init : goal.loop-k-init
loop-k-init c = rows_none _ _ _ _ _

pub overflow_add-k : goal.overflow_add-k
overflow_add-k c = omega (arith, few c.before.before)

pub edge_row-y-requires : goal.edge_row-y-requires
edge_row-y-requires c = (omega arith, omega arith, omega (arith, few c.before.before), omega arith, omega arith)

pub overflow_mul-k : goal.overflow_mul-k
overflow_mul-k c = omega (arith, room c.before.before)

pub overflow_mul-y : goal.overflow_mul-y
overflow_mul-y c = omega (arith, row c.before)

pub copy_run-requires : goal.copy_run-requires
copy_run-requires c = (omega (arith, room c.before.before, as_long c.before.before), omega (arith, row c.before))

pub loop-k-preserved : goal.loop-k-preserved
loop-k-preserved c = let i = c.before.before.before.before in
    let a = (start i).args in
    rows_more _ _ _ _ _ _ _ _ _ _ c.copy_run.ensures i.loop-k.invariant (omega arith)
    (λ x h. ap (λ (y : ℕ). get_or a.deblocked.now (y * a.w + x) (pos 0)) c.edge_row-y.ensures)

pub shape_of-edges : goal.shape_of-edges
shape_of-edges c = ap length c.loop-k.invariant ∙ rows_length _ _ _ _ _ _

pub returns : goal.returns
returns c = let l = c.loop-k in
    let s = c in
    let a = s.args in
    captured_is a.sub_y a.h a.w a.deblocked.now a.edges.now _ s.requires.deblocked_len.1
    (l.invariant ∙ ap (λ (n : ℕ). rows (λ k x. get_or a.deblocked.now (edge_row a.sub_y a.h (k / 4 + 1) (k % 4) * a.w + x) (pos 0)) 0 a.w a.w n a.edges.now) (omega (arith, c.stripes.ensures)))
