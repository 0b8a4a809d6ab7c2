-- Edges, sums, rounding: each step asks what the one before left.
use Prim.Native.Nat.{ℕ, ◌+◌, ◌*◌, ◌≤◌, ◌<◌}
use mathlib.Core.List.{List}
use native.Mathlib.Omega.{arith}
use lib.IntN.{ℤ}
use lib.ListN.{length}
use Rattle.laws.specs.Bounds.{Sized, sized_part, sized_widen}
use Rattle.laws.specs.Index.{row_le}
use Rattle.superres.specs.Scaled.{Fit}
use Rattle.superres.proofs.Rows.{need_small, reaches, sums_small, row_is, taps_sized}
use Rattle.superres.proofs.block.block_row.Goals as goal

-- row y lies within the plane that is read
module _ {start step last cols rows width top room : ℕ} {src : List ℤ} (f : Fit start step last cols rows width top src room) (y : ℕ) (h : y < rows) where
  src_row : y * cols + cols ≤ length src
  src_row = omega (arith, row_le cols h, f.has)

  row_sized : Sized 4095 (y * cols) (y * cols + last + 1) src
  row_sized = sized_part _ _ f.sized (omega arith) (omega (arith, src_row, f.ends))

pub edged-requires : goal.edged-requires
edged-requires c =
    let k = c.args.k.now in
    let f = k.s.fit in
    let n = need_small k.ready f.steps in
    record {
      le_n = (n.0, n.1, omega (arith, k.ready.from, k.ready.some, f.reach k.b.x0 (omega (arith, k.ready.some, k.inside))), omega (arith, f.ends, f.wide));
      n_in_bounds = (omega (arith, n.1), omega (arith, src_row f c.args.y c.requires.y_lt_rows.0, f.ends), sized_widen 32767 (omega arith) (row_sized f c.args.y c.requires.y_lt_rows.0));
    }

pub sums-requires : goal.sums-requires
sums-requires c =
    let k = c.args.k.now in
    record {
      n_in_bounds = (omega (arith, k.ready.most), reaches k.ready k.s.fit.steps k.taps.laid _ _ _ _ _ c.requires.y_lt_rows.1 c.edged.ensures (row_sized k.s.fit c.args.y c.requires.y_lt_rows.0));
      in_bounds = (k.taps.laid.long, taps_sized k.taps.laid);
    }

pub settle-requires : goal.settle-requires
settle-requires c =
    let k = c.args.k.now in (
      omega (arith, row_le k.s.p.width c.requires.y_lt_rows.0, k.inside),
      omega (arith, k.ready.most),
      k.s.fit.bright,
      sums_small k.ready k.s.fit.steps k.taps.laid _ _ _ _ _ c.requires.y_lt_rows.1 c.edged.ensures _ _ c.requires.y_lt_rows.2 c.sums.ensures (row_sized k.s.fit c.args.y c.requires.y_lt_rows.0),
    )

pub returns : goal.returns
returns c =
    let k = c.args.k.now in
    row_is k.ready k.s.fit.steps k.taps.laid _ _ _ _ _ c.requires.y_lt_rows.1 c.edged.ensures _ _ c.requires.y_lt_rows.2 c.sums.ensures k.s.p.top (c.args.y * k.s.p.width + k.b.x0) _ _ c.settle.ensures
