-- The gathered window shows what the source shows, so the filter over it is the filter of the view, sample by sample.
use Prim.Native.Nat.{◌+◌, ◌*◌, ◌≤◌}
use mathlib.Core.Path.{◌∙◌, ap}
use native.Mathlib.Omega.{arith}
use native.Mathlib.Nat.{add-mul}
use lib.IntN.{pos}
use lib.ListN.{length}
use Rattle.laws.specs.Index.{row_le}
use Rattle.laws.specs.Rows.{rows_same}
use Rattle.rectangle.proofs.SoftLaws.{gathered_samples, guided_part, scratch_room}
use Rattle.rectangle.proofs.soft.guided_rect.Goals as goal

pub selfguided_window-requires-clause-samples : goal.selfguided_window-requires-clause-samples
selfguided_window-requires-clause-samples c = let s = c.args in let p = c.requires.w_in_bounds in
    let room : (s.r.h + 6) * (s.r.w + 6) ≤ length s.s.now = omega (arith, scratch_room s.r.w s.r.h, p.1) in (
      gathered_samples s.v.depth s.v.inside.now s.v.beside.now s.v.w s.v.h s.v.source s.v.fetchable s.v.sides s.r.x s.r.y (s.r.w + 6) (s.r.h + 6) s.s.now c.gather.new.dst c.gather.ensures room,
      record { fits = λ i h. omega (arith, p.0, row_le {y = s.r.y + i} {h = s.v.h} s.v.w (omega (arith, p.6.low)), add-mul s.r.y i s.v.w, p.6.right) },
      c.requires.legal_weights,
    )

pub returns : goal.returns
returns c = let s = c.args in let p = c.requires.w_in_bounds in
    let room : (s.r.h + 6) * (s.r.w + 6) ≤ length s.s.now = omega (arith, scratch_room s.r.w s.r.h, p.1) in
    c.selfguided_window.ensures
    ∙ rows_same _ _ _ _ _ _ _ (λ i j u v. ap pos (guided_part s.v.depth s.v.inside.now s.v.beside.now s.v.w s.v.h s.v.source s.v.fetchable s.v.sides s.r.x s.r.y (s.r.w + 6) (s.r.h + 6) s.s.now c.gather.new.dst c.gather.ensures room s.weights i j (omega arith) (omega arith)))
