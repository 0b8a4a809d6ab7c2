-- Three runs end to end are one run of the clamped row.
use Rattle.std.proofs.Common.{◌≡◌, refl, sym, ap, ◌∙◌, ℕ, ℤ, ◌+◌, ◌-◌, pos, length, get_or, arith}
use mir.Syntax.{w32}
use Rattle.laws.specs.ReadBack.{returned}
use Rattle.laws.specs.Runs.{stamp, stamp_same, stamp_next}
use Rattle.standard.specs.Fetch.{near}
use Rattle.fetch.proofs.gather_row.Goals as goal

-- the row's values
module _ (c : goal.After-dst-3-1) where
  abbrev f : ℕ → ℤ
  f k = get_or c.args.row.now (near (length c.args.row.now) c.args.x0 k) (pos 0)

  same : (i j : ℕ) → i ≡ j → get_or c.args.row.now i (pos 0) ≡ get_or c.args.row.now j (pos 0)
  same i j e = ap (λ (k : ℕ). get_or c.args.row.now k (pos 0)) e

pub returns : goal.returns
returns c =
    let r = c.split_row-a.ensures in
    let t = c.split_row-a.result in
    let s = c.args in
    let e1 = c.repeat_run.ensures ∙ stamp_same _ (f c) s.to t.a _ (λ k h. returned w32 c.repeat_run-arg-2-1.given refl ∙ same c 0 _ (sym (r.left k h))) in
    let e2 = stamp_next (f c) _ s.to t.a t.b (s.to + t.a) _ _ _ e1 c.copy_run.ensures refl (λ k h. same c (t.at + k) _ (sym (r.mid k h))) in
    stamp_next (f c) _ s.to (t.a + t.b) (s.n - t.a - t.b) (s.to + t.a + t.b) _ _ _ e2 c.repeat_run-2.ensures (omega arith)
    (λ k h. returned w32 c.repeat_run-arg-4-1.given refl ∙ same c (length s.row.now - 1) _ (sym (r.right k h)))
    ∙ ap (λ (k : ℕ). stamp (f c) s.to k s.dst.now) (omega (arith, r.fit))
