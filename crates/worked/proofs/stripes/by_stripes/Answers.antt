-- The rooms are long enough for the bounds of a job, so that capture and every stripe are done.
use Prim.Native.Nat.{ℕ, ◌*◌, ◌-◌, ◌≤◌}
use mathlib.Core.Path.{◌≡◌, refl, ◌∙◌, ap}
use native.Mathlib.Omega.{arith}
use mathlib.Core.List.{[], ◌∷◌}
use lib.ListN.{length, replicate, length-replicate}
use lib.Seq.{length-take-le}
use Rattle.laws.specs.Congruence.{ap2}
use Rattle.laws.specs.Index.{mul_small}
use Rattle.standard.specs.Stripes as defined
use Rattle.standard.specs.Refusals.{plane_height, plane_width, sub_y_of}
use Rattle.standard.specs.Job.{Job, job_stripes}
use Rattle.frames.proofs.Legal.{LegalFrame}
use Rattle.edges.proofs.Laws.{some_stripe}
use Rattle.worked.specs.Work.{job_with}
use Rattle.worked.proofs.Run.{passed, narrow, three, capture_done, in_place_is}
use Rattle.worked.proofs.Laws.{clear_marks}
use Rattle.worked.proofs.stripes.by_stripes.Goals as goal

module _ (s : goal.Start) where
  abbrev job : Job
  job = job_with s.args.f s.args.table.now s.args.deblocked.now s.args.plane.now

  plain : LegalFrame s.args.f
  plain = (passed job s.requires.0 s.requires.1).legal

-- the numbers that the callees gave
module _ (k : goal.After-stripes-n) where
  abbrev start : goal.Start
  start = k.before.before.before.before

  abbrev wide : ℕ
  wide = k.extent-w.result

  many : k.stripes-n.result ≡ defined.stripes (sub_y_of start.args.f) (plane_height start.args.f)
  many = k.stripes-n.ensures ∙ ap2 defined.stripes k.sub_of.ensures k.extent-h.ensures

  few : k.stripes-n.result ≤ 3
  few = omega (arith, many, three (job start) start.requires.0 start.requires.1)

  room : 4 * wide * (k.stripes-n.result - 1) ≤ 64
  room = mul_small 32 2 (omega (arith, k.extent-w.ensures, narrow (job start) start.requires.0 start.requires.1)) (omega (arith, few))

  exact : 4 * wide * (k.stripes-n.result - 1) ≡ 4 * plane_width start.args.f * (defined.stripes (sub_y_of start.args.f) (plane_height start.args.f) - 1)
  exact = ap2 (λ w n. 4 * w * (n - 1)) k.extent-w.ensures many

pub extent-h-requires : goal.extent-h-requires
extent-h-requires c = let l = plain c in (l.sub_y, l.high)

pub extent-w-requires : goal.extent-w-requires
extent-w-requires c = let l = plain c.before in (l.sub_x, l.wide)

pub sub_of-requires : goal.sub_of-requires
sub_of-requires c = tt

pub stripes-n-requires : goal.stripes-n-requires
stripes-n-requires c = let l = plain c.before.before.before in (omega (arith, c.sub_of.ensures, l.own_y), omega (arith, c.extent-h.ensures, l.rows), omega (arith, c.extent-h.ensures, l.rows_low))

pub overflow_sub-e : goal.overflow_sub-e
overflow_sub-e c = omega (arith, many c, some_stripe (sub_y_of (start c).args.f) (plane_height (start c).args.f))

pub overflow_mul-e-2 : goal.overflow_mul-e-2
overflow_mul-e-2 c = omega (arith, room c)

pub slice_bounds-edges-end : goal.slice_bounds-edges-end
slice_bounds-edges-end c = omega (arith, room c.before.before)

pub slice_bounds-marks-end : goal.slice_bounds-marks-end
slice_bounds-marks-end c = omega (arith, few c.before.before.before)

pub captured_run-requires : goal.captured_run-requires
captured_run-requires c = let k = c.before.before.before.before.before in
    let e = 4 * wide k * (k.stripes-n.result - 1) - 0 in
    let l : e ≤ 64 = omega (arith, room k) in
    let m : k.stripes-n.result - 0 ≤ 3 = omega (arith, few k) in
    let same : e ≡ 4 * wide k * (k.stripes-n.result - 1) = omega arith in
    (capture_done (job (start k)) (start k).requires.0 (start k).requires.1 _ (length-take-le e _ l ∙ same ∙ exact k), omega (arith, length-take-le {A = ℕ} (k.stripes-n.result - 0) (0 ∷ 0 ∷ 0 ∷ []) m))

pub returns : goal.returns
unfolding job_stripes
returns c = let k = c.before.before.before.before.before.before.before.before.before.before in
    let m = clear_marks k.stripes-n.result (few k) in
    c.captured_run.ensures
    ∙ in_place_is (job (start k)) _ _ _ _ (omega (arith, c.captured_run-arg-2-1.given)) refl (ap length m ∙ length-replicate k.stripes-n.result 0 ∙ many k) (m ∙ ap (λ n. replicate n 0) (many k))
