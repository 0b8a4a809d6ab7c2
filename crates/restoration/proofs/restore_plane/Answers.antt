-- Where a test gives its number, that number and the slices as they were; else the plane and its count.
use Prim.Native.Nat.{ℕ, ◌≤◌}
use mathlib.Core.Path.{refl, sym, ◌∙◌}
use native.Mathlib.Omega.{arith}
use native.Mathlib.Nat.{mul-le-mul}
use lib.IntN.{ℤ}
use lib.ListN.{length}
use mathlib.Core.List.{List}
use Rattle.std.proofs.lemmas.Result.{err_from_is_err_and}
use Rattle.standard.specs.declared.Frame.{Frame}
use Rattle.asked.proofs.Numbers.{PlanePassed}
use Rattle.standard.specs.Refusals.{plane_height, plane_width, samples}
use Rattle.edges.proofs.Numbers.{refused}
use Rattle.restoration.proofs.Answers.{passed, written_whole, written_changed, cdef_whole, answer_done, answer_refused, out_done, out_refused}
use Rattle.restoration.proofs.restore_plane.Goals as goal

area : (f : Frame) {table D C : List ℤ} {out scratch : ℕ} → PlanePassed f table D C out scratch → samples f ≤ 268435456
area f p = mul-le-mul {n₁ = plane_height f} {m₁ = plane_width f} {n₂ = 16384} {m₂ = 16384} p.legal.rows_low p.legal.cols_low

pub count_changed-requires : goal.count_changed-requires
count_changed-requires c =
    let z = sym c.in_ok-plane_tests.ensures in
    let p = passed _ _ _ _ _ _ z in
    let long = c.write_plane.auto.out in
    record {
      out_len = (long ∙ p.long_out ∙ sym p.long_c, omega (arith, p.long_c, area c.args.f p));
      whole = (written_whole c.args.f c.args.table.now c.args.deblocked.now c.args.cdef.now _ c.write_plane.ensures (long ∙ p.long_out), cdef_whole _ _ _ _ _ _ z);
    }

pub returns-in_err-plane_tests : goal.returns-in_err-plane_tests
returns-in_err-plane_tests c =
    let e = c.in_err-plane_tests.ensures in
    let no = refused _ _ e in
    let r = err_from_is_err_and c.from_residual.result c.from_residual.ensures.1 in
    record {
      result_value = rw (r.1, r.2) (answer_refused c.args.f c.args.table.now c.args.deblocked.now c.args.cdef.now c.args.out.now (length c.args.scratch.now) _ e (λ z. no (sym e ∙ z)));
      out_after = out_refused c.args.f c.args.table.now c.args.deblocked.now c.args.cdef.now c.args.out.now (length c.args.scratch.now) no;
      scratch_unchanged = λ _. refl;
    }

pub returns : goal.returns
returns c =
    let z = sym c.in_ok-plane_tests.ensures in
    let p = passed _ _ _ _ _ _ z in
    record {
      result_value = answer_done c.args.f c.args.table.now c.args.deblocked.now c.args.cdef.now c.args.out.now (length c.args.scratch.now) z _ (c.count_changed.ensures ∙ written_changed c.args.f c.args.table.now c.args.deblocked.now c.args.cdef.now _ c.write_plane.ensures _ p.long_c);
      out_after = c.write_plane.ensures ∙ out_done c.args.f c.args.table.now c.args.deblocked.now c.args.cdef.now c.args.out.now (length c.args.scratch.now) z;
      scratch_unchanged = λ no. absurd (no z);
    }
