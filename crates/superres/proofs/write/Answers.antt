-- A copy, or the plane of the plan: what no test refuses is what each step asks.
use mathlib.Core.Path.{refl, sym, ◌∙◌}
use native.Mathlib.Omega.{arith}
use Rattle.superres.proofs.Clean.{clean, copied_long, wider, some_cols}
use Rattle.superres.proofs.Planes.{copied_run, plan_fits, plan_out, plan_written}
use Rattle.superres.proofs.write.Goals as goal

pub copy_run-requires : goal.copy_run-requires
copy_run-requires c = let e = copied_long (clean _ _ _ c.requires) (sym c.if-is_copy.ensures) in (omega (arith, e), omega arith)

pub returns-then-is_copy : goal.returns-then-is_copy
returns-then-is_copy c = copied_run (clean _ _ _ c.requires) (sym c.if-is_copy.ensures) _ _ refl c.copy_run.ensures

pub plan_of-p-requires : goal.plan_of-p-requires
plan_of-p-requires c = let k = clean _ _ _ c.requires in let e = sym c.if-is_copy.ensures in (k.sides, some_cols k e, wider k e)

pub invariant_of-scale : goal.invariant_of-scale
invariant_of-scale c = record { fit = plan_fits (clean _ _ _ c.requires) (sym c.if-is_copy.ensures) c.plan_of-p.ensures }

pub scale-requires : goal.scale-requires
scale-requires c = record { out_len = plan_out (clean _ _ _ c.requires) (sym c.if-is_copy.ensures) c.plan_of-p.ensures }

pub returns : goal.returns
returns c = c.scale.ensures ∙ plan_written (clean _ _ _ c.requires) (sym c.if-is_copy.ensures) c.plan_of-p.ensures
