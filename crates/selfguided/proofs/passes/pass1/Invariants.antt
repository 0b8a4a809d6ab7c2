-- The rows so far are those of `Crossed`; `CrossLaws` has one row more.
use Rattle.selfguided.specs.Passes.{Crossed}
use Rattle.selfguided.proofs.passes.pass1.Given as goal

abbrev pub invariant-loop-y : goal.invariant-loop-y
invariant-loop-y l = Crossed l.z.depth l.z.eps l.w l.h l.y l.initial.s l.s
