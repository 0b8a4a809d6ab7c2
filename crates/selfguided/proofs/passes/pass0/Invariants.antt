-- The rows so far are those of `Sixed`; `SixLaws` has one row more.
use Rattle.selfguided.specs.Passes.{Sixed}
use Rattle.selfguided.proofs.passes.pass0.Given as goal

abbrev pub invariant-loop-k : goal.invariant-loop-k
invariant-loop-k l = Sixed l.z.depth l.z.eps l.w l.h l.odd l.k l.initial.s l.s
