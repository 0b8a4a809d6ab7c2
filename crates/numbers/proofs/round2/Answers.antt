-- Round2 of a signed number: the sum fits by its sizes, and what is shifted is the definition's number.
use Prim.Native.Nat.{◌-◌}
use mathlib.Core.Path.{sym, ◌∙◌}
use native.Mathlib.Omega.{arith}
use mir.Syntax.{w32}
use mir.Facts.{to_z-of_z}
use Rattle.laws.specs.SignedCode.{Expression, Var, ◌⊕◌, ShrBy, safe, is_exact}
use Rattle.laws.specs.ReadBack.{one_shifted}
use Rattle.standard.proofs.Arms.{round2_zero, round2_more}
use Rattle.numbers.proofs.round2.Goals as goal

-- x + (1 << (n - 1))
abbrev raised : goal.Else-n-eq0 → Expression
raised c = let s = c in Var s.args.x 1073741824 s.requires.1 ⊕ one_shifted w32 (s.args.n - 1) 19 (omega arith) tt

pub returns-then-n-eq0 : goal.returns-then-n-eq0
returns-then-n-eq0 c = to_z-of_z c.ranges.x ∙ sym (round2_zero c.args.x c.args.n c.if-n-eq0.true)

pub overflow_add-result : goal.overflow_add-result
overflow_add-result c = safe w32 (raised c) tt

pub returns : goal.returns
returns c = is_exact w32 (ShrBy (raised c) c.args.n) tt ∙ sym (round2_more c.args.x c.args.n c.if-n-eq0.false)
