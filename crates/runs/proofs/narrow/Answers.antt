-- The cast keeps a number that fits: its bits are read back as the number.
use mir.Syntax.{w16, w32}
use Rattle.laws.specs.SignedCode.{Expression, Var, Cast, safe, is_exact}
use Rattle.runs.proofs.narrow.Goals as goal

abbrev kept : goal.Start → Expression
kept c = Cast w32 (Var c.args.x 32767 c.requires)

pub overflow_cast-result : goal.overflow_cast-result
overflow_cast-result c = safe w16 (kept c) tt

pub returns : goal.returns
returns c = is_exact w16 (kept c) tt
