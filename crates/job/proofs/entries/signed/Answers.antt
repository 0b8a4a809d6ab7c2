-- A number below 2 ^ 31 reads back as itself, and so does what is left of it.
use native.Mathlib.Omega.{arith}
use borrow.Author.Tests.{lt-ltb, le-ltb}
use mathlib.Core.Path.{◌≡◌, ◌∙◌}
use Prim.Native.Nat.{ℕ, ◌<◌}
use lib.IntN.{pos, ◌-ℤ◌}
use mir.Syntax.{w32}
use mir.Val.{SFits, to_z}
use mir.Facts.{to_z-of_z, to_z_pos}
use Rattle.standard.specs.Job.{signed16}
use Rattle.job.proofs.entries.signed.Goals as goal

plain : (e : ℕ) → e < 65536 → to_z w32 e ≡ pos e
plain e h = to_z_pos w32 (omega arith)

-- and less 65,536 it fits
less_fits : (e : ℕ) → e < 65536 → SFits w32 (pos e -ℤ pos 65536)
less_fits e h = simp (lt-ltb e 65536 h) (record { sfits = omega arith })

pub returns-then-e-lt32768 : goal.returns-then-e-lt32768
unfolding signed16
returns-then-e-lt32768 c = simp (lt-ltb _ _ c.if-e-lt32768.true, plain c.args.e c.requires)

pub overflow_sub-result : goal.overflow_sub-result
overflow_sub-result c = rw (plain c.args.e c.requires) (less_fits c.args.e c.requires)

pub returns : goal.returns
unfolding signed16
returns c = to_z-of_z {w = w32} (overflow_sub-result c) ∙ simp (plain c.args.e c.requires, le-ltb _ _ c.if-e-lt32768.false)
