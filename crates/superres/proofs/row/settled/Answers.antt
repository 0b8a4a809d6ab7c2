-- Round2 by 7, then the clip: each by its own contract, on what is read of the other.
use Prim.Native.Nat.{ℕ, ◌≤◌}
use mathlib.Core.Path.{◌≡◌, ◌∙◌, ap}
use lib.IntN.{ℤ, pos, nat_abs}
use mir.Syntax.{w32}
use mir.Val.{to_z}
use mir.Facts.{to_z-of_z}
use Rattle.laws.specs.Congruence.{ap2}
use Rattle.laws.specs.ReadBack.{returned}
use Rattle.laws.specs.SignedCode.{Nat, is_exact}
use Rattle.standard.specs.Arithmetic.{round2, clip_to}
use Rattle.superres.proofs.row.settled.Goals as goal

top_read : (top : ℕ) → top ≤ 4095 → to_z w32 top ≡ pos top
top_read top h = is_exact w32 (Nat top 4095 h) tt

pub returns : goal.returns
returns c = returned w32 c.clip1.type_inv (c.clip1.ensures ∙ ap2 (λ (t : ℕ) (z : ℤ). pos (clip_to t z)) (ap nat_abs (top_read _ c.requires.1)) (returned w32 c.round2.type_inv (c.round2.ensures ∙ ap (round2 7) (to_z-of_z c.ranges.x))))
