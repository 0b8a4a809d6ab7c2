-- 4096 is 2^12, of which 2048 is half.
use mathlib.Core.Path.{refl}
use Rattle.standard.specs.Arithmetic.{round_ℕ}
use Rattle.boxes.proofs.shares.b2_of.Goals as goal

pub returns : goal.returns
unfolding round_ℕ
returns c = refl
