-- The plane's extent: Round2 by its own subsampling.
use mathlib.Core.Path.{◌∙◌, ap}
use native.Mathlib.Omega.{arith}
use Rattle.standard.specs.Arithmetic.{round_ℕ}
use Rattle.frames.proofs.Conditions.{sub_small}
use Rattle.frames.proofs.extent.Goals as goal

pub round2_u32-requires : goal.round2_u32-requires
round2_u32-requires c = let a = c.args in let own = sub_small a.plane a.sub 1 c.requires.0 in (omega (arith, c.sub_of-own.ensures, own), omega arith)

pub returns : goal.returns
returns c = c.round2_u32.ensures ∙ ap (λ n. round_ℕ n c.args.side) c.sub_of-own.ensures
