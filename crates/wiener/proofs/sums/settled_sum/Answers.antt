-- The sum is small, so rounding and clip take it; what is clipped fits 16 bits.
use mathlib.Core.Path.{◌≡◌, ◌∙◌, ap}
use mathlib.Core.List.{map}
use Prim.Native.Nat.{◌<◌}
use lib.Signed.{mag}
use mir.Syntax.{w32}
use mir.Val.{to_z, of_z}
use Rattle.laws.specs.ReadBack.{returned, of_read, abs_at}
use Rattle.wiener.specs.Passes.{seven, settled}
use Rattle.wiener.proofs.SumLaws.{seven_small}
use Rattle.wiener.proofs.PassLaws.{settled_fits}
use Rattle.wiener.proofs.sums.settled_sum.Given.{Over}
use Rattle.wiener.proofs.sums.settled_sum.Goals as goal

settled_is : (g : Over) (c : goal.After-settle g) → to_z w32 (of_z w32 c.settle.result) ≡ settled c.args.a (seven c.args.tr.now c.args.k (map g.T.Half.value c.args.s.now) c.args.c c.args.st)
settled_is g c = returned w32 c.settle.type_inv (c.settle.ensures ∙ ap (settled c.args.a) (returned w32 c.seven_sum-z.type_inv c.seven_sum-z.ensures))

pub settle-requires : goal.settle-requires
settle-requires g c = record { z_bound = abs_at (returned w32 c.seven_sum-z.type_inv c.seven_sum-z.ensures) (seven_small c.requires.seven_halves c.requires.narrow) }

pub clipped-requires : goal.clipped-requires
clipped-requires g c = of_read (λ z. mag z < 32768) (settled_is g c) (settled_fits c.args.a _)
