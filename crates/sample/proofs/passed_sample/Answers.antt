-- The unpacked samples are in range and the unit is legal, so the filter of its kind gives the sample of the definition.
use mathlib.Core.Path.{sym, ◌∙◌, ap, subst}
use native.Mathlib.Omega.{arith}
use lib.IntN.{pos}
use lib.ListN.{length}
use mir.Syntax.{w32}
use Rattle.laws.specs.ReadBack.{returned}
use Rattle.laws.specs.Congruence.{ap2}
use Rattle.laws.specs.Runs.{stamp_length}
use Rattle.standard.specs.declared.Depth.{Depth}
use Rattle.standard.specs.declared.Kind.{Kind}
use Rattle.standard.specs.Fetch.{restored}
use Rattle.units.specs.Legal.{LegalKind}
use Rattle.units.proofs.Legal.{legal_kind}
use Rattle.sample.specs.Seen.{seen_at}
use Rattle.sample.proofs.Numbers.{passed, unpacked, seen_bytes, sample_done}
use Rattle.sample.proofs.passed_sample.Goals as goal

pub unpack-requires : goal.unpack-requires
unpack-requires c = (omega arith, (passed c.args.depth c.args.entry.now c.args.bytes.now c.requires).long)

pub unit_at-unit-requires : goal.unit_at-unit-requires
unit_at-unit-requires c = record { e_in_bounds = omega arith; t = (passed c.args.depth c.args.entry.now c.args.bytes.now c.requires).legal }

pub kind_sample-requires : goal.kind_sample-requires
kind_sample-requires c = let u = c.unpack.ensures in let p = passed c.args.depth c.args.entry.now c.args.bytes.now c.requires in (omega (arith, ap length u ∙ stamp_length _ _ _ _), subst LegalKind (sym c.unit_at-unit.ensures) (legal_kind 0 _ 0 p.legal), unpacked _ _ _ p _ _ u (omega arith) _ c.depth_of.ensures)

pub returns : goal.returns
returns c = let s = c in returned w32 c.kind_sample.type_inv (c.kind_sample.ensures ∙ ap2 (λ (d : Depth) (k : Kind). pos (restored d s.args.row k (seen_at c.unpack.new.s))) c.depth_of.ensures c.unit_at-unit.ensures ∙ sample_done _ _ _ _ _ s.requires (seen_bytes _ _ _ c.unpack.ensures (omega arith)))
