-- Each kind is an arm of the definition.
use mathlib.Core.Path.{sym, ◌∙◌, ap, subst}
use native.Mathlib.Omega.{arith}
use lib.IntN.{pos}
use mir.Syntax.{w32}
use Rattle.laws.specs.ReadBack.{returned}
use Rattle.laws.specs.Bounds.{sample_is}
use Rattle.standard.specs.declared.Kind.{Kind}
use Rattle.standard.specs.Fetch.{restored}
use Rattle.units.specs.Legal.{LegalKind}
use Rattle.sample.specs.Seen.{seen_at}
use Rattle.sample.proofs.filters.kind_sample.Goals as goal

pub wiener_sample-requires : goal.wiener_sample-requires
wiener_sample-requires c = let p = c.requires in (omega (arith, p.0), subst LegalKind c.in-Wiener.is p.1, p.2)

pub guided_sample-requires : goal.guided_sample-requires
guided_sample-requires c = let p = c.requires in (p.0, subst LegalKind c.in-SelfGuided.is p.1, p.2)

pub returns-in-None : goal.returns-in-None
unfolding restored seen_at
returns-in-None c = let a = c.args in returned w32 c.result-1.given (sym (sample_is c.requires.2 24 (omega arith) (omega arith)) ∙ ap (λ (k : Kind). pos (restored a.d a.row k (seen_at a.s.now))) (sym c.in-None.is))

pub returns-in-Wiener : goal.returns-in-Wiener
unfolding restored
returns-in-Wiener c = let a = c.args in returned w32 c.wiener_sample.type_inv (c.wiener_sample.ensures ∙ ap (λ (k : Kind). pos (restored a.d a.row k (seen_at a.s.now))) (sym c.in-Wiener.is))

pub returns-in-SelfGuided : goal.returns-in-SelfGuided
unfolding restored
returns-in-SelfGuided c = let a = c.args in returned w32 c.guided_sample.type_inv (c.guided_sample.ensures ∙ ap (λ (k : Kind). pos (restored a.d a.row k (seen_at a.s.now))) (sym c.in-SelfGuided.is))
