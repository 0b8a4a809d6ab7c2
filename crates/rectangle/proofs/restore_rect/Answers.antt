-- Each arm of the match is the arm of the definition for that kind.
use mathlib.Core.Path.{sym, ◌∙◌, ap}
use Rattle.standard.specs.declared.Kind.{Kind}
use Rattle.laws.specs.Paint.{paint}
use Rattle.rectangle.specs.View.{shown_at}
use Rattle.rectangle.proofs.SoftLaws.{sharp_shown, soft_shown}
use Rattle.rectangle.proofs.restore_rect.Goals as goal

pub returns-in-None : goal.returns-in-None
returns-in-None c = let s = c.args in
    c.plain_rect.ensures ∙ ap (λ (k : Kind). paint s.r.x s.r.y s.r.w s.r.h s.v.w (shown_at s.v.depth k s.v.inside.now s.v.beside.now s.v.w s.v.h s.v.source) s.out.now) (sym c.in-None.is)

pub returns-in-Wiener : goal.returns-in-Wiener
returns-in-Wiener c = let s = c.args in
    c.wiener_rect.ensures ∙ sharp_shown s.v.depth _ c.in-Wiener.t _ _ _ _ _ _ _ _ _ _ c.in-Wiener.is

pub returns-in-SelfGuided : goal.returns-in-SelfGuided
returns-in-SelfGuided c = let s = c.args in
    c.guided_rect.ensures ∙ soft_shown s.v.depth _ c.in-SelfGuided.g _ _ _ _ _ _ _ _ _ _ c.in-SelfGuided.is
