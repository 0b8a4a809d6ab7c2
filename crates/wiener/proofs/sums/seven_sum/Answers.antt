-- Each pair fits 16 bits and each product 32; the sum of the products is the seven-tap sum by one ring law.
use mathlib.Core.Path.{◌∙◌}
use native.Mathlib.Omega.{arith}
use lib.IntN.{◌+ℤ◌, ◌*ℤ◌}
use mir.Syntax.{w16, w32}
use Rattle.laws.specs.Congruence.{ap2}
use Rattle.laws.specs.SignedCode.{Expression, ◌⊕◌, lhs, rhs, safe, is_exact}
use Rattle.laws.specs.ReadBack.{returned}
use Rattle.wiener.proofs.SumLaws.{half_value, value_at, called, product_0, product_1, product_2, product_3, products_are}
use Rattle.wiener.proofs.sums.seven_sum.Given.{Over}
use Rattle.wiener.proofs.sums.seven_sum.Goals as goal

-- what is read of the products
module _ (g : Over) (c : goal.After-by-e g) where
  abbrev whole : Expression
  whole =
      let f = g.T.Half.value in let s = c.args.s.now in let p = c.requires.seven_halves in let q = c.requires.narrow in
      called (product_0 p q) c.by-a.type_inv (c.by-a.ensures ∙ ap2 ◌*ℤ◌ (returned w16 c.pair.type_inv (c.pair.ensures ∙ ap2 ◌+ℤ◌ (value_at f s _ _ c.index-s-c.is (omega arith) (omega arith)) (value_at f s _ _ c.index-s-c-2.is (omega arith) (omega arith)))) (is_exact w16 (rhs (product_0 p q)) tt))
      ⊕ called (product_1 p q) c.by-b.type_inv (c.by-b.ensures ∙ ap2 ◌*ℤ◌ (returned w16 c.pair-2.type_inv (c.pair-2.ensures ∙ ap2 ◌+ℤ◌ (value_at f s _ _ c.index-s-c-3.is (omega arith) (omega arith)) (value_at f s _ _ c.index-s-c-4.is (omega arith) (omega arith)))) (is_exact w16 (rhs (product_1 p q)) tt))
      ⊕ called (product_2 p q) c.by-d.type_inv (c.by-d.ensures ∙ ap2 ◌*ℤ◌ (returned w16 c.pair-3.type_inv (c.pair-3.ensures ∙ ap2 ◌+ℤ◌ (value_at f s _ _ c.index-s-c-5.is (omega arith) (omega arith)) (value_at f s _ _ c.index-s-c-6.is (omega arith) (omega arith)))) (is_exact w16 (rhs (product_2 p q)) tt))
      ⊕ called (product_3 p q) c.by-e.type_inv (c.by-e.ensures ∙ ap2 ◌*ℤ◌ (returned w16 c.half.type_inv (c.half.ensures ∙ value_at f s _ _ c.index-s-c-7.is (omega arith) (omega arith))) (is_exact w16 (rhs (product_3 p q)) tt))

pub pair-requires : goal.pair-requires
pair-requires g c = let f = g.T.Half.value in let s = c.args.s.now in let p = c.requires.seven_halves in (half_value f s p _ 0 c.index-s-c.is (omega arith) (omega arith) (omega arith), half_value f s p _ 6 c.index-s-c-2.is (omega arith) (omega arith) (omega arith))

pub pair-requires-2 : goal.pair-requires-2
pair-requires-2 g c = let f = g.T.Half.value in let s = c.args.s.now in let p = c.requires.seven_halves in (half_value f s p _ 1 c.index-s-c-3.is (omega arith) (omega arith) (omega arith), half_value f s p _ 5 c.index-s-c-4.is (omega arith) (omega arith) (omega arith))

pub pair-requires-3 : goal.pair-requires-3
pair-requires-3 g c = let f = g.T.Half.value in let s = c.args.s.now in let p = c.requires.seven_halves in (half_value f s p _ 2 c.index-s-c-5.is (omega arith) (omega arith) (omega arith), half_value f s p _ 4 c.index-s-c-6.is (omega arith) (omega arith) (omega arith))

pub half-requires : goal.half-requires
half-requires g c = half_value g.T.Half.value c.args.s.now c.requires.seven_halves _ 3 c.index-s-c-7.is (omega arith) (omega arith) (omega arith)

pub overflow_add-result : goal.overflow_add-result
overflow_add-result g c = safe w32 (lhs (lhs (whole g c))) tt

pub overflow_add-result-2 : goal.overflow_add-result-2
overflow_add-result-2 g c = safe w32 (lhs (whole g c)) tt

pub overflow_add-result-3 : goal.overflow_add-result-3
overflow_add-result-3 g c = safe w32 (whole g c) tt

pub returns : goal.returns
returns g c = is_exact w32 (whole g c) tt ∙ products_are c.requires.seven_halves c.requires.narrow
