-- The number of the refusal and zeros.
use mathlib.Core.Path.{◌≡◌, sym, ◌∙◌, ap}
use Rattle.std.specs.Prelude.{ℕ, ℤ}
use Rattle.laws.specs.Congruence.{ap2, ap3, ap4}
use Rattle.standard.specs.Answers.{of_placed, nowhere}
use Rattle.host.proofs.answers.PlacedNumbersFromResultGeometryRefusal.from.Goals as goal

pub returns-in-Err : goal.returns-in-Err
unfolding nowhere
returns-in-Err c =
    let d = c.default.ensures in
    let place = ap4 {C = ℕ × ℕ × ℕ × ℕ} (λ a b x y. (a, b, x, y)) (d.0) (d.1.0) (d.1.1.0) (d.1.1.1.0) in
    let size = ap4 {C = ℕ × ℕ × ℤ × ℤ} (λ w h s e. (w, h, s, e)) (d.1.1.1.1.0) (d.1.1.1.1.1.0) (d.1.1.1.1.1.1.0) (d.1.1.1.1.1.1.1.0) in
    let ends = ap2 {C = ℤ × ℤ} (λ x y. (x, y)) (d.1.1.1.1.1.1.1.1.0) (d.1.1.1.1.1.1.1.1.1) in
    let zeros : c.default.result ≡ nowhere = ap3 (λ p s e. record {
      unit_row = p.0;
      unit_col = p.1;
      x = p.2;
      y = p.3;
      w = s.0;
      h = s.1;
      stripe_start_y = s.2;
      stripe_end_y = s.3;
      plane_end_x = e.0;
      plane_end_y = e.1;
    }) place size ends in
    c.place_beside-in-Err.ensures ∙ ap2 (λ k v. (k, v)) c.from.ensures zeros ∙ sym (ap of_placed c.in-Err.is)
