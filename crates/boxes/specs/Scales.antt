-- The numbers of one pass as code holds them, and z cut at 255, beyond which a2 does not change.
use Rattle.std.specs.Prelude.{◌≡◌, ℕ, ◌*◌, min}
use Rattle.standard.specs.declared.Depth.{Depth}
use Rattle.standard.specs.Arithmetic.{round_ℕ}
use Rattle.standard.specs.SelfGuided.{scale, spread}
use Rattle.boxes.specs.declared.scale.Scale.{Scale}

pub record ScaleOf (r eps : ℕ) (d : Depth) (z : Scale) : Type 0 where
  pub depth_is : z.depth ≡ d
  pub eps_is : z.eps ≡ eps
  pub s_is : z.s ≡ scale r eps

unfoldable pub z_of : Scale → ℕ → ℕ → ℕ → ℕ
z_of z n a b = min (round_ℕ 20 (spread z.depth n a b * z.s)) 255
