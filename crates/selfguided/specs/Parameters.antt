-- Sgr_Params as code holds it: of each pass its eps, or none where the radius is 0.
use Rattle.std.specs.Prelude.{◌≡◌, ℕ, ◌≤◌, Option, Some, None}
use Rattle.standard.specs.SelfGuided.{sgr}
use Rattle.selfguided.specs.declared.parameters.Params.{Params}

-- the radius of a pass, which is r where it is not 0, and its eps
abbrev pub radius_of : ℕ → Option ℕ → ℕ
radius_of r None = 0
radius_of r (Some _) = r

abbrev pub eps_of : Option ℕ → ℕ
eps_of None = 0
eps_of (Some eps) = eps

pub record ParamsOf (set : ℕ) (p : Params) : Type 0 where
  pub r0_is : radius_of 2 p.eps0 ≡ (sgr set).0
  pub eps0_is : eps_of p.eps0 ≡ (sgr set).1
  pub r1_is : radius_of 1 p.eps1 ≡ (sgr set).2
  pub eps1_is : eps_of p.eps1 ≡ (sgr set).3

-- where the radius is not 0, eps is one of the table's
pub record EpsFor (r eps : ℕ) : Type 0 where
  pub low : (r ≡ 0 → ⊥) → 1 ≤ eps
  pub high : (r ≡ 0 → ⊥) → eps ≤ 75
