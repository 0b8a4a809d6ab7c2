-- An entry's own numbers by its type, and the way back: the ten numbers of a kind. Numbers that the type does not use are 0.
use Rattle.std.specs.Prelude.{List, [], ◌∷◌, ℕ, ℤ, pos, nat_abs}
use Rattle.standard.specs.declared.Taps.{Taps}
use Rattle.standard.specs.declared.Weights.{Weights}
use Rattle.standard.specs.declared.Kind.{Kind}
use Rattle.standard.specs.declared.Kind.TheVariants.{None, Wiener, SelfGuided}
use Rattle.standard.specs.Units.{field}

abbrev pub taps_of : List ℤ → ℕ → Taps
taps_of t e = record { v0 = field t e 1; v1 = field t e 2; v2 = field t e 3; h0 = field t e 4; h1 = field t e 5; h2 = field t e 6 }

abbrev pub weights_of : List ℤ → ℕ → Weights
weights_of t e = record { set = nat_abs (field t e 7); w0 = field t e 8; w1 = field t e 9 }

unfoldable pub entry_of : Kind → List ℤ
entry_of None = pos 0 ∷ pos 0 ∷ pos 0 ∷ pos 0 ∷ pos 0 ∷ pos 0 ∷ pos 0 ∷ pos 0 ∷ pos 0 ∷ pos 0 ∷ []
entry_of (Wiener t) = pos 1 ∷ t.v0 ∷ t.v1 ∷ t.v2 ∷ t.h0 ∷ t.h1 ∷ t.h2 ∷ pos 0 ∷ pos 0 ∷ pos 0 ∷ []
entry_of (SelfGuided s) = pos 2 ∷ pos 0 ∷ pos 0 ∷ pos 0 ∷ pos 0 ∷ pos 0 ∷ pos 0 ∷ pos s.set ∷ s.w0 ∷ s.w1 ∷ []
