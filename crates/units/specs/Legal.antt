-- What a legal unit's numbers meet, as the filters ask it: each number within its range (§5.11.58).
use Rattle.std.specs.Prelude.{◌≤◌, pos, negsuc, ◌≤ℤ◌}
use Rattle.standard.specs.declared.Taps.{Taps}
use Rattle.standard.specs.declared.Weights.{Weights}
use Rattle.standard.specs.declared.Kind.{Kind}
use Rattle.standard.specs.declared.Kind.TheVariants.{None, Wiener, SelfGuided}

pub record LegalTaps (t : Taps) : Type 0 where
  pub v0_low : negsuc 4 ≤ℤ t.v0
  pub v0_high : t.v0 ≤ℤ pos 10
  pub v1_low : negsuc 22 ≤ℤ t.v1
  pub v1_high : t.v1 ≤ℤ pos 8
  pub v2_low : negsuc 16 ≤ℤ t.v2
  pub v2_high : t.v2 ≤ℤ pos 46
  pub h0_low : negsuc 4 ≤ℤ t.h0
  pub h0_high : t.h0 ≤ℤ pos 10
  pub h1_low : negsuc 22 ≤ℤ t.h1
  pub h1_high : t.h1 ≤ℤ pos 8
  pub h2_low : negsuc 16 ≤ℤ t.h2
  pub h2_high : t.h2 ≤ℤ pos 46

pub record LegalWeights (s : Weights) : Type 0 where
  pub set_high : s.set ≤ 15
  pub w0_low : negsuc 95 ≤ℤ s.w0
  pub w0_high : s.w0 ≤ℤ pos 31
  pub w1_low : negsuc 31 ≤ℤ s.w1
  pub w1_high : s.w1 ≤ℤ pos 95

abbrev pub LegalKind : Kind → Type 0
LegalKind None = Unit
LegalKind (Wiener t) = LegalTaps t
LegalKind (SelfGuided s) = LegalWeights s
