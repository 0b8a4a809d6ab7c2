-- Answers of the reference (recorded/samples.rec) where values A to J are silent: vertical and horizontal taps that differ, the clip
-- between the passes at both ends, each depth's rounding. One claim, computed by the checker.
use mathlib.Core.Path.{◌≡◌, refl}
use mathlib.Core.Bool.{cond, ◌&&◌}
use mathlib.Core.List.{[], ◌∷◌}
use Prim.Native.Nat.{ℕ}
use lib.IntN.{pos, negsuc}
use lib.Dec.{eqb}
use Rattle.standard.specs.declared.Depth.{Depth}
use Rattle.standard.specs.declared.Depth.TheVariants.{Eight, Ten, Twelve}
use Rattle.standard.specs.declared.Kind.TheVariants.{Wiener}
use Rattle.standard.specs.Wiener.{Grid}
use Rattle.standard.specs.Fetch.{restored}
use Rattle.standard.proofs.Opened.{opened}

-- a flat window but for one sample, in the middle column of row k
apart : ℕ → ℕ → ℕ → Grid
apart k flat one i j = cond (eqb i k && eqb j 3) one flat

sharp : Depth → ℕ → ℕ → ℕ → ℕ
sharp d k flat one = restored d 0 (Wiener (record { v0 = pos 10; v1 = pos 8; v2 = pos 46; h0 = negsuc 4; h1 = negsuc 22; h2 = negsuc 16 })) (apart k flat one)

recorded : sharp Eight 0 0 255 ∷ sharp Eight 1 255 0 ∷ sharp Eight 2 0 255 ∷ sharp Eight 2 255 0
    ∷ sharp Ten 2 0 1023 ∷ sharp Ten 2 1023 0 ∷ sharp Twelve 2 0 4095 ∷ sharp Twelve 2 4095 0 ∷ []
    ≡ 30 ∷ 231 ∷ 138 ∷ 117 ∷ 552 ∷ 471 ∷ 2208 ∷ 1887 ∷ []
unfolding apart sharp opened
recorded = refl
