-- Values A to J of document 01: one table of what the definitions compute and what it must be, under one claim, computed by the checker.
use mathlib.Core.Path.{◌≡◌, refl}
use mathlib.Core.List.{List, [], ◌∷◌, map}
use Prim.Native.Nat.{ℕ}
use lib.IntN.{ℤ, pos, negsuc}
use lib.ListN.{get_or, length}
use Rattle.laws.specs.Lists.{listing}
use Rattle.standard.specs.declared.Depth.TheVariants.{Eight, Twelve}
use Rattle.standard.specs.declared.Kind.{Kind}
use Rattle.standard.specs.declared.Kind.TheVariants.{Wiener, SelfGuided}
use Rattle.standard.specs.Wiener.{Grid}
use Rattle.standard.specs.Fetch.{restored_at, restored}
use Rattle.standard.specs.SelfGuided.{a2_of, filtered, one_over}
use Rattle.standard.specs.Superres.{last_col, start, step, upscaled}
use Rattle.standard.proofs.Opened.{opened}
use Rattle.standard.specs.Stripes.{stripe_start, stripe_stop, units}

taps : Kind
taps = Wiener (record { v0 = pos 3; v1 = negsuc 6; v2 = pos 15; h0 = pos 3; h1 = negsuc 6; h2 = pos 15 })

weights : ℕ → ℤ → ℤ → Kind
weights set a b = SelfGuided (record { set = set; w0 = a; w1 = b })

constant : ℕ → Grid
constant n _ _ = n

-- a plane of one row, and what is restored of it, 8 bits
one_row : List ℕ → Grid
one_row l y x = get_or l x 0

restored_row : Kind → List ℕ → List ℕ
restored_row kind l = listing (length l) (restored_at (record { sy = 0; size = 64; height = 1; width = length l; depth = Eight; unit = λ _ _. kind }) (constant 0) (one_row l) 0)

-- a row of d samples, upscaled to u, 8 bits
upscaled_row : ℕ → List ℕ → List ℕ
upscaled_row u l = listing u (upscaled Eight (length l) u (last_col (length l) 0) (length l) (one_row l 0))

-- computed, wanted
pub table : List (List ℕ × List ℕ)
table =
    -- A
    (restored Eight 0 taps (constant 100) ∷ restored Eight 1 taps (constant 100) ∷ [], 100 ∷ 100 ∷ []) ∷
    -- B
    (restored_row taps (0 ∷ 0 ∷ 0 ∷ 100 ∷ 0 ∷ 0 ∷ 0 ∷ []), 2 ∷ 0 ∷ 12 ∷ 83 ∷ 12 ∷ 0 ∷ 2 ∷ []) ∷
    -- C, with F0 and F1
    (restored Eight 0 (weights 0 (negsuc 31) (pos 31)) (constant 255) ∷ filtered 0 Eight 0 2 12 (constant 255) ∷ filtered 1 Eight 0 1 4 (constant 255) ∷ [], 255 ∷ 4084 ∷ 4079 ∷ []) ∷
    (restored Eight 1 (weights 0 (negsuc 31) (pos 31)) (constant 255) ∷ filtered 0 Eight 1 2 12 (constant 255) ∷ filtered 1 Eight 1 1 4 (constant 255) ∷ [], 255 ∷ 4084 ∷ 4079 ∷ []) ∷
    -- D
    (restored Twelve 0 (weights 14 (negsuc 95) (pos 95)) (constant 4095) ∷ restored Twelve 1 (weights 14 (negsuc 95) (pos 95)) (constant 4095) ∷ [], 4092 ∷ 4092 ∷ []) ∷
    -- E
    (a2_of 1 ∷ a2_of 2 ∷ a2_of 254 ∷ [], 128 ∷ 171 ∷ 255 ∷ []) ∷
    -- F
    (one_over 25 ∷ one_over 9 ∷ [], 164 ∷ 455 ∷ []) ∷
    -- G
    (units 95 64 ∷ units 96 64 ∷ [], 1 ∷ 2 ∷ []) ∷
    -- H: first row and the row after the last, sub_y 0 and 1
    (stripe_start 0 0 ∷ stripe_stop 0 0 ∷ stripe_start 1 0 ∷ stripe_stop 1 0 ∷ [], 0 ∷ 56 ∷ 0 ∷ 28 ∷ []) ∷
    -- I
    (step 8 16 ∷ start 8 16 ∷ [], 8192 ∷ 12417 ∷ []) ∷
    -- J
    (upscaled_row 16 (0 ∷ 0 ∷ 0 ∷ 0 ∷ 128 ∷ 128 ∷ 128 ∷ 128 ∷ []), 0 ∷ 0 ∷ 0 ∷ 3 ∷ 4 ∷ 0 ∷ 0 ∷ 29 ∷ 99 ∷ 141 ∷ 137 ∷ 124 ∷ 125 ∷ 129 ∷ 129 ∷ 128 ∷ []) ∷ []

pub values : map (λ v. v.0) table ≡ map (λ v. v.1) table
unfolding table taps weights constant one_row restored_row upscaled_row opened
values = refl
