-- Planes, edge rows and marks as they are lent: slices, row after row. What each restoring call leaves in them.
use Rattle.std.specs.Prelude.{Bool, cond, List, [], ℕ, suc, ◌+◌, ◌-◌, ◌*◌, ◌/◌, ◌%◌, min, max, ℤ, pos, nat_abs, get_or, take, drop, ltb, eqb}
use Rattle.laws.specs.Lists.{listing, plane}
use Rattle.standard.specs.Wiener.{Grid}
use Rattle.standard.specs.Fetch.{restored, Shape, near, unit_at, restored_at}
use Rattle.standard.specs.Stripes.{stripe_start, stripe_stop, stripe_of, stripes}

-- the samples of a plane of i32, w wide
unfoldable pub grid : ℕ → List ℤ → Grid
grid w s y x = nat_abs (get_or s (y * w + x) (pos 0))

-- the slice of a plane: h rows of w samples
unfoldable pub tabled : ℕ → ℕ → Grid → List ℤ
tabled h w f = plane (λ y x. pos (f y x)) w h

-- what whole-plane restore writes
unfoldable pub restored_slice : Shape → List ℤ → List ℤ → List ℤ
restored_slice g D C = tabled g.height g.width (restored_at g (grid g.width D) (grid g.width C))

-- ---- edge rows: of boundary s ≥ 1 the rows b − 2, b − 1, b, b + 1 of the deblocked plane, k = 0 .. 3, cut to the last row
unfoldable pub edge_row : ℕ → ℕ → ℕ → ℕ → ℕ
edge_row sy h s k = min (stripe_start sy s + k - 2) (h - 1)

-- what capture writes
unfoldable pub captured_slice : ℕ → ℕ → ℕ → List ℤ → List ℤ
captured_slice sy h w D = listing (4 * (stripes sy h - 1) * w) (λ n. get_or D (edge_row sy h (n / w / 4 + 1) (n / w % 4) * w + n % w) (pos 0))

-- boundary s, row k, column x of captured edge rows
unfoldable pub edges : ℕ → List ℤ → ℕ → ℕ → ℕ → ℕ
edges w E s k x = nat_abs (get_or E ((4 * (s - 1) + k) * w + x) (pos 0))

-- the parts of the edge rows that stripe s reads: no samples where the boundary does not exist
unfoldable pub above : ℕ → ℕ → ℕ → List ℤ → ℕ → List ℤ
above sy h w E s = cond (ltb 0 s) (cond (ltb s (stripes sy h)) (take (2 * w) (drop (4 * w * (s - 1)) E)) []) []

unfoldable pub below : ℕ → ℕ → ℕ → List ℤ → ℕ → List ℤ
below sy h w E s = cond (ltb (suc s) (stripes sy h)) (take (2 * w) (drop (4 * w * s + 2 * w) E)) []

-- ---- one stripe in place
-- row y as stripe s reads it from the plane P and the edge rows E: `above` is rows 0 and 1 of boundary s, `below` rows 2 and 3 of boundary s + 1
unfoldable pub source : ℕ → (ℕ → ℕ → ℕ → ℕ) → Grid → ℕ → Grid
source sy E P s y x =
    cond (ltb y (stripe_start sy s)) (E s (max y (stripe_start sy s - 2) - (stripe_start sy s - 2)) x)
    (cond (ltb y (stripe_stop sy s)) (P y x) (E (suc s) (2 + (min y (stripe_stop sy s + 1) - stripe_stop sy s)) x))

unfoldable pub source_window : Shape → (ℕ → ℕ → ℕ → ℕ) → Grid → ℕ → ℕ → ℕ → Grid
source_window g E P s y x i j = source g.sy E P s (near g.height y i) (near g.width x j)

-- the plane after stripe s is restored: its own rows, and no other sample
unfoldable pub stripe_slice : Shape → List ℤ → ℕ → List ℤ → List ℤ
stripe_slice g E s P = listing (g.height * g.width) (λ n.
    cond (eqb (stripe_of g.sy (n / g.width)) s)
    (pos (restored g.depth (n / g.width) (unit_at g (n / g.width) (n % g.width)) (source_window g (edges g.width E) (grid g.width P) s (n / g.width) (n % g.width))))
    (get_or P n (pos 0)))

abbrev pub marked : List ℕ → ℕ → Bool
marked M t = eqb (get_or M t 0) 1
