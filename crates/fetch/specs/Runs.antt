-- A row of a window with its columns clamped, in three runs: a columns left of the plane, b from `at` on, the rest right of it.
use Rattle.std.specs.Prelude.{◌≡◌, ℕ, ◌+◌, ◌-◌, ◌<◌, ◌≤◌, min}
use Rattle.std.proofs.Common.{sym, ◌∙◌, ap, arith, add_assoc, add-zero}
use Rattle.standard.specs.Fetch.{near}

-- what the caller needs, with no `min` in it
pub record Runs (n x0 w a at b : ℕ) : Type 0 where
  pub fit : a + b ≤ n
  pub inner : at + b ≤ w
  pub left : (k : ℕ) → k < a → near w x0 k ≡ 0
  pub mid : (k : ℕ) → k < b → near w x0 (a + k) ≡ at + k
  pub right : (k : ℕ) → k < n - a - b → near w x0 (a + b + k) ≡ w - 1

-- each in few variables, since omega splits at most six times
mid_law : (x at k w : ℕ) → 3 ≤ x → at ≡ min (x - 3) (w - 1) → at + k < w → min (x + k - 3) (w - 1) ≡ at + k
mid_law x at k w p e h = omega arith

right_law : (x at k w : ℕ) → 3 ≤ x → at ≡ min (x - 3) (w - 1) → w ≤ at + k → 0 < w → min (x + k - 3) (w - 1) ≡ w - 1
right_law x at k w q e h p = omega arith

led : (n x0 a : ℕ) → a ≡ min n (3 - x0) → a < n → 3 ≤ x0 + a
led n x0 a e h = omega arith

left_law : (n x0 a k w : ℕ) → a ≡ min n (3 - x0) → k < a → min (x0 + k - 3) (w - 1) ≡ 0
left_law n x0 a k w e h = omega arith

low : (n m b : ℕ) → b ≡ min n m → b ≤ n
low n m b e = omega arith

high : (n m b : ℕ) → b ≡ min n m → b ≤ m
high n m b e = omega arith

full : (n a m b k : ℕ) → b ≡ min (n - a) m → k < n - a - b → b ≡ m
full n a m b k e h = omega arith

within : (x at w : ℕ) → at ≡ min x (w - 1) → 0 < w → at < w
within x at w e p = omega arith

tidy : (a b w k : ℕ) → a < w → b ≡ w - a → w ≤ a + (b + k)
tidy a b w k p e = omega arith

left_over : (n a b k : ℕ) → k < n - a - b → a < n
left_over n a b k h = omega arith

some : (n a m b k : ℕ) → b ≡ min (n - a) m → k < b → a < n
some n a m b k e h = omega arith

add_le : (a b n : ℕ) → a ≤ n → b ≤ n - a → a + b ≤ n
add_le a b n p q = omega arith

pub make_runs : (n x0 w a at b : ℕ) → 0 < w → a ≡ min n (3 - x0) → at ≡ near w (x0 + a) 0 → b ≡ min (n - a) (w - at) → Runs n x0 w a at b
make_runs n x0 w a at b wide p q r =
    let q' : at ≡ min (x0 + a - 3) (w - 1) = q ∙ ap (λ (i : ℕ). min (i - 3) (w - 1)) (add-zero (x0 + a)) in
    let at_lt : at < w = within (x0 + a - 3) at w q' wide in
    let inside : at + b ≤ w = add_le at b w (lt→le at_lt) (high (n - a) (w - at) b r) in
    record {
      fit = add_le a b n (low n (3 - x0) a p) (low (n - a) (w - at) b r);
      inner = inside;
      left = λ k h. left_law n x0 a k w p h;
      mid = λ k h. ap (λ (i : ℕ). min (i - 3) (w - 1)) (sym (add_assoc x0 a k)) ∙ mid_law (x0 + a) at k w (led n x0 a p (some n a (w - at) b k r h)) q' (below at b k w inside h);
      right = λ k h. ap (λ (i : ℕ). min (i - 3) (w - 1)) (regroup x0 a b k) ∙ right_law (x0 + a) at (b + k) w (led n x0 a p (left_over n a b k h)) q' (tidy at b w k at_lt (full n a (w - at) b k r h)) wide;
    }
  where
    lt→le : {i j : ℕ} → i < j → i ≤ j
    lt→le h = omega arith

    below : (i j k m : ℕ) → i + j ≤ m → k < j → i + k < m
    below i j k m u v = omega arith

    regroup : (x i j k : ℕ) → x + (i + j + k) ≡ x + i + (j + k)
    regroup x i j k = omega arith
