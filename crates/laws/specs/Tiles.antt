-- A plane cut into pieces across and down. A `Line` cuts one extent into n pieces; two lines, crossed, cover the plane by rectangles,
-- row of rectangles after row of rectangles.
use Rattle.std.specs.Prelude.{◌≡◌, ℕ, zero, ◌+◌, ◌*◌, ◌-◌, ◌/◌, ◌%◌, ◌<◌, ◌≤◌, min, cond, ltb}
use Rattle.std.proofs.Common.{◌∙◌, ap, arith, mod-lt, div-add-mod', div-lt_iff_lt-mul, div-mul-le_self, le-div_iff_mul-le, mul-le-mul, lt-ltb, le-ltb, ⊎_elim}
use Rattle.std.proofs.Math.Nat.{lt-div-mul-add, div-eq_of_lt-le}
use Rattle.laws.specs.Congruence.{ap2}
use Rattle.laws.specs.Index.{lt_or_le, cell_lt, cell_div, cell_mod}
use Rattle.laws.specs.Cover.{Cover}

-- piece i begins at S i and is L i long; place x lies in piece `num x`, and in no other
pub record Line (extent n : ℕ) (S L num : ℕ → ℕ) : Type 0 where
  pub some : zero < n
  pub within : (i : ℕ) → i < n → S i + L i ≤ extent
  pub low : (x : ℕ) → x < extent → S (num x) ≤ x
  pub high : (x : ℕ) → x < extent → x < S (num x) + L (num x)
  pub only : (i x : ℕ) → i < n → S i ≤ x → x < S i + L i → num x ≡ i
  pub below : (x : ℕ) → x < extent → num x < n

-- rectangle k is piece k % cols across and piece k / cols down
pub cross : {w h cols lines : ℕ} {Sx Lx nx Sy Ly ny : ℕ → ℕ} → Line w cols Sx Lx nx → Line h lines Sy Ly ny
    → Cover (lines * cols) w h (λ k. Sx (k % cols)) (λ k. Sy (k / cols)) (λ k. Lx (k % cols)) (λ k. Ly (k / cols)) (λ y x. ny y * cols + nx x)
cross {w} {h} {cols} {lines} {Sx} {Lx} {nx} {Sy} {Ly} {ny} p q = record {
  within = λ k l. record { right = p.within (k % cols) (across k); low = q.within (k / cols) (down k l) };
  has = λ y x a b. rw (cell_mod (ny y) (p.below x b), cell_div {y = ny y} (p.below x b)) (record { top = q.low y a; bottom = q.high y a; left = p.low x b; side = p.high x b });
  only = λ k y x l i. ap2 (λ (u v : ℕ). u * cols + v) (q.only (k / cols) y (down k l) i.top i.bottom) (p.only (k % cols) x (across k) i.left i.side) ∙ div-add-mod' k cols;
  below = λ y x a b. cell_lt (q.below y a) (p.below x b);
}
  where
    across : (k : ℕ) → k % cols < cols
    across k = mod-lt k p.some

    down : (k : ℕ) → k < lines * cols → k / cols < lines
    down k l = (div-lt_iff_lt-mul p.some).1 l

-- ---- pieces of one size, of which the first is `off` shorter, and the last is cut at the edge: stripes, and with off = 0 tiles
pub record Pieces (extent size off n : ℕ) : Type 0 where
  pub some : zero < n
  pub short : off < size
  pub reach : extent + off ≤ n * size
  pub last : (n - 1) * size < extent + off
  pub real : zero < extent

abbrev pub piece_start : ℕ → ℕ → ℕ → ℕ
piece_start size off i = i * size - off

abbrev pub piece_length : ℕ → ℕ → ℕ → ℕ → ℕ
piece_length extent size off i = min (i * size + size - off) extent - (i * size - off)

module _ {extent size off n : ℕ} (p : Pieces extent size off n) where
  pub piece_begins : (i : ℕ) → i < n → piece_start size off i < extent
  piece_begins i l = omega (arith, mul-le-mul {n₁ = i} {m₁ = size} {n₂ = n - 1} {m₂ = size} (omega arith) (omega arith), p.last, p.real)

  pub piece_count : n ≤ extent + off
  piece_count = omega (arith, mul-le-mul {n₁ = n - 1} {m₁ = 1} {n₂ = n - 1} {m₂ = size} (omega arith) (omega (arith, p.short)), p.last, p.some)

  pub pieces : Line extent n (λ i. piece_start size off i) (λ i. piece_length extent size off i) (λ x. (x + off) / size)
  pieces = record {
    some = p.some;
    within = λ i l. omega (arith, piece_begins i l);
    low = λ x l. omega (arith, div-mul-le_self (x + off) size);
    high = λ x l. omega (arith, lt-div-mul-add {a = x + off} {b = size} (omega (arith, p.short)), div-mul-le_self (x + off) size);
    only = λ i x l a b. div-eq_of_lt-le size (omega (arith, piece_begins i l)) (omega (arith, p.short, piece_begins i l));
    below = λ x l. (div-lt_iff_lt-mul {k = size} {x = x + off} {y = n} (omega (arith, p.short))).1 (omega (arith, p.reach));
  }

-- ---- n pieces of one size, of which the last runs to the edge: unit columns
pub record UnitLine (extent size n : ℕ) : Type 0 where
  pub some : zero < n
  pub sized : zero < size
  pub last : (n - 1) * size < extent

abbrev pub unit_length : ℕ → ℕ → ℕ → ℕ → ℕ
unit_length extent size n i = cond (ltb (i + 1) n) size (extent - i * size)

pub unit_mid : (extent size n i : ℕ) → i + 1 < n → unit_length extent size n i ≡ size
unit_mid extent size n i l = rw (lt-ltb (i + 1) n l)

pub unit_last : (extent size n i : ℕ) → n ≤ i + 1 → unit_length extent size n i ≡ extent - i * size
unit_last extent size n i l = rw (le-ltb (i + 1) n l)

module _ {extent size n : ℕ} (p : UnitLine extent size n) where
  -- a unit is the last, or not
  by_last : (i : ℕ) {P : Type 0} → (i + 1 < n → unit_length extent size n i ≡ size → P) → (n ≤ i + 1 → unit_length extent size n i ≡ extent - i * size → P) → P
  by_last i f g = ⊎_elim (λ l. f l (unit_mid extent size n i l)) (λ l. g l (unit_last extent size n i l)) (lt_or_le (i + 1) n)

  pub unit_begins : (i : ℕ) → i < n → i * size < extent
  unit_begins i l = omega (arith, mul-le-mul {n₁ = i} {m₁ = size} {n₂ = n - 1} {m₂ = size} (omega arith) (omega arith), p.last)

  unit_low : (x : ℕ) → min (x / size) (n - 1) * size ≤ x
  unit_low x = omega (arith, mul-le-mul {n₁ = min (x / size) (n - 1)} {m₁ = size} {n₂ = x / size} {m₂ = size} (omega arith) (omega arith), div-mul-le_self x size)

  unit_high : (x : ℕ) → x < extent → x < min (x / size) (n - 1) * size + unit_length extent size n (min (x / size) (n - 1))
  unit_high x l = by_last (min (x / size) (n - 1))
      (λ m e. omega (arith, e, lt-div-mul-add {a = x} p.sized, ap (λ (k : ℕ). k * size) (mid m)))
      (λ m e. omega (arith, e, unit_low x))
    where
      mid : min (x / size) (n - 1) + 1 < n → min (x / size) (n - 1) ≡ x / size
      mid m = omega arith

  pub unit_line : Line extent n (λ i. i * size) (unit_length extent size n) (λ x. min (x / size) (n - 1))
  unit_line = record {
    some = p.some;
    within = λ i l. by_last i
        (λ m e. omega (arith, e, mul-le-mul {n₁ = i + 1} {m₁ = size} {n₂ = n - 1} {m₂ = size} (omega arith) (omega arith), p.last))
        (λ m e. omega (arith, e, unit_begins i l));
    low = λ x l. unit_low x;
    high = unit_high;
    only = λ i x l a b. by_last i
        (λ m e. omega (arith, div-eq_of_lt-le {k = i} size {m = x} a (omega arith)))
        (λ m e. omega (arith, (le-div_iff_mul-le {k = size} {x = i} {y = x} p.sized).1 a));
    below = λ x l. omega (arith, p.some);
  }
