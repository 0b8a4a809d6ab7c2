-- Parts of what a row of results reads, and that F is below 2^17.
use mathlib.Core.Path.{◌≡◌}
use mathlib.Core.List.{List}
use Prim.Native.Nat.{ℕ, ◌+◌, ◌*◌, ◌/◌, ◌≤◌}
use native.Mathlib.Omega.{arith}
use native.Mathlib.Nat.{mul-le-mul}
use lib.IntN.{ℤ}
use Rattle.laws.specs.Bounds.{samples_part}
use Rattle.standard.specs.Arithmetic.{round_ℕ}
use Rattle.boxes.specs.Reads.{sample_at, seen}
use Rattle.selfguided.specs.Weighing.{crossed}
use Rattle.selfguided.specs.Finals.{Sixes, Crosses, cross_f, even_f, odd_f}
use Rattle.selfguided.proofs.WeighLaws.{cross_small}

pub sixes_part : {n a b : ℕ} {s : List ℤ} (m j : ℕ) → Sixes n a b s → j + m ≤ n → Sixes m (a + j) (b + j) s
sixes_part m j p h = record {
  room_a = omega (arith, p.room_a);
  room_b = omega (arith, p.room_b);
  samples_a = samples_part _ _ p.samples_a (omega arith) (omega arith);
  samples_b = samples_part _ _ p.samples_b (omega arith) (omega arith);
}

pub crosses_part : {n a b : ℕ} {s : List ℤ} (m j : ℕ) → Crosses n a b s → j + m ≤ n → Crosses m (a + j) (b + j) s
crosses_part m j p h = record {
  room_a = omega (arith, p.room_a);
  room_b = omega (arith, p.room_b);
  samples_a = samples_part _ _ p.samples_a (omega arith) (omega arith);
  samples_b = samples_part _ _ p.samples_b (omega arith) (omega arith);
}

pub and_small : {x y m : ℕ} → x ≡ y → y ≤ m → (x ≡ y) × (x ≤ m)
and_small e h = (e, omega (arith, e, h))

pub cross_F_small : (st : ℕ) {a b : ℕ} {s : List ℤ} (u : ℕ) → Crosses (2 * st + 3) a b s → u ≤ 4095 → cross_f s a b st u ≤ 131071
unfolding round_ℕ
cross_F_small st {a} {b} {s} u p h = small (crossed (seen st s a)) (crossed (seen st s b)) u (cross_small st p.samples_a (omega arith)) (cross_small st p.samples_b (omega arith)) h
  where
    small : (x y u : ℕ) → x ≤ 32 * 256 → y ≤ 32 * 1045245 → u ≤ 4095 → (x * u + y + 256) / 512 ≤ 131071
    small x y u p q r = omega (arith, mul-le-mul {n₁ = x} {m₁ = u} {n₂ = 8192} {m₂ = 4095} p r)

pub even_F_small : (n : ℕ) {a b : ℕ} {s : List ℤ} (u : ℕ) → Sixes (n + 1) a b s → u ≤ 4095 → even_f s a b n u ≤ 131071
unfolding round_ℕ
even_F_small n {a} {b} {s} u p h = small (sample_at s a) (sample_at s (a + n)) (sample_at s b) (sample_at s (b + n)) u
    (p.samples_a.size a (omega arith) (omega arith)) (p.samples_a.size (a + n) (omega arith) (omega arith)) (p.samples_b.size b (omega arith) (omega arith)) (p.samples_b.size (b + n) (omega arith) (omega arith)) h
  where
    small : (x x' y y' u : ℕ) → x ≤ 4096 → x' ≤ 4096 → y ≤ 16723920 → y' ≤ 16723920 → u ≤ 4095 → ((x + x') * u + (y + y') + 256) / 512 ≤ 131071
    small x x' y y' u p p' q q' r = omega (arith, mul-le-mul {n₁ = x + x'} {m₁ = u} {n₂ = 8192} {m₂ = 4095} (omega arith) r)

pub odd_F_small : {a b : ℕ} {s : List ℤ} (u : ℕ) → Sixes 1 a b s → u ≤ 4095 → odd_f s a b u ≤ 131071
unfolding round_ℕ
odd_F_small {a} {b} {s} u p h = small (sample_at s a) (sample_at s b) u (p.samples_a.size a (omega arith) (omega arith)) (p.samples_b.size b (omega arith) (omega arith)) h
  where
    small : (x y u : ℕ) → x ≤ 4096 → y ≤ 16723920 → u ≤ 4095 → (x * u + y + 128) / 256 ≤ 131071
    small x y u p q r = omega (arith, mul-le-mul {n₁ = x} {m₁ = u} {n₂ = 4096} {m₂ = 4095} p r)
