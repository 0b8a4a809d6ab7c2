-- A legal entry: its type, the kind of that type, and its own numbers within their ranges.
use mathlib.Core.Path.{◌≡◌, sym, subst}
use mathlib.Core.Bool.{Bool, true, false, ◌&&◌, ◌||◌}
use mathlib.Core.List.{List}
use Prim.Native.Nat.{ℕ, ◌/◌, ◌<◌}
use lib.IntN.{ℤ, pos, negsuc}
use lib.ListN.{length}
use lib.Signed.{◌≤ℤ◌, le_z}
use lib.Dec.{T}
use Rattle.laws.specs.Lists.{all_below, below_at}
use Rattle.laws.specs.Sizes.{abs_in}
use Rattle.laws.specs.Tests.{and_l, and_r, not_no}
use Rattle.standard.specs.declared.Kind.TheVariants.{None, Wiener, SelfGuided}
use Rattle.standard.specs.Units.{field, between, is_type, legal_taps, legal_weights, legal_wiener, legal_guided, legal_entry, kind_of}
use Rattle.standard.specs.Refusals.{no11}
use Rattle.units.specs.Legal.{LegalTaps, LegalWeights, LegalKind}
use Rattle.units.specs.Entry.{taps_of, weights_of}
use Rattle.units.proofs.Conditions.{type_is}

-- ---- the type of a legal entry
pub data Legal (plane : ℕ) (t : List ℤ) (e : ℕ) : Type 0 where
  none : field t e 0 ≡ pos 0 → Legal plane t e
  wiener : field t e 0 ≡ pos 1 → T (legal_wiener plane t e) → Legal plane t e
  guided : field t e 0 ≡ pos 2 → T (legal_guided t e) → Legal plane t e

pub legal_type : (plane : ℕ) (t : List ℤ) (e : ℕ) → T (legal_entry plane t e) → Legal plane t e
unfolding legal_entry is_type
legal_type plane t e =
    go (is_type t e (pos 0)) (is_type t e (pos 1)) (is_type t e (pos 2)) (type_is 0 (field t e 0)) (type_is 1 (field t e 0)) (type_is 2 (field t e 0)) (legal_wiener plane t e) (legal_guided t e)
    (λ p q. wiener p q) (λ p q. guided p q)
  where
    go : (a b c : Bool) → (T a → field t e 0 ≡ pos 0) → (T b → field t e 0 ≡ pos 1) → (T c → field t e 0 ≡ pos 2) → (w g : Bool) →
        (field t e 0 ≡ pos 1 → T w → Legal plane t e) → (field t e 0 ≡ pos 2 → T g → Legal plane t e) → T (a || (b && w) || (c && g)) → Legal plane t e
    go true b c f0 f1 f2 w g lw lg l = none (f0 tt)
    go false true c f0 f1 f2 true g lw lg l = lw (f1 tt) tt
    go false true true f0 f1 f2 false g lw lg l = lg (f2 tt) l
    go false true false f0 f1 f2 false g lw lg l = absurd l
    go false false true f0 f1 f2 w g lw lg l = lg (f2 tt) l
    go false false false f0 f1 f2 w g lw lg l = absurd l

-- every entry of a table to which number 11 is not given
pub legal_at : (plane : ℕ) (t : List ℤ) → no11 plane t ≡ false → (e : ℕ) → e < length t / 10 → T (legal_entry plane t e)
unfolding no11
legal_at plane t h = below_at (length t / 10) (legal_entry plane t) (not_no (all_below (length t / 10) (legal_entry plane t)) h)

-- ---- the kind of a type
pub kind_none : (t : List ℤ) (e : ℕ) → field t e 0 ≡ pos 0 → kind_of t e ≡ None
unfolding kind_of
kind_none t e p = rw p

pub kind_wiener : (t : List ℤ) (e : ℕ) → field t e 0 ≡ pos 1 → kind_of t e ≡ Wiener (taps_of t e)
unfolding kind_of
kind_wiener t e p = rw p

pub kind_guided : (t : List ℤ) (e : ℕ) → field t e 0 ≡ pos 2 → kind_of t e ≡ SelfGuided (weights_of t e)
unfolding kind_of
kind_guided t e p = rw p

-- ---- ranges
record Within (lo hi z : ℤ) : Type 0 where
  low : lo ≤ℤ z
  high : z ≤ℤ hi

within : (lo hi z : ℤ) → T (between lo hi z) → Within lo hi z
within lo hi z t = record { low = record { le = and_l (le_z lo z) (le_z z hi) t }; high = record { le = and_r (le_z lo z) (le_z z hi) t } }

record Three (c0 c1 c2 : ℤ) : Type 0 where
  first : Within (negsuc 4) (pos 10) c0
  second : Within (negsuc 22) (pos 8) c1
  third : Within (negsuc 16) (pos 46) c2

three : (plane : ℕ) (c0 c1 c2 : ℤ) → T (legal_taps plane c0 c1 c2) → Three c0 c1 c2
unfolding legal_taps
three plane c0 c1 c2 l =
    let a = between (negsuc 4) (pos 10) c0 in
    let b = between (negsuc 22) (pos 8) c1 in
    let c = between (negsuc 16) (pos 46) c2 in
    let p = and_l (a && b) c l in
    record { first = within (negsuc 4) (pos 10) c0 (and_l a b p); second = within (negsuc 22) (pos 8) c1 (and_r a b p); third = within (negsuc 16) (pos 46) c2 (and_r (a && b) c l) }

pub legal_taps_lem : (plane : ℕ) (t : List ℤ) (e : ℕ) → T (legal_wiener plane t e) → LegalTaps (taps_of t e)
unfolding legal_wiener
legal_taps_lem plane t e l =
    let a = legal_taps plane (field t e 1) (field t e 2) (field t e 3) in
    let b = legal_taps plane (field t e 4) (field t e 5) (field t e 6) in
    let v = three plane (field t e 1) (field t e 2) (field t e 3) (and_l a b l) in
    let h = three plane (field t e 4) (field t e 5) (field t e 6) (and_r a b l) in
    record {
      v0_low = v.first.low;
      v0_high = v.first.high;
      v1_low = v.second.low;
      v1_high = v.second.high;
      v2_low = v.third.low;
      v2_high = v.third.high;
      h0_low = h.first.low;
      h0_high = h.first.high;
      h1_low = h.second.low;
      h1_high = h.second.high;
      h2_low = h.third.low;
      h2_high = h.third.high;
    }

set_within : (t : List ℤ) (e : ℕ) → T (legal_guided t e) → Within (pos 0) (pos 15) (field t e 7)
unfolding legal_guided
set_within t e l = within (pos 0) (pos 15) (field t e 7) (and_l (between (pos 0) (pos 15) (field t e 7)) (legal_weights (field t e 8) (field t e 9)) l)

pub set_low : (t : List ℤ) (e : ℕ) → T (legal_guided t e) → pos 0 ≤ℤ field t e 7
set_low t e l = (set_within t e l).low

pub set_high : (t : List ℤ) (e : ℕ) → T (legal_guided t e) → field t e 7 ≤ℤ pos 15
set_high t e l = (set_within t e l).high

pub legal_weights_lem : (t : List ℤ) (e : ℕ) → T (legal_guided t e) → LegalWeights (weights_of t e)
unfolding legal_guided legal_weights
legal_weights_lem t e l =
    let w = and_r (between (pos 0) (pos 15) (field t e 7)) (legal_weights (field t e 8) (field t e 9)) l in
    let p = within (negsuc 95) (pos 31) (field t e 8) (and_l (between (negsuc 95) (pos 31) (field t e 8)) (between (negsuc 31) (pos 95) (field t e 9)) w) in
    let q = within (negsuc 31) (pos 95) (field t e 9) (and_r (between (negsuc 95) (pos 31) (field t e 8)) (between (negsuc 31) (pos 95) (field t e 9)) w) in
    record { set_high = abs_in (set_within t e l).low (set_within t e l).high; w0_low = p.low; w0_high = p.high; w1_low = q.low; w1_high = q.high }

pub legal_kind : (plane : ℕ) (t : List ℤ) (e : ℕ) → T (legal_entry plane t e) → LegalKind (kind_of t e)
legal_kind plane t e l = go (legal_type plane t e l)
  where
    go : Legal plane t e → LegalKind (kind_of t e)
    go (none p) = subst LegalKind (sym (kind_none t e p)) tt
    go (wiener p w) = subst LegalKind (sym (kind_wiener t e p)) (legal_taps_lem plane t e w)
    go (guided p g) = subst LegalKind (sym (kind_guided t e p)) (legal_weights_lem t e g)
