-- A unit table: ten numbers an entry. Type (0 none, 1 Wiener, 2 self-guided), three vertical then three horizontal Wiener coefficients,
-- set, w0, w1. A number that the type does not use is not looked at.
use Rattle.std.specs.Prelude.{Bool, cond, ◌&&◌, ◌||◌, List, ℕ, ◌+◌, ◌*◌, ℤ, pos, negsuc, nat_abs, get_or, eqb}
use Rattle.std.specs.Int.Signed.{le_z}
use Rattle.standard.specs.declared.Kind.{Kind}
use Rattle.standard.specs.declared.Kind.TheVariants.{None, Wiener, SelfGuided}

-- number k of entry e
unfoldable pub field : List ℤ → ℕ → ℕ → ℤ
field t e k = get_or t (10 * e + k) (pos 0)

abbrev pub between : ℤ → ℤ → ℤ → Bool
between lo hi z = le_z lo z && le_z z hi

-- Wiener_Taps_Min, Wiener_Taps_Max (§5.11.58). The plane is taken for a later narrowing: today each plane has the same range
unfoldable pub legal_taps : ℕ → ℤ → ℤ → ℤ → Bool
legal_taps plane c0 c1 c2 = between (negsuc 4) (pos 10) c0 && between (negsuc 22) (pos 8) c1 && between (negsuc 16) (pos 46) c2

-- Sgrproj_Xqd_Min, Sgrproj_Xqd_Max (§5.11.58)
unfoldable pub legal_weights : ℤ → ℤ → Bool
legal_weights w0 w1 = between (negsuc 95) (pos 31) w0 && between (negsuc 31) (pos 95) w1

unfoldable pub is_type : List ℤ → ℕ → ℤ → Bool
is_type t e n = between n n (field t e 0)

unfoldable pub legal_wiener : ℕ → List ℤ → ℕ → Bool
legal_wiener plane t e = legal_taps plane (field t e 1) (field t e 2) (field t e 3) && legal_taps plane (field t e 4) (field t e 5) (field t e 6)

unfoldable pub legal_guided : List ℤ → ℕ → Bool
legal_guided t e = between (pos 0) (pos 15) (field t e 7) && legal_weights (field t e 8) (field t e 9)

unfoldable pub legal_entry : ℕ → List ℤ → ℕ → Bool
legal_entry plane t e = is_type t e (pos 0) || (is_type t e (pos 1) && legal_wiener plane t e) || (is_type t e (pos 2) && legal_guided t e)

-- the kind of a legal entry: it takes only its own numbers
unfoldable pub kind_of : List ℤ → ℕ → Kind
kind_of t e =
    cond (eqb (nat_abs (field t e 0)) 1)
    (Wiener (record { v0 = field t e 1; v1 = field t e 2; v2 = field t e 3; h0 = field t e 4; h1 = field t e 5; h2 = field t e 6 }))
    (cond (eqb (nat_abs (field t e 0)) 2) (SelfGuided (record { set = nat_abs (field t e 7); w0 = field t e 8; w1 = field t e 9 })) None)
