-- Where a test gives its number, minus that number; else the sample.
use mathlib.Core.Path.{sym, ◌∙◌}
use native.Mathlib.Omega.{arith}
use Prim.Native.Nat.{◌≤◌}
use lib.IntN.{pos}
use mir.Syntax.{w32}
use Rattle.laws.specs.SignedCode.{Lit, Nat, ◌⊝◌, safe, is_exact}
use Rattle.standard.proofs.Answers.{refused}
use Rattle.sample.proofs.Numbers.{sample_refused, few_numbers, less_than_none}
use Rattle.sample.proofs.entry_sample.Goals as goal

few : (c : goal.After-from) → c.from.result ≤ 16
few c = omega (arith, c.from.ensures, few_numbers c.in-Err.why)

pub overflow_cast-result : goal.overflow_cast-result
overflow_cast-result c = record { sfits = omega (arith, few c) }

pub overflow_sub-result : goal.overflow_sub-result
overflow_sub-result c = safe w32 (Lit (pos 0) ⊝ Nat c.from.result 16 (few c)) tt

pub passed_sample-requires : goal.passed_sample-requires
passed_sample-requires c = sym c.in-Ok.ensures

pub returns-in-Err : goal.returns-in-Err
returns-in-Err c = is_exact w32 (Lit (pos 0) ⊝ Nat c.from.result 16 (few c)) tt ∙ less_than_none c.from.result ∙
    sample_refused _ _ _ _ c.from.result (c.from.ensures ∙ c.in-Err.ensures) (omega (arith, c.from.ensures, refused c.in-Err.why))
