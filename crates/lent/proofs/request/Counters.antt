-- Counters of the length that a call was given, and what it finds with some of them.
use Prim.Native.Nat.{ℕ, ◌≤◌}
use mathlib.Core.Path.{◌≡◌}
use mathlib.Core.List.{List}
use native.Mathlib.Omega.{arith}
use lib.ListN.{length, replicate, length-replicate}
use Rattle.rules.specs.declared.Limits.{Limits}
use Rattle.rules.specs.declared.Setting.{Setting}
use Rattle.rules.specs.State.{State, counters_used}
use Rattle.rules.specs.Tested.{Taken}
use Rattle.interface.specs.Left.{found}

-- some counters of the length
abbrev pub some : ℕ → List ℕ
some n = replicate n 0

pub some_long : (n : ℕ) → length (some n) ≡ n
some_long n = length-replicate {A = ℕ} n 0

-- the state that a call finds, with some counters of the length
abbrev pub blank : List ℕ → ℕ → List ℕ → List ℕ → List ℕ → State
blank words n ticks rows threads = found words (some n) ticks rows threads

-- there is room for the used counters
pub room : (m : Limits) (s : Setting) (seeds words : List ℕ) (n : ℕ) (ticks rows threads : List ℕ) (tick bank thread : ℕ)
    → Taken m s seeds (blank words n ticks rows threads) tick bank thread → counters_used s ≤ n
room m s seeds words n ticks rows threads tick bank thread k = omega (arith, k.long.counters, some_long n)
