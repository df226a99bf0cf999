-- The places are within a filter.
use mathlib.Core.Path.{◌≡◌, sym, subst}
use mathlib.Core.List.{List}
use mathlib.Core.Bool.{true}
use Prim.Native.Nat.{ℕ}
use Rattle.rules.specs.Setting.{seeds_in_range}
use Rattle.rules.specs.Hash.{places}
use Rattle.rules.specs.Filter.{Within}
use Rattle.rules.proofs.Tests.{holds}
use Rattle.rules.proofs.Places.{places_within}

pub within : (seeds at : List ℕ) (row : ℕ) → seeds_in_range seeds ≡ true → at ≡ places seeds row → Within at
within seeds at row ok e = subst (λ l. Within l) (sym e) (places_within seeds (holds (seeds_in_range seeds) ok) row)
