-- Index and quota, and what in flight means.
use Rattle.std.specs.Prelude.{List, cond, ℕ, ◌+◌, ◌-◌, ◌*◌, ◌/◌, ◌%◌, min, ltb, eqb, get_or}
use Rattle.rules.specs.declared.Setting.{Setting}
use Rattle.rules.specs.Cells.{sum_below}
use Rattle.rules.specs.Setting.{index_scale}
use Rattle.rules.specs.State.{thread_cell}

-- document 01: "the quota is floor(Q × (D − min(c, D))/D)"
unfoldable pub quota_down : Setting → ℕ → ℕ
quota_down s c = s.q * (index_scale s - min c (index_scale s)) / index_scale s

-- x/d by "rounding to the nearest whole request, with an exact half going to the even one". `Rounds` of Claims.antt says what it is without this formula.
unfoldable pub half_even : ℕ → ℕ → ℕ
half_even x d = cond (ltb d (2 * (x % d))) (x / d + 1) (cond (eqb (2 * (x % d)) d) (x / d + x / d % 2) (x / d))

-- document 02, d: "Q × (D − min(c, D))/D follows that instead of rounding down."
unfoldable pub quota_even : Setting → ℕ → ℕ
quota_even s c = half_even (s.q * (index_scale s - min c (index_scale s))) (index_scale s)

-- document 01: "In flight means opened and not yet done; .. here it is kept for each bank."
abbrev pub in_flight_here : Setting → List ℕ → ℕ → ℕ → ℕ
in_flight_here s threads bank thread = get_or threads (thread_cell s bank thread 2) 0

-- document 02, b: "In flight now means the thread's total over all banks", "the sum of the per-bank counts": over the banks of the setting, whatever
-- bank is named
unfoldable pub in_flight_total : Setting → List ℕ → ℕ → ℕ → ℕ
in_flight_total s threads bank thread = sum_below s.banks (λ b. in_flight_here s threads b thread)

-- "With c the counter in test": the RowHammer likelihood index is c/D; f is the active filter
abbrev pub index_counter : Setting → List ℕ → ℕ → ℕ → ℕ → ℕ
index_counter s threads bank thread f = get_or threads (thread_cell s bank thread f) 0
