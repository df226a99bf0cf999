-- The change that a part of a filter call makes to the counters; the whole calls are defined by the rules.
use Rattle.std.specs.Prelude.{List, cond, ℕ}
use Rattle.rules.specs.Cells.{member, map_cells}
use Rattle.rules.specs.Filter.{raised}

-- each counter whose cell is in the list has 1 more, if it is below n
unfoldable pub raised_at : ℕ → List ℕ → List ℕ → List ℕ
raised_at n at counters = map_cells (λ i c. cond (member i at) (raised n c) c) counters
