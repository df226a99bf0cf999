-- What a call leaves of the filter counters, by what it gives to be done with them: nothing where it is refused.
use Rattle.std.specs.Prelude.{ℕ, ◌*◌, ltb, List, Result, Ok, Err}
use Rattle.refused.specs.declared.Refusal.{Refusal}
use Rattle.rules.specs.Cells.{clear_cells}
use Rattle.rules.specs.Clock.{turned_counters}
use Rattle.lent.specs.declared.done.Clocked.{Clocked}

-- set-up, with the number of the counters that are cleared
abbrev pub cleared_by : Result ℕ Refusal → List ℕ → List ℕ
cleared_by (Ok used) counters = clear_cells (λ i. ltb i used) counters
cleared_by (Err r) counters = counters

-- a done or an index reading, with the epochs that the filters are turned from and to
abbrev pub turned_by : Result Clocked Refusal → List ℕ → List ℕ
turned_by (Ok clocked) counters = turned_counters (clocked.banks * 2048) clocked.from clocked.to counters
turned_by (Err r) counters = counters
