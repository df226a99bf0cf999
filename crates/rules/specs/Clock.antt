-- The clock: epochs, the filter in test, and what a move of the clock clears.
use Rattle.std.specs.Prelude.{List, Bool, ◌&&◌, ◌||◌, ℕ, ◌+◌, ◌/◌, ◌%◌, ltb, eqb}
use Rattle.head.specs.Head.{moved_head}
use Rattle.rules.specs.declared.Setting.{Setting}
use Rattle.rules.specs.Cells.{clear_cells}
use Rattle.rules.specs.Setting.{epoch_length}
use Rattle.rules.specs.State.{State, counters_used, threads_used}

-- "The epoch is floor(t/E)." "A tick at a boundary is in the new epoch."
abbrev pub epoch : Setting → ℕ → ℕ
epoch s t = t / epoch_length s

-- "Epoch e tests filter e mod 2": the active filter (document 01: the filter in test)
abbrev pub active_filter : Setting → ℕ → ℕ
active_filter s t = epoch s t % 2

-- "On entering epoch e + 1 the filter tested in e is cleared ..; if two or more epochs have passed, both are."
abbrev pub clears : ℕ → ℕ → ℕ → Bool
clears e e' f = ltb (e + 1) e' || (eqb e' (e + 1) && eqb f (e % 2))

-- ".. in all banks": the counters of a cleared filter, as the clock goes from epoch e to epoch e'
unfoldable pub turned_counters : ℕ → ℕ → ℕ → List ℕ → List ℕ
turned_counters used e e' cs = clear_cells (λ i. ltb i used && clears e e' (i / 1024 % 2)) cs

-- "two counters, cleared as the filters are"; in flight stays
unfoldable pub turned_threads : ℕ → ℕ → ℕ → List ℕ → List ℕ
turned_threads used e e' ts = clear_cells (λ i. ltb i used && (ltb (i % 3) 2 && clears e e' (i % 3))) ts

-- the state when the clock has moved to t
unfoldable pub turned : Setting → State → ℕ → State
turned s st t =
    record {
      head = moved_head st.head t;
      counters = turned_counters (counters_used s) (epoch s st.head.last) (epoch s t) st.counters;
      ticks = st.ticks;
      rows = st.rows;
      threads = turned_threads (threads_used s) (epoch s st.head.last) (epoch s t) st.threads;
    }
