-- The state: the head, the four buffers with the order of their cells, and what set-up leaves.
use Rattle.std.specs.Prelude.{List, ◌∷◌, ◌++◌, Bool, ◌||◌, ℕ, ◌+◌, ◌*◌, ltb, length, get_or, replicate}
use Rattle.head.specs.declared.Head.{Head}
use Rattle.head.specs.Head.{cells}
use Rattle.rules.specs.declared.Setting.{Setting}
use Rattle.rules.specs.Cells.{clear_cells}
use Rattle.rules.specs.Setting.{history_length}

-- "filter counters .., history ticks .., history rows .., thread counters"
pub record State : Type 0 where
  pub head : Head
  pub counters : List ℕ
  pub ticks : List ℕ
  pub rows : List ℕ
  pub threads : List ℕ

-- the state of a head and four buffers
abbrev pub state : Head → List ℕ → List ℕ → List ℕ → List ℕ → State
state head counters ticks rows threads = record { head = head; counters = counters; ticks = ticks; rows = rows; threads = threads }

-- The used parts: "banks × 2 × 1,024", H, H and "banks × threads × 3" cells.
abbrev pub counters_used : Setting → ℕ
counters_used s = s.banks * 2048

abbrev pub threads_used : Setting → ℕ
threads_used s = s.banks * s.threads * 3

-- the counter at a place of filter f of a bank; a bank's 2,048 counters stand together
abbrev pub counter_cell : ℕ → ℕ → ℕ → ℕ
counter_cell bank f place = bank * 2048 + f * 1024 + place

-- A thread's three cells in a bank: k 0 and 1 are the index counters turned with filter 0 and 1, k 2 is in flight in that bank.
abbrev pub thread_cell : Setting → ℕ → ℕ → ℕ → ℕ
thread_cell s bank thread k = (bank * s.threads + thread) * 3 + k

-- "history rows (.. bank × 65,536 + row ..)"
abbrev pub row_word : ℕ → ℕ → ℕ
row_word bank row = bank * 65536 + row

-- The head lies in 22 words: the last tick, the next history place, sixteen banks, the rank's four, newest first.
unfoldable pub head_of : List ℕ → Head
head_of w = record { last = get_or w 0 0; next = get_or w 1 0; bank = cells w 2 16; rank = cells w 18 4 }

unfoldable pub head_words : Head → List ℕ
head_words h = h.last ∷ h.next ∷ (cells h.bank 0 16 ++ cells h.rank 0 4)

-- Refusal 6: "a buffer too short"
unfoldable pub too_short : Setting → State → Bool
too_short s st =
    ltb (length st.counters) (counters_used s)
    || ltb (length st.ticks) (history_length s)
    || ltb (length st.rows) (history_length s)
    || ltb (length st.threads) (threads_used s)

-- "Set-up clears the used parts and the head; the last tick and the next place are then 0."
unfoldable pub fresh_head : Head
fresh_head = record { last = 0; next = 0; bank = replicate 16 0; rank = replicate 4 0 }

unfoldable pub fresh : Setting → State → State
fresh s st =
    record {
      head = fresh_head;
      counters = clear_cells (λ i. ltb i (counters_used s)) st.counters;
      ticks = clear_cells (λ i. ltb i (history_length s)) st.ticks;
      rows = clear_cells (λ i. ltb i (history_length s)) st.rows;
      threads = clear_cells (λ i. ltb i (threads_used s)) st.threads;
    }
