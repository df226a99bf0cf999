-- The change-over (document 02, a): a saved state of the width of document 01 is taken over to 32-bit counters.
use Rattle.std.specs.Prelude.{List, not, ◌||◌, cond, ℕ, ltb, eqb, length, get_or}
use Rattle.rules.specs.declared.Setting.{Setting}
use Rattle.rules.specs.Cells.{map_cells}
use Rattle.rules.specs.Answers.{Refusal, none, short_buffer, bad_memory, refusal_number, refuse, or_else}
use Rattle.rules.specs.Setting.{setting_refusal}
use Rattle.rules.specs.State.{State, state, counters_used, too_short}
use Rattle.rules.specs.History.{memory_ok}
use Rattle.rules.specs.Policy.{limits01}

-- "The change-over also gets the setting and the new counter buffer, and has every refusal about the setting, 1 and 4 at the old limits, and 6
-- and 7." 6 is of every buffer, the old and the new counters too.
unfoldable pub change_over_refusal : Setting → List ℕ → State → List ℕ → Refusal
change_over_refusal s seeds old new =
    or_else (setting_refusal limits01 s seeds)
    (refuse (too_short s old || ltb (length new) (counters_used s)) short_buffer
    (refuse (not (memory_ok s old)) bad_memory none))

-- counters copied, by place and content: the first `used` cells hold the old ones, as numbers, and the rest what it held
abbrev pub copied_cell : ℕ → List ℕ → ℕ → ℕ → ℕ
copied_cell used old i c = cond (ltb i used) (get_or old i 0) c

unfoldable pub copied : ℕ → List ℕ → List ℕ → List ℕ
copied used old new = map_cells (copied_cell used old) new

-- "A saved state of the old width is taken over": the used part of the counters
abbrev pub taken_over : Setting → List ℕ → List ℕ → List ℕ
taken_over s old new = copied (counters_used s) old new

-- What the change-over leaves: its return code and the new counters. All else is lent for reading: it moves no clock.
pub record ChangedOver : Type 0 where
  pub code : ℕ
  pub counters : List ℕ

abbrev pub changed_over : ℕ → List ℕ → ChangedOver
changed_over code counters = record { code = code; counters = counters }

-- "It returns its number only and changes nothing", or 0 and the counters that are taken over.
unfoldable pub change_over : Setting → List ℕ → State → List ℕ → ChangedOver
change_over s seeds old new =
    let r = change_over_refusal s seeds old new in
    cond (eqb (refusal_number r) 0) (changed_over 0 (taken_over s old.counters new)) (changed_over (refusal_number r) new)

-- the state with other filter counters: after the change-over, that of the new width
abbrev pub with_counters : State → List ℕ → State
with_counters st counters = state st.head counters st.ticks st.rows st.threads

-- The state of the new width that a change-over leaves: only the counters are others, so head, history and thread counters are those that it found.
abbrev pub changed_state : Setting → List ℕ → State → List ℕ → State
changed_state s seeds old new = with_counters old (change_over s seeds old new).counters
