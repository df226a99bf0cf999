-- The head's stored ticks in the words where they lie.
use Rattle.std.specs.Prelude.{ℕ, ◌+◌, Bool, List, slice_index}
use Rattle.rules.specs.Cells.{every}
use Rattle.rules.specs.History.{not_after}

-- none of the n stored ticks from word i of the head on is after the last tick, which is word 0
unfoldable pub words_past : List ℕ → ℕ → ℕ → Bool
words_past words i n = every n (λ k. not_after (slice_index words 0) (slice_index words (i + k)))
