-- The test of refusal 7, from the head and the history ticks.
use Rattle.std.specs.Prelude.{ℕ, Bool, ◌&&◌, List, nat_lt, slice_index}
use Rattle.head.specs.declared.Head.{Head}
use Rattle.rules.specs.declared.Setting.{Setting}
use Rattle.rules.specs.Cells.{every}
use Rattle.rules.specs.Setting.{history_length}
use Rattle.rules.specs.History.{not_after, never_rises}

-- refusal 7 does not apply, by the head and the history ticks
unfoldable pub memory_test : Setting → Head → List ℕ → Bool
memory_test s h ticks =
    nat_lt h.next (history_length s)
    && every s.banks (λ b. not_after h.last (slice_index h.bank b))
    && every 4 (λ k. not_after h.last (slice_index h.rank k))
    && every (history_length s) (λ p. not_after h.last (slice_index ticks p))
    && never_rises (history_length s) h.next ticks
