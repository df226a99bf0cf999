-- The tests of a call's refusals, from the numbers and the lists that each looks at; no test looks into a filter counter.
use Rattle.std.specs.Prelude.{ℕ, Bool, true, not, ◌&&◌, List, length, ◌==◌, slice_index}
use Rattle.head.specs.declared.Head.{Head}
use Rattle.rules.specs.declared.Setting.{Setting}
use Rattle.rules.specs.declared.Limits.{Limits}
use Rattle.rules.specs.Answers.{Refusal, none, bad_memory, none_in_flight, refuse, or_else}
use Rattle.rules.specs.State.{thread_cell}
use Rattle.refusal.specs.Memory.{memory_test}
unfoldable pub use Rattle.refusal.specs.Lengths.{setup_test}
unfoldable pub use Rattle.refusal.specs.Place.{place_refusal}

-- refusals 1 to 6 and 16, and 7 where the call keeps what the memory holds, as every call but set-up does
unfoldable pub lent_test : Limits → Setting → List ℕ → Head → ℕ → List ℕ → ℕ → ℕ → Bool → Refusal
lent_test m s seeds h counters ticks rows threads keeps =
    or_else (setup_test m s seeds counters (length ticks) rows threads) (refuse (keeps && not (memory_test s h ticks)) bad_memory none)

-- refusals 1 to 9 and 16: of counters, rows and thread counters the lengths are enough
unfoldable pub call_test : Limits → Setting → List ℕ → Head → ℕ → List ℕ → ℕ → ℕ → ℕ → ℕ → ℕ → Refusal
call_test m s seeds h counters ticks rows threads tick bank thread =
    or_else (lent_test m s seeds h counters ticks rows threads true) (place_refusal s h.last tick bank thread)

-- refusals 1 to 10 and 16, with the thread counters
unfoldable pub done_test : Limits → Setting → List ℕ → Head → ℕ → List ℕ → ℕ → List ℕ → ℕ → ℕ → ℕ → Refusal
done_test m s seeds h counters ticks rows threads tick bank thread =
    or_else (call_test m s seeds h counters ticks rows (length threads) tick bank thread)
    (refuse (slice_index threads (thread_cell s bank thread 2) == 0) none_in_flight none)
