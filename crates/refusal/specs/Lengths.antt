-- The tests of refusals 1 to 6 and 16, from the setting, the seeds and the lengths of the buffers.
use Rattle.std.specs.Prelude.{ℕ, Bool, ◌||◌, List, nat_lt}
use Rattle.rules.specs.declared.Setting.{Setting}
use Rattle.rules.specs.declared.Limits.{Limits}
use Rattle.rules.specs.Answers.{Refusal, none, short_buffer, refuse, or_else}
use Rattle.rules.specs.Setting.{history_length, setting_refusal}
use Rattle.rules.specs.State.{counters_used, threads_used}

-- refusal 6, by the lengths of the buffers
unfoldable pub short_test : Setting → ℕ → ℕ → ℕ → ℕ → Bool
short_test s counters ticks rows threads =
    nat_lt counters (counters_used s) || nat_lt ticks (history_length s) || nat_lt rows (history_length s) || nat_lt threads (threads_used s)

-- refusals 1 to 6 and 16, by the lengths of the buffers
unfoldable pub setup_test : Limits → Setting → List ℕ → ℕ → ℕ → ℕ → ℕ → Refusal
setup_test m s seeds counters ticks rows threads =
    or_else (setting_refusal m s seeds) (refuse (short_test s counters ticks rows threads) short_buffer none)
