-- The tests of refusals 8 and 9, from the setting, the last tick and what the call names.
use Rattle.std.specs.Prelude.{ℕ, ◌^◌, ◌||◌, nat_le, nat_lt}
use Rattle.rules.specs.declared.Setting.{Setting}
use Rattle.rules.specs.Answers.{Refusal, none, outside_setting, bad_tick, refuse}

-- refusals 8 and 9, by the last tick and the arguments
unfoldable pub place_refusal : Setting → ℕ → ℕ → ℕ → ℕ → Refusal
place_refusal s last tick bank thread =
    refuse (nat_le s.banks bank || nat_le s.threads thread) outside_setting (refuse (nat_lt tick last || nat_le (2 ^ 62) tick) bad_tick none)
