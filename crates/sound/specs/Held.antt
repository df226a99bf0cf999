-- The model's state in the buffers that a caller lends.
use Rattle.std.specs.Prelude.{◌≡◌, ℕ, map, length}
use Rattle.head.specs.declared.Head.{Head}
use Rattle.rules.specs.State.{State, state}
use Rattle.sound.specs.declared.buffers.Buffers.{Buffers}

-- the state with this head in these buffers, whose counters hold numbers
abbrev pub held : Head → Buffers ℕ → State
held h m = state h m.counters.now m.ticks.now m.rows.now m.threads.now

-- the same for counters of any width, of which value is the number that one holds
abbrev pub held_by : {C : Type 0} → (C → ℕ) → Head → Buffers C → State
held_by value h m = state h (map value m.counters.now) m.ticks.now m.rows.now m.threads.now

-- each field is still the buffer that it was, and as long, whatever it holds now
pub record Same {C : Type 0} (before after : Buffers C) : Type 0 where
  pub counters : after.counters.ghost_name ≡ before.counters.ghost_name
  pub ticks : after.ticks.ghost_name ≡ before.ticks.ghost_name
  pub rows : after.rows.ghost_name ≡ before.rows.ghost_name
  pub threads : after.threads.ghost_name ≡ before.threads.ghost_name
  pub counters_long : length after.counters.now ≡ length before.counters.now
  pub ticks_long : length after.ticks.now ≡ length before.ticks.now
  pub rows_long : length after.rows.now ≡ length before.rows.now
  pub threads_long : length after.threads.now ≡ length before.threads.now
