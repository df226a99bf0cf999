-- Buffers that stay the same ones over two steps.
use mathlib.Core.Path.{refl, ◌∙◌}
use Rattle.sound.specs.declared.buffers.Buffers.{Buffers}
use Rattle.sound.specs.Held.{Same}

pub same_still : {C : Type 0} (m : Buffers C) → Same m m
same_still m = record {
  counters = refl;
  ticks = refl;
  rows = refl;
  threads = refl;
  counters_long = refl;
  ticks_long = refl;
  rows_long = refl;
  threads_long = refl;
}

pub same_then : {C : Type 0} {first second third : Buffers C} → Same first second → Same second third → Same first third
same_then a b =
    record {
      counters = b.counters ∙ a.counters;
      ticks = b.ticks ∙ a.ticks;
      rows = b.rows ∙ a.rows;
      threads = b.threads ∙ a.threads;
      counters_long = b.counters_long ∙ a.counters_long;
      ticks_long = b.ticks_long ∙ a.ticks_long;
      rows_long = b.rows_long ∙ a.rows_long;
      threads_long = b.threads_long ∙ a.threads_long;
    }
