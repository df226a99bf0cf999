-- The small cases, computed.
use mathlib.Core.Path.{refl}
use Rattle.probe_rules.specs.Probes.{late_tick, refusal_of, same_row, near, fits, least_offset, verdict_of}
use Rattle.probe_rules.specs.Samples.{Cases}

pub cases : Cases
unfolding late_tick refusal_of same_row near fits least_offset verdict_of
cases =
    record {
      least = refl;
      too_far = refl;
      lowest = refl;
      below = refl;
      highest = refl;
      above = refl;
      exact_low = refl;
      exact_high = refl;
      bank = refl;
      row = refl;
      length = refl;
      empty = refl;
      word = refl;
      late = refl;
      late_first = refl;
      late_behind = refl;
      jitter = refl;
      short = refl;
      short_ticks = refl;
      short_rows = refl;
      short_is = refl;
      bad_is = refl;
    }
