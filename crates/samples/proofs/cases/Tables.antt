-- The whole table of cases, by computation.
use mathlib.Core.Path.{refl}
use Rattle.head.specs.Head.{moved_head, next_place, activated_head}
use Rattle.rules.specs.Setting.{setting_of, history_length, row_bound, fields_in_range, seeds_in_range, setting_refusal}
use Rattle.rules.specs.State.{head_of, too_short, fresh_head, fresh}
use Rattle.rules.specs.Clock.{turned_counters, turned_threads, turned}
use Rattle.rules.specs.Hash.{hash, places}
use Rattle.rules.specs.Filter.{estimate, raised, named, counted}
use Rattle.rules.specs.History.{back, never_rises, memory_ok, row_free}
use Rattle.rules.specs.Quota.{quota_down, half_even, quota_even, in_flight_total}
use Rattle.rules.specs.Decision.{passes_at, wait_tick, decide, activated_threads, activated}
use Rattle.rules.specs.Calls.{setup_refusal, call_refusal, done_refusal, unless_refused, requested, reported, index_shown, step}
use Rattle.rules.specs.Samples.{house}
use Rattle.samples.specs.Cases.{before}
use Rattle.samples.specs.Tables.{Tables}
use Rattle.samples.proofs.cases.Numbers.{numbers}
use Rattle.samples.proofs.cases.Rounding.{rounded}
use Rattle.samples.proofs.cases.Totals.{totals}
use Rattle.samples.proofs.cases.Left.{left}
use Rattle.samples.proofs.cases.Profiles.{profiles}

pub tables : Tables
unfolding house before setting_of history_length row_bound fields_in_range seeds_in_range setting_refusal head_of too_short fresh_head fresh turned_counters turned_threads moved_head turned hash places estimate raised named counted next_place back never_rises memory_ok row_free quota_down half_even quota_even in_flight_total passes_at wait_tick decide activated_head activated_threads activated setup_refusal call_refusal done_refusal unless_refused requested reported index_shown step
tables =
    record {
      numbers = numbers;
      old_cases = record { ticks18_38 = refl; ticks18_21 = refl; tick5 = refl; fresh_done = refl };
      new_cases = record { ticks18_38 = refl; ticks18_21 = refl; tick5 = refl; fresh_done = refl };
      tick8 = refl;
      three = refl;
      rounded = rounded;
      totals = totals;
      left = left;
      profiles = profiles;
    }
