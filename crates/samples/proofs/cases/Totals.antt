-- The cases of document 02, b, by computation.
use mathlib.Core.Path.{refl}
use Rattle.head.specs.Head.{moved_head, next_place, activated_head}
use Rattle.rules.specs.Setting.{setting_of, history_length, row_bound, fields_in_range, seeds_in_range, setting_refusal}
use Rattle.rules.specs.State.{head_of, too_short, fresh_head, fresh}
use Rattle.rules.specs.Clock.{turned_counters, turned_threads, turned}
use Rattle.rules.specs.Hash.{hash, places}
use Rattle.rules.specs.Filter.{estimate, raised, named, counted}
use Rattle.rules.specs.History.{back, never_rises, memory_ok, row_free}
use Rattle.rules.specs.Quota.{quota_down, half_even, quota_even, in_flight_total}
use Rattle.rules.specs.Decision.{passes_at, wait_tick, decide, activated_threads, activated}
use Rattle.rules.specs.Calls.{setup_refusal, call_refusal, done_refusal, unless_refused, requested, reported, index_shown, step}
use Rattle.rules.specs.Samples.{house}
use Rattle.log_format.specs.Verdict.{claims, judge_record, judge_records}
use Rattle.samples.specs.Totals.{S2, before2, Totals}

pub totals : Totals
unfolding house S2 before2 setting_of history_length row_bound fields_in_range seeds_in_range setting_refusal head_of too_short fresh_head fresh turned_counters turned_threads moved_head turned hash places estimate raised named counted next_place back never_rises memory_ok row_free quota_down half_even quota_even in_flight_total passes_at wait_tick decide activated_head activated_threads activated setup_refusal call_refusal done_refusal unless_refused requested reported index_shown step claims judge_record judge_records
totals =
    record {
      accepted = refl;
      two_banks = refl;
      two_before = refl;
      done_lowers = refl;
      done_elsewhere = refl;
      none_here = refl;
      one_in_all = refl;
      other_thread = refl;
      named_bank = refl;
      old_two = refl;
      new_two = refl;
      held_two = refl;
    }
