-- The cases of document 02, d, by computation.
use mathlib.Core.Path.{refl}
use Rattle.head.specs.Head.{moved_head, next_place, activated_head}
use Rattle.rules.specs.Setting.{setting_of, history_length, row_bound, fields_in_range, seeds_in_range, setting_refusal}
use Rattle.rules.specs.State.{head_of, too_short, fresh_head, fresh}
use Rattle.rules.specs.Clock.{turned_counters, turned_threads, turned}
use Rattle.rules.specs.Hash.{hash, places}
use Rattle.rules.specs.Filter.{estimate, raised, named, counted}
use Rattle.rules.specs.History.{back, never_rises, memory_ok, row_free}
use Rattle.rules.specs.Quota.{quota_down, half_even, quota_even, in_flight_total}
use Rattle.rules.specs.Decision.{passes_at, wait_tick, decide, activated_threads, activated}
use Rattle.rules.specs.Calls.{setup_refusal, call_refusal, done_refusal, unless_refused, requested, reported, index_shown, step}
use Rattle.rules.specs.Samples.{house}
use Rattle.log_format.specs.Verdict.{claims, judge_record, judge_records}
use Rattle.samples.specs.Cases.{before}
use Rattle.samples.specs.Rounding.{Rounded}

pub rounded : Rounded
unfolding house before setting_of history_length row_bound fields_in_range seeds_in_range setting_refusal head_of too_short fresh_head fresh turned_counters turned_threads moved_head turned hash places estimate raised named counted next_place back never_rises memory_ok row_free quota_down half_even quota_even in_flight_total passes_at wait_tick decide activated_head activated_threads activated setup_refusal call_refusal done_refusal unless_refused requested reported index_shown step claims judge_record judge_records
rounded =
    record {
      tick8 = refl;
      three = refl;
      half4 = (refl, refl, refl);
      half0 = (refl, refl, refl);
      even1 = refl;
      even_s = refl;
      down_s = refl;
      even7 = refl;
      old_five = refl;
      new_five = refl;
      old_four = refl;
      new_four = refl;
    }
