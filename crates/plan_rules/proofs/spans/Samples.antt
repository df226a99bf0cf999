-- The table of X against the bound, computed.
use mathlib.Core.Path.{refl}
use Rattle.rules.specs.Setting.{setting_of, history_length, row_bound, fields_in_range, seeds_in_range, setting_refusal}
use Rattle.rules.specs.Claims.{span_bound}
use Rattle.plan_rules.specs.spans.Spans.{span_refusal, span_of}
use Rattle.plan_rules.specs.spans.Samples.{Cases}

pub cases : Cases
unfolding setting_of history_length row_bound fields_in_range seeds_in_range setting_refusal span_bound span_refusal span_of
cases =
    record {
      s1 = refl;
      s2 = refl;
      s3 = refl;
      s8 = refl;
      s9 = refl;
      s20 = refl;
      s21 = refl;
      s22 = refl;
      s40 = refl;
      s41 = refl;
      s62 = refl;
      s80 = refl;
      s400 = refl;
      s_longest = refl;
      one = refl;
      gap = refl;
      gap_past = refl;
      burst = refl;
      burst_past = refl;
      eighth = refl;
      quarter = refl;
      half = refl;
      epoch_one = refl;
      epoch_past = refl;
      window = refl;
      window_past = refl;
      windows2 = refl;
      windows4 = refl;
      windows16 = refl;
      longest = refl;
      none = refl;
      none_refused = refl;
      refused = refl;
      weak = refl;
      greatest = refl;
      greater = refl;
    }
