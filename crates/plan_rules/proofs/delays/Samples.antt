-- The cases about delays, by computation.
use mathlib.Core.Path.{refl}
use Rattle.rules.specs.Setting.{setting_of, history_length, row_bound, fields_in_range, seeds_in_range, setting_refusal}
use Rattle.plan_rules.specs.delays.Delays.{delay_refusal}
use Rattle.plan_rules.specs.delays.Answer.{smallest_delay, least_delay, greatest_delay, own_greatest, delays_within, delays_above, delays_of}
use Rattle.plan_rules.specs.delays.Samples.{Cases}

pub cases : Cases
unfolding setting_of history_length row_bound fields_in_range seeds_in_range setting_refusal delay_refusal smallest_delay least_delay greatest_delay own_greatest delays_within delays_above delays_of
cases =
    record {
      by_table_one = refl;
      one_less = refl;
      published = refl;
      below_published = refl;
      limit8192 = refl;
      limit4096 = refl;
      limit2048 = refl;
      limit2048_last = (refl, refl);
      limit1788 = (refl, refl);
      s = refl;
      small16384 = (refl, refl);
      small8192 = (refl, refl);
      small7145 = (refl, refl);
      small5 = (refl, refl);
      quarter1024 = (refl, refl);
      quarter512 = (refl, refl);
      limit1024 = (refl, refl);
      limit512 = (refl, refl);
      wide2048_last = (refl, refl);
      wide1024_last = (refl, refl);
      wide512_last = (refl, refl);
      wide226 = (refl, refl);
    }
