-- The small cases, computed.
use mathlib.Core.Path.{refl}
use Rattle.cut_rules.specs.selections.Selections.{tried, pass, cut_down}
use Rattle.cut_rules.specs.selections.Samples.{Cases}

pub cases : Cases
unfolding tried pass cut_down
cases =
    record {
      first_pass = refl;
      second_pass = refl;
      third_pass = refl;
      result = refl;
      answer = refl;
      first_to_last = refl;
      whole_pass = refl;
      not_fewest = refl;
      fewest = refl;
      all_stay = refl;
      none_stays = refl;
      selected = refl;
      records = refl;
    }
