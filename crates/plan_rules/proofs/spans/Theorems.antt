-- The claims of specs/spans/Claims.antt, all proved.
use Rattle.rules.specs.Policy.{narrow}
use Rattle.rules.proofs.Theorems.{theorems as rules}
use Rattle.widths.proofs.Theorems.{theorems as widths}
use Rattle.interface.proofs.Theorems.{theorems as interface}
use Rattle.plan_rules.specs.spans.Claims.{Theorems}
use Rattle.plan_rules.proofs.spans.Answer.{never_more, answered, seeds_play_no_part, never_falls_lem, one_tick, windows, one_window}

pub theorems : Theorems
theorems =
    record {
      spans_narrow = rules.spans narrow;
      spans_wide = widths.spans_wide;
      spans_over = widths.spans_over;
      spans_over_for_c = interface.spans_over;
      never_more = never_more;
      answered = answered;
      seeds_play_no_part = seeds_play_no_part;
      never_falls = never_falls_lem;
      one_a_tick = one_tick;
      in_windows = windows;
      in_one_window = one_window;
    }
