-- The claims of specs/Claims.antt, all proved.
use Rattle.rules.specs.Policy.{wide}
use Rattle.rules.proofs.Theorems.{theorems as rules}
use Rattle.widths.specs.Claims.{Theorems}
use Rattle.widths.proofs.Limits.{two_limits, old_accepted, new_settings}
use Rattle.widths.proofs.ChangeOver.{refuses, leaves, fits_over, taken_in_list}
use Rattle.widths.proofs.Answers.{answers_as_before, set_up_as_before}
use Rattle.widths.proofs.Lists.{spans_over, demand3_over, never_memory_over}

pub theorems : Theorems
theorems =
    record {
      two_limits = two_limits;
      old_accepted = old_accepted;
      new_settings = new_settings;
      refuses = refuses;
      leaves = leaves;
      fits_over = fits_over;
      taken_in_list = taken_in_list;
      answers_as_before = answers_as_before;
      set_up_as_before = set_up_as_before;
      spans_wide = rules.spans wide;
      demand3_wide = rules.demand3 wide;
      spans_over = spans_over;
      demand3_over = demand3_over;
      never_memory_over = never_memory_over;
    }
