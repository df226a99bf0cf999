-- The claims of specs/Claims.antt, all proved.
use Rattle.interface.specs.Claims.{Theorems}
use Rattle.interface.proofs.Program.{spans_for_c, demand3_for_c}
use Rattle.interface.proofs.Over.{answers_as_before_for_c, set_up_as_before_for_c, one_width_for_c, spans_over_for_c, demand3_over_for_c}

pub theorems : Theorems
theorems =
    record {
      spans = spans_for_c;
      demand3 = demand3_for_c;
      answers_as_before = answers_as_before_for_c;
      set_up_as_before = set_up_as_before_for_c;
      one_width = one_width_for_c;
      spans_over = spans_over_for_c;
      demand3_over = demand3_over_for_c;
    }
