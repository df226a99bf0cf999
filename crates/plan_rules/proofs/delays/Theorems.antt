-- The statements of `Claims`, all of them.
use Rattle.plan_rules.specs.delays.Claims.{Theorems}
use Rattle.plan_rules.proofs.delays.Shape.{seeds_play_no_part}
use Rattle.plan_rules.proofs.delays.Answer.{right, delay_plays_no_part}
use Rattle.plan_rules.proofs.delays.Only.{only_one}
use Rattle.plan_rules.proofs.delays.Profiles.{sixteen}
use Rattle.plan_rules.proofs.delays.Trade.{longer_delay, nested, grows, up_to_last, larger_limit, wider_limits, flat, decided}

pub theorems : Theorems
theorems =
    record {
      right = right;
      only_one = only_one;
      seeds_play_no_part = seeds_play_no_part;
      delay_plays_no_part = delay_plays_no_part;
      longer_delay = longer_delay;
      sixteen = sixteen;
      nested = nested;
      grows = grows;
      up_to_last = up_to_last;
      larger_limit = larger_limit;
      wider_limits = wider_limits;
      flat = flat;
      decided = decided;
    }
