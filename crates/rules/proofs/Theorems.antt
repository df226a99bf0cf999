-- The claims of specs/Claims.antt, all proved. Demand 3 under the rules in force is `theorems.demand3 (inForce m)`, for any limits m.
use Rattle.rules.specs.Claims.{Theorems}
use Rattle.rules.proofs.Moves.{spans_of_moves}
use Rattle.rules.proofs.Step.{step_moves}
use Rattle.rules.proofs.Demand.{spans, within_bound, demand_3}
use Rattle.rules.proofs.Wait.{wait_is_least, wait_is_closed}
use Rattle.rules.proofs.Threshold.{below_threshold}
use Rattle.rules.proofs.Rounding.{rounds}
use Rattle.rules.proofs.Regular.{in_force_rounds, in_force_sums, in_force_used_flying}
use Rattle.rules.proofs.Left.{left_after, left_of_opened}
use Rattle.rules.proofs.Sound.{never_memory}

pub theorems : Theorems
theorems =
    record {
      spans_of_moves = spans_of_moves;
      step_moves = step_moves;
      spans = spans;
      demand3 = demand_3;
      within_bound = within_bound;
      wait_is_least = wait_is_least;
      wait_is_closed = wait_is_closed;
      below_threshold = below_threshold;
      left_after = left_after;
      left_of_opened = left_of_opened;
      never_memory = never_memory;
      rounds = rounds;
      in_force_rounds = in_force_rounds;
      in_force_sums = in_force_sums;
      in_force_used_flying = in_force_used_flying;
    }
