-- The claims of specs/in_flight/Claims.antt, all proved.
use Rattle.consequences.specs.in_flight.Claims.{Theorems}
use Rattle.consequences.proofs.in_flight.Counts.{total_moves, total_counts, total_counts_over}
use Rattle.consequences.proofs.in_flight.Most.{at_most_q, at_most_q_over}
use Rattle.consequences.proofs.in_flight.Dones.{done_by_bank}

pub theorems : Theorems
theorems =
    record {
      total_moves = total_moves;
      total_counts = total_counts;
      at_most_q = at_most_q;
      total_counts_over = total_counts_over;
      at_most_q_over = at_most_q_over;
      done_by_bank = done_by_bank;
    }
