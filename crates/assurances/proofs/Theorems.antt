-- The claims of specs/Claims.antt, all proved.
use Rattle.assurances.specs.Claims.{Theorems}
use Rattle.assurances.proofs.Later.{turns_add, wait_is_later, opened_at_wait, never_wait_row}
use Rattle.assurances.proofs.Rest.{rest_kept}
use Rattle.assurances.proofs.Used.{same_replies}
use Rattle.assurances.proofs.First.{first_opened}
use Rattle.assurances.proofs.Fits.{step_fits, run_fits}
use Rattle.assurances.proofs.InForce.{in_force_regular}

pub theorems : Theorems
theorems =
    record {
      turns_add = turns_add;
      wait_is_later = wait_is_later;
      opened_at_wait = opened_at_wait;
      never_wait_row = never_wait_row;
      rest_kept = rest_kept;
      same_replies = same_replies;
      first_opened = first_opened;
      step_fits = step_fits;
      run_fits = run_fits;
      in_force_regular = in_force_regular;
    }
