-- The claims of specs/Claims.antt, all proved.
use Rattle.profiles.specs.Claims.{Theorems}
use Rattle.profiles.proofs.Refusals.{keeps_limits, other_mark, only_above, refused_alike, small_accepts}
use Rattle.profiles.proofs.Alike.{same_decisions}

pub theorems : Theorems
theorems =
    record {
      keeps_limits = keeps_limits;
      other_mark = other_mark;
      only_above = only_above;
      refused_alike = refused_alike;
      small_accepts = small_accepts;
      same_decisions = same_decisions;
    }
