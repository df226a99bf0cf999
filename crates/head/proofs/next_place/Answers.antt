-- `next_place` is the place after another in the ring.
use Rattle.std.proofs.Common.{rules}
use Rattle.head.specs.Head.{next_place}
use Rattle.head.proofs.next_place.Goals as goal

pub returns-then-p-places : goal.returns-then-p-places
unfolding next_place
returns-then-p-places c = search rules

pub returns-else-p-places : goal.returns-else-p-places
unfolding next_place
returns-else-p-places c = search rules
