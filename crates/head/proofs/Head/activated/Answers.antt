-- `Head::activated` stores the tick for the bank and the rank, and moves the next place on.
use Rattle.head.specs.Head.{activated_head}
use Rattle.head.proofs.Head.activated.Goals as goal

pub returns : goal.returns
unfolding activated_head
returns c = rw c.next_place.ensures
