-- `Head::moved` sets the clock and keeps the rest.
use Rattle.std.proofs.Common.{refl}
use Rattle.head.specs.Head.{moved_head}
use Rattle.head.proofs.Head.moved.Goals as goal

pub returns : goal.returns
unfolding moved_head
returns c = refl
