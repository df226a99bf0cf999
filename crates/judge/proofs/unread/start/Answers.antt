-- `start` has read nothing, and its head is the one that set-up leaves.
use mathlib.Core.Path.{refl}
use Rattle.rules.specs.State.{fresh_head}
use Rattle.log_format.specs.Verdict.{unread}
use Rattle.judge.proofs.unread.Unread.{start_ready}
use Rattle.judge.proofs.unread.start.Goals as goal

pub returns : goal.returns
unfolding unread fresh_head
returns c = (refl, refl, λ counters ticks rows threads. start_ready _ refl, λ k. cc)
