-- `first_match` meets its contract. The invariant: what is to be found is found from place p on.
use Rattle.std.proofs.Common.{◌≡◌, ◌-◌, ◌<◌}
use Rattle.rules.specs.History.{back, find}
use Rattle.history.proofs.Search.{Part, further}
use Rattle.history.proofs.first_match.Given as goal

abbrev pub invariant-loop-p : goal.invariant-loop-p
invariant-loop-p l =
    (l.p < l.h) × Part l.next l.p l.low × (further l.h l.td l.next l.ticks l.rows l.word l.t l.p ≡ find l.h l.td l.next l.ticks l.rows l.word l.t)

abbrev pub decreases-loop-p : goal.decreases-loop-p
decreases-loop-p l = l.h - back l.h l.next l.p
