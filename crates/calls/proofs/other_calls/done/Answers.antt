-- `done` turns the filters as the done says.
use mathlib.Core.List.{map}
use Rattle.std.proofs.lemmas.List.{length-map}
use Rattle.sound.proofs.tested.Asking.{within}
use Rattle.calls.proofs.other_calls.Back.{number_back}
use Rattle.calls.proofs.other_calls.done.Goals as goal

pub done-requires : goal.done-requires
done-requires g c = let law = g.met.C.Counter in rw c.width_limits.ensures (within law.threshold_most law.history_most)

pub returns-in_err-clocked : goal.returns-in_err-clocked
returns-in_err-clocked g c =
    let cs = c.args.counters.now in
    let back = c.from_residual in
    rw (number_back back.result _ back.ensures.1)
    (rw c.width_limits.ensures at c.in_err-clocked.ensures.settled (map g.C.Counter.value cs) (length-map cs g.C.Counter.value))

pub turn-requires : goal.turn-requires
turn-requires g c = c.in_ok-clocked.ensures.in_range

pub returns : goal.returns
returns g c =
    let cs = c.args.counters.now in
    rw c.turn.ensures
    (rw c.width_limits.ensures at c.in_ok-clocked.ensures.settled (map g.C.Counter.value cs) (length-map cs g.C.Counter.value))
