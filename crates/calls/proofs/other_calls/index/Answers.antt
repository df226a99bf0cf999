-- `index` turns the filters as the reading says.
use mathlib.Core.List.{map}
use Rattle.std.proofs.lemmas.List.{length-map}
use Rattle.sound.proofs.tested.Asking.{within}
use Rattle.calls.proofs.other_calls.Back.{number_back}
use Rattle.calls.proofs.other_calls.index.Goals as goal

pub index-requires : goal.index-requires
index-requires g c = let law = g.met.C.Counter in rw c.width_limits.ensures (within law.threshold_most law.history_most)

pub returns-in_err-reading : goal.returns-in_err-reading
returns-in_err-reading g c =
    let cs = c.args.counters.now in
    let back = c.from_residual in
    rw (number_back back.result _ back.ensures.1)
    (rw c.width_limits.ensures at c.in_err-reading.ensures.settled (map g.C.Counter.value cs) (length-map cs g.C.Counter.value))

pub turn-requires : goal.turn-requires
turn-requires g c = c.in_ok-reading.ensures.in_range

pub returns : goal.returns
returns g c =
    let cs = c.args.counters.now in
    rw c.turn.ensures
    (rw c.width_limits.ensures at c.in_ok-reading.ensures.settled (map g.C.Counter.value cs) (length-map cs g.C.Counter.value))
