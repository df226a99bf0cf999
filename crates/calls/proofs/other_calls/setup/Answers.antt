-- `setup` clears the filters as what is left of set-up says.
use mathlib.Core.List.{map}
use native.Mathlib.Omega.{arith}
use Rattle.std.proofs.lemmas.List.{length-map}
use Rattle.sound.proofs.tested.Asking.{within}
use Rattle.calls.proofs.other_calls.Told.{told_room, told_cleared, told_code}
use Rattle.calls.proofs.other_calls.setup.Goals as goal

pub setup-told-requires : goal.setup-told-requires
setup-told-requires g c = let law = g.met.C.Counter in rw c.width_limits.ensures (within law.threshold_most law.history_most)

pub clear-requires : goal.clear-requires
clear-requires g c = omega (arith, told_room _ _ _ _ c.unwrap_or-used.ensures c.setup-told.ensures.in_range (omega arith))

pub returns : goal.returns
returns g c =
    let cs = map g.C.Counter.value c.args.counters.now in
    let told = c.setup-told.result in
    let settled = c.setup-told.ensures.settled cs (length-map c.args.counters.now g.C.Counter.value) in
    rw (c.and.ensures, told_code told, c.clear.ensures)
    (rw (c.width_limits.ensures, ← told_cleared told _ _ c.unwrap_or-used.ensures (omega arith) cs) at settled)
