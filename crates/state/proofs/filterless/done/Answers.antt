-- `done` moves the clock and takes one from in flight, which the turn keeps.
use native.Mathlib.Omega.{arith}
use Rattle.rules.specs.Clock.{epoch}
use Rattle.rules.proofs.Clock.{turned_flying}
use Rattle.state.proofs.filterless.done.Goals as goal

pub turn-x-requires : goal.turn-x-requires
turn-x-requires c =
    let p = c.requires in
    (p.0, p.1, p.5)

pub finish-requires : goal.finish-requires
finish-requires c =
    let a = c.args in
    let p = c.requires in
    let kept = turned_flying a.s a.bank a.thread (epoch a.s a.h.last) (epoch a.s a.tick) a.threads.now in
    (p.2, p.3, p.0.ranges.banks_high, p.0.ranges.threads_high, omega (arith, p.1, c.turn-x.auto.threads), rw c.turn-x.ensures.1 (rw kept p.4))

pub returns : goal.returns
returns c =
    let t = c.turn-x.ensures in
    (t.0, rw t.1 at c.finish.ensures, t.2, t.3, t.4)
