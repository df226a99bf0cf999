-- `turn` moves the clock of the thread counters and of the head.
use Prim.Native.Nat.{◌/◌, ◌<◌, ◌^◌}
use mathlib.Core.Path.{refl, ap, ◌∙◌}
use native.Mathlib.Omega.{arith}
use native.Mathlib.Nat.{div-mul-le_self}
use Rattle.rules.specs.State.{threads_used}
use Rattle.rules.specs.Clock.{epoch, turned_threads}
use Rattle.state.proofs.clock.Epochs.{epoch_small}
use Rattle.state.proofs.clock.turn.Goals as goal

pub epoch_from-to-requires : goal.epoch_from-to-requires
epoch_from-to-requires c =
    let a = c.args in
    (omega (arith, c.requires.0.epoch), omega (arith, div-mul-le_self a.h.last (a.s.w / 2), c.requires.2))

pub turn-requires : goal.turn-requires
turn-requires c =
    let small : epoch c.args.s c.args.h.last < 2 ^ 63 = let a = c.args in epoch_small a.h.last (a.s.w / 2) c.requires.0.epoch (omega arith) in
    (c.requires.1, omega arith, small)

pub returns : goal.returns
returns c =
    let small : epoch c.args.s c.args.h.last < 2 ^ 63 = let a = c.args in epoch_small a.h.last (a.s.w / 2) c.requires.0.epoch (omega arith) in
    let a = c.args in
    let e = c.epoch_from-to.ensures in (
      c.moved.ensures,
      c.turn.ensures ∙ ap (λ x. turned_threads (threads_used a.s) (epoch a.s a.h.last) x a.threads.now) e,
      refl,
      e,
      small,
    )
