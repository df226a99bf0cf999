-- `take_over` meets its contract. The invariant: the first i counters are copied.
use Rattle.std.proofs.Common.{arith}
use Rattle.std.proofs.lemmas.List.{length-take-le}
use Rattle.std.proofs.Common.{◌≡◌, length, ◌∙◌}
use Rattle.change_over.proofs.Changes.{copied_first}
use Rattle.change_over.proofs.take_over.Goals as goal

pub returns : goal.returns
returns c =
    let a = c.args in
    let long : length c.loop-i.c-items ≡ a.used = c.loop-i.auto.c-items ∙ length-take-le a.used a.counters.now c.requires.1 in
    copied_first a.used a.old.now a.counters.now c.loop-i.c-items c.requires.1 long (λ j h. c.loop-i.invariant j (omega (arith, c.loop-i.auto.c-items)))
