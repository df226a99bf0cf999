-- `distances` meets its contract. The invariant: while the top bit of the or is clear, the words passed hold no later tick.
use Rattle.std.proofs.Common.{◌≡◌, arith, drop, take, length, length-take, length-drop}
use Rattle.refusal.proofs.head_ticks.Ticks.{past_none, quick_more}
use Rattle.refusal.proofs.head_ticks.distances.Goals as goal

pub loop-stored-init : goal.loop-stored-init
loop-stored-init c = λ z. past_none c.args.head.now 2

pub loop-stored-preserved : goal.loop-stored-preserved
loop-stored-preserved c =
    let long : length (take 20 (drop 2 c.args.head.now)) ≡ 20 = simp (length-take, length-drop, c.told-head) in
    λ h. quick_more c.args.head.now c.loop-stored.stored-index c.loop-stored.all c.loop-stored.invariant (omega arith) h

pub returns : goal.returns
returns c =
    let long : length (take 20 (drop 2 c.args.head.now)) ≡ 20 = simp (length-take, length-drop, c.told-head) in
    let all : c.loop-stored.stored-index ≡ 20 = omega arith in
    rw all at c.loop-stored.invariant
