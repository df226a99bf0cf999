-- `distances` meets its contract. The invariant: while the top bit of the or is clear, the words passed hold no later tick.
use Rattle.std.proofs.Common.{◌≡◌, ◌^◌, ◌<◌, true}
use Rattle.refusal.specs.Words.{words_past}
use Rattle.refusal.proofs.head_ticks.distances.Given as goal

abbrev pub invariant-loop-stored : goal.invariant-loop-stored
invariant-loop-stored l = l.all < 2 ^ 63 → words_past l.head 2 l.stored-index ≡ true
