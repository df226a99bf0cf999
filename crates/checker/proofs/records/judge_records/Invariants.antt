-- `judge_records` goes over the records of a block up to the first event.
use Rattle.sound.specs.Held.{Same, held}
use Rattle.checker.proofs.records.Records.{Going}
use Rattle.checker.proofs.records.judge_records.Given as goal

abbrev pub invariant-loop-k : goal.invariant-loop-k
invariant-loop-k l =
    Same l.initial.m l.m × Going l.s l.seeds l.block l.fn.p l.n (held l.initial.h l.initial.m) l.k l.progress (held l.h l.m)
