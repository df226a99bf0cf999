-- `judge_kept` goes over the records that stay up to the first event.
use Rattle.sound.specs.Held.{Same, held}
use Rattle.rules.specs.Policy.{narrow}
use Rattle.log_format.specs.Claims.{records_of}
use Rattle.log_format.specs.Verdict.{judge_records}
use Rattle.judge.specs.Follow.{running}
use Rattle.cut_rules.specs.selections.Selections.{chosen, bits}
use Rattle.cut_rules.specs.Cut.{says_differs}
use Rattle.cut_down.specs.Kept.{none_judged}
use Rattle.cut_down.proofs.kept.Sofar.{Sofar}
use Rattle.cut_down.proofs.kept.judge_kept.Given as goal

abbrev pub invariant-loop-i : goal.invariant-loop-i
invariant-loop-i l =
    Same l.initial.m l.m × Sofar l.fn.x.setting l.fn.x.seeds (bits l.n l.kept) (records_of l.bytes) l.n
    (says_differs (judge_records narrow (running none_judged l.fn.x.setting l.fn.x.seeds (held l.initial.head l.initial.m)) (chosen (bits l.n l.kept) (records_of l.bytes))))
    l.progress (held l.head l.m) l.i
