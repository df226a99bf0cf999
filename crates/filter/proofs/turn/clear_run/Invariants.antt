-- `turn::clear_run` meets its contract. The loop has cleared the first counters of the run.
use Rattle.std.proofs.Common.{◌≡◌, ℕ, ◌<◌, map, get_or}
use Rattle.filter.proofs.turn.clear_run.Given as goal

abbrev pub invariant-loop-c : goal.invariant-loop-c
invariant-loop-c g l = (j : ℕ) → j < l.c-index → get_or (map g.C.Counter.value l.c-items) j 0 ≡ 0
