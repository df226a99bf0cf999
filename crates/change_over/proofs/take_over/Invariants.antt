-- `take_over` meets its contract. The invariant: the first i counters are copied.
use Rattle.std.proofs.Common.{◌≡◌, ℕ, ◌<◌, get_or}
use Rattle.change_over.proofs.take_over.Given as goal

abbrev pub invariant-loop-i : goal.invariant-loop-i
invariant-loop-i l = (j : ℕ) → j < l.i → get_or l.c-items j 0 ≡ get_or l.old j 0
