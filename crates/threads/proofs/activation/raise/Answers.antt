-- `activation::raise` meets its contract. The sum fits as it does for counters of every width.
use Prim.Native.Nat.{◌^◌}
use Rattle.rules.proofs.Filter.{raised_below, raised_full, sum_lt}
use borrow.Author.Rules.{rules}
use Rattle.threads.proofs.activation.raise.Goals as goal

pub overflow_add-result : goal.overflow_add-result
overflow_add-result c = let k = sum_lt c.args.limit c.args.c (2 ^ 32) (search rules) c.if-c-limit.true in search rules

pub returns-then-c-limit : goal.returns-then-c-limit
returns-then-c-limit c = raised_below c.args.limit c.args.c c.if-c-limit.true

pub returns-else-c-limit : goal.returns-else-c-limit
returns-else-c-limit c = raised_full c.args.limit c.args.c c.if-c-limit.false
