-- `costs::bytes`: the products are small.
use Prim.Native.Nat.{◌*◌, ◌≤◌}
use native.Mathlib.Omega.{arith}
use native.Mathlib.Nat.{mul-le-mul}
use Rattle.rules.proofs.Accept.{cells_small}
use borrow.Author.Rules.{rules}
use Rattle.plan.proofs.costs.bytes.Goals as goal

pub overflow_mul-result-2 : goal.overflow_mul-result-2
overflow_mul-result-2 c =
    let counters : c.args.counter * (c.args.banks * 2048) ≤ 4 * 32768 = mul-le-mul {n₂ = 4} {m₂ = 32768} (search rules) (omega arith) in
    omega (arith, counters)

pub overflow_add-result : goal.overflow_add-result
overflow_add-result c =
    let counters : c.args.counter * (c.args.banks * 2048) ≤ 4 * 32768 = mul-le-mul {n₂ = 4} {m₂ = 32768} (search rules) (omega arith) in
    omega (arith, counters)

pub overflow_mul-result-4 : goal.overflow_mul-result-4
overflow_mul-result-4 c =
    let small : c.args.banks * c.args.threads ≤ 512 = cells_small c.args.banks c.args.threads (search rules) (search rules) in
    omega (arith, small)

pub overflow_mul-result-5 : goal.overflow_mul-result-5
overflow_mul-result-5 c =
    let small : c.args.banks * c.args.threads ≤ 512 = cells_small c.args.banks c.args.threads (search rules) (search rules) in
    omega (arith, small)

pub overflow_mul-result-6 : goal.overflow_mul-result-6
overflow_mul-result-6 c =
    let small : c.args.banks * c.args.threads ≤ 512 = cells_small c.args.banks c.args.threads (search rules) (search rules) in
    omega (arith, small)

pub overflow_add-result-2 : goal.overflow_add-result-2
overflow_add-result-2 c =
    let small : c.args.banks * c.args.threads ≤ 512 = cells_small c.args.banks c.args.threads (search rules) (search rules) in
    let counters : c.args.counter * (c.args.banks * 2048) ≤ 4 * 32768 = mul-le-mul {n₂ = 4} {m₂ = 32768} (search rules) (omega arith) in
    omega (arith, counters, small)
