-- `block_never_falls` meets its contract: a block that ends below its first cell falls; where the quick test accepts, no cell falls.
use Rattle.std.proofs.Common.{leb, arith, rules}
use Rattle.std.proofs.lemmas.Fn.{always_returns_same}
use Rattle.history.specs.Runs.{never_falls}
use Rattle.history.proofs.runs.Results.{rejected}
use Rattle.history.proofs.runs.Runs.{run_rises, run_sorted_by}
use Rattle.history.proofs.runs.block_never_falls.Goals as goal

pub returns-then-ticks-i : goal.returns-then-ticks-i
returns-then-ticks-i c =
    let a = c.args in
    rejected (never_falls a.ticks.now a.i a.m) (λ t. omega (arith, run_rises a.ticks.now a.i a.m a.m t (omega arith)))

pub returns : goal.returns
returns c =
    let a = c.args in
    run_sorted_by a.ticks.now a.i a.m _ (omega arith) (c.is_sorted_by.ensures.cases leb (always_returns_same _ _ _ (λ x r f' k. search rules)))
