-- `never_falls` meets its contract, block by block. The invariant: the blocks passed do not fall.
use Rattle.std.proofs.Common.{◌≡◌, ◌+◌, ◌-◌, ◌*◌, ◌/◌, ◌∙◌, arith}
use Rattle.history.specs.Runs.{never_falls}
use Rattle.rules.proofs.Tests.{same_test}
use Rattle.history.proofs.runs.Results.{rejected_by, passed}
use Rattle.history.proofs.runs.Runs.{run_none, run_part, run_join}
use Rattle.history.proofs.runs.never_falls.Goals as goal

pub loop-b-init : goal.loop-b-init
loop-b-init c = run_none c.args.ticks.now c.args.i

pub returns-then-not-block_never_falls : goal.returns-then-not-block_never_falls
returns-then-not-block_never_falls c =
    let a = c.args in
    rejected_by c.block_never_falls.result _ (never_falls a.ticks.now a.i a.n) c.block_never_falls.ensures c.if-not-block_never_falls.true
    (λ t. run_part a.ticks.now a.i a.n (64 * c.loop-b.b) _ t (omega arith))

pub loop-b-preserved : goal.loop-b-preserved
loop-b-preserved c =
    let a = c.args in
    let z : 64 * c.loop-b.b + 64 ≡ 64 * (c.loop-b.b + 1) = omega arith in
    rw z at (run_join a.ticks.now a.i (64 * c.loop-b.b) 64 c.loop-b.invariant (passed c.block_never_falls.result _ c.block_never_falls.ensures c.if-not-block_never_falls.false))

pub returns : goal.returns
returns c =
    let a = c.args in
    let k = 64 * (a.n / 64) in
    let z : k + (a.n - k) ≡ a.n = omega arith in
    let e : c.loop-b.b ≡ a.n / 64 = omega arith in
    c.block_never_falls-2.ensures
    ∙ same_test (never_falls a.ticks.now (a.i + k) (a.n - k)) (never_falls a.ticks.now a.i a.n)
    (λ t. rw z at (run_join a.ticks.now a.i k (a.n - k) (rw e at c.loop-b.invariant) t))
    (λ t. run_part a.ticks.now a.i a.n k (a.n - k) t (omega arith))
