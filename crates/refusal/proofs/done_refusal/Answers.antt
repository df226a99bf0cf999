-- `done_refusal` gives the refusals of a call, then 10.
use Rattle.std.proofs.Common.{length, sym, ◌∙◌}
use Rattle.rules.specs.Setting.{setting_of}
use Rattle.rules.specs.State.{head_of}
use Rattle.refusal.specs.Tests.{call_test, done_test}
use Rattle.refused.proofs.Laws.{passed_ok, passed_up, passed_second}
use Rattle.refusal.proofs.Refusals.{tested_call}
use Rattle.refusal.proofs.done_refusal.Goals as goal

pub returns-in_err-call_refusal : goal.returns-in_err-call_refusal
unfolding done_test
returns-in_err-call_refusal c =
    passed_up (call_test c.args.m (setting_of c.args.lent.setting.now) c.args.lent.seeds.now (head_of c.args.lent.head.now) c.args.lent.counters c.args.lent.ticks.now c.args.lent.rows (length c.args.threads.now) c.args.at.tick c.args.at.bank c.args.at.thread) _ _ _ _ c.call_refusal.ensures c.in_err-call_refusal.was c.from_residual.ensures.1

pub flying_refusal-requires : goal.flying_refusal-requires
flying_refusal-requires c =
    let k = tested_call c.args.m (setting_of c.args.lent.setting.now) c.args.lent.seeds.now (head_of c.args.lent.head.now) c.args.lent.counters c.args.lent.ticks.now c.args.lent.rows (length c.args.threads.now) c.args.at.tick c.args.at.bank c.args.at.thread
    (passed_ok _ _ (sym c.call_refusal.ensures ∙ c.in_ok-call_refusal.was)) in
    let e = c.load.ensures in
    rw e (k.bank_in, k.thread_in, k.setting.ranges.banks_high, k.setting.ranges.threads_high, k.threads_long)

pub returns : goal.returns
unfolding done_test
returns c =
    let e = c.load.ensures in
    rw e at c.flying_refusal.ensures ∙ sym (passed_second (call_test c.args.m (setting_of c.args.lent.setting.now) c.args.lent.seeds.now (head_of c.args.lent.head.now) c.args.lent.counters c.args.lent.ticks.now c.args.lent.rows (length c.args.threads.now) c.args.at.tick c.args.at.bank c.args.at.thread) _ _ (sym c.call_refusal.ensures ∙ c.in_ok-call_refusal.was))
