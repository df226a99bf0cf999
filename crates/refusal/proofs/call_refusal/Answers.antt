-- `call_refusal` gives the refusals of what is lent, then 8 and 9.
use Rattle.std.proofs.Common.{true, sym, ◌∙◌}
use Rattle.rules.specs.Setting.{setting_of}
use Rattle.rules.specs.State.{head_of}
use Rattle.refusal.specs.Tests.{lent_test, call_test}
use Rattle.refused.proofs.Laws.{passed_up, passed_second}
use Rattle.refusal.proofs.call_refusal.Goals as goal

pub returns-in_err-lent_refusal : goal.returns-in_err-lent_refusal
unfolding call_test
returns-in_err-lent_refusal c =
    passed_up (lent_test c.args.m (setting_of c.args.lent.setting.now) c.args.lent.seeds.now (head_of c.args.lent.head.now) c.args.lent.counters c.args.lent.ticks.now c.args.lent.rows c.args.threads true) _ _ _ _ c.lent_refusal.ensures c.in_err-lent_refusal.was c.from_residual.ensures.1

pub returns : goal.returns
unfolding head_of call_test
returns c =
    let e = c.load.ensures in
    rw e at c.place_refusal.ensures ∙ sym (passed_second (lent_test c.args.m (setting_of c.args.lent.setting.now) c.args.lent.seeds.now (head_of c.args.lent.head.now) c.args.lent.counters c.args.lent.ticks.now c.args.lent.rows c.args.threads true) _ _ (sym c.lent_refusal.ensures ∙ c.in_ok-lent_refusal.was))
