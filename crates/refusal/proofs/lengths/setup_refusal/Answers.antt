-- `setup_refusal` gives the setting's refusal first, then 6.
use Rattle.std.proofs.Common.{sym, ◌∙◌}
use Rattle.refused.proofs.Laws.{passed_ok, passed_up, passed_second}
use Rattle.rules.specs.Setting.{setting_refusal}
use Rattle.rules.proofs.Accept.{accepted}
use Rattle.refusal.specs.Lengths.{setup_test}
use Rattle.refusal.proofs.lengths.setup_refusal.Goals as goal

pub returns-in_err-refusal : goal.returns-in_err-refusal
unfolding setup_test
returns-in_err-refusal c = passed_up (setting_refusal c.args.m c.args.s c.args.seeds.now) _ _ _ _ c.refusal.ensures c.in_err-refusal.was c.from_residual.ensures.1

pub history_length-places-requires : goal.history_length-places-requires
history_length-places-requires c =
    let ok = (accepted c.args.m c.args.s c.args.seeds.now (passed_ok _ _ (sym c.refusal.ensures ∙ c.in_ok-refusal.was))).ranges in
    (ok.tfaw_low, ok.tfaw_high, ok.td_high)

pub too_short-requires : goal.too_short-requires
too_short-requires c =
    let ok = (accepted c.args.m c.args.s c.args.seeds.now (passed_ok _ _ (sym c.refusal.ensures ∙ c.in_ok-refusal.was))).ranges in
    (ok.banks_high, ok.threads_high, c.history_length-places.ensures)

pub returns-then-too_short : goal.returns-then-too_short
unfolding setup_test
returns-then-too_short c =
    sym (passed_second (setting_refusal c.args.m c.args.s c.args.seeds.now) _ _ (sym c.refusal.ensures ∙ c.in_ok-refusal.was) ∙ rw (← c.too_short.ensures, c.if-too_short.true))

pub returns : goal.returns
unfolding setup_test
returns c =
    sym (passed_second (setting_refusal c.args.m c.args.s c.args.seeds.now) _ _ (sym c.refusal.ensures ∙ c.in_ok-refusal.was) ∙ rw (← c.too_short.ensures, c.if-too_short.false))
