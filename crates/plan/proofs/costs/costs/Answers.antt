-- `costs::costs`: an accepted delay keeps every number within its range.
use native.Mathlib.Omega.{arith}
use mathlib.Core.Path.{◌≡◌, ap, ◌∙◌}
use Rattle.rules.specs.declared.Setting.{Setting}
use Rattle.rules.specs.Setting.{history_length}
use Rattle.rules.specs.Tested.{Accepted}
use Rattle.plan_rules.specs.delays.Delays.{with_delay, some_seeds}
use Rattle.plan.specs.Costs.{cost_of}
use Rattle.plan_rules.proofs.delays.Interval.{accepted_delay}
use Rattle.plan.proofs.costs.costs.Goals as goal

pub history_length-history-requires : goal.history_length-history-requires
history_length-history-requires c =
    let delayed : Setting = with_delay c.args.s c.args.td in
    let ok : Accepted c.args.width.limits delayed some_seeds = accepted_delay c.args.width.limits c.args.s c.args.td c.requires in
    let k = ok.ranges in rw c.with_delay.ensures (k.tfaw_low, k.tfaw_high, k.td_high)

pub row_bound-bound-requires : goal.row_bound-bound-requires
row_bound-bound-requires c =
    let delayed : Setting = with_delay c.args.s c.args.td in
    let ok : Accepted c.args.width.limits delayed some_seeds = accepted_delay c.args.width.limits c.args.s c.args.td c.requires in
    let a = ok in
    let k = a.ranges in
    (k.td_low, omega arith, k.w_high, omega arith, a.room)

pub bytes-bytes-requires : goal.bytes-bytes-requires
bytes-bytes-requires c =
    let delayed : Setting = with_delay c.args.s c.args.td in
    let ok : Accepted c.args.width.limits delayed some_seeds = accepted_delay c.args.width.limits c.args.s c.args.td c.requires in
    let history_is : c.history_length-history.result ≡ history_length delayed = c.history_length-history.ensures ∙ ap history_length c.with_delay.ensures in
    let a = ok in
    let short = a.short in
    let fits = c.args.width.served in
    (omega arith, a.ranges.banks_high, a.ranges.threads_high, rw history_is (omega arith))

pub returns : goal.returns
unfolding cost_of
returns c =
    let delayed : Setting = with_delay c.args.s c.args.td in
    let history_is : c.history_length-history.result ≡ history_length delayed = c.history_length-history.ensures ∙ ap history_length c.with_delay.ensures in
    rw (← history_is, ← c.row_bound-bound.ensures, ← c.bytes-bytes.ensures)
