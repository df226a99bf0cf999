-- `setting::refusal`: each way out gives the first test that holds, in the definition's order.
use Rattle.std.proofs.Common.{◌≤◌, ◌*◌, ◌-◌, sym, ◌∙◌, arith, lt-ltb, le-ltb}
use borrow.Author.Tests.{ltb-false}
use Rattle.rules.specs.Setting.{setting_refusal}
use Rattle.setting.proofs.Ranges.{tested, in_ranges}
use Rattle.setting.proofs.refusal.Goals as goal

pub returns-then-not-in_range : goal.returns-then-not-in_range
unfolding setting_refusal
returns-then-not-in_range c =
    let outside = tested c.args.m c.args.s c.requires.1 c.fields_in_range.ensures c.if-not-in_range.true in
    simp outside

pub short_window-window-requires : goal.short_window-window-requires
short_window-window-requires c =
    let inside = tested c.args.m c.args.s c.requires.1 c.fields_in_range.ensures c.if-not-in_range.false in
    let ok = in_ranges c.args.m c.args.s c.args.seeds.now inside in
    (ok.w_low, omega arith, ok.trc_high)

pub returns-then-window : goal.returns-then-window
unfolding setting_refusal
returns-then-window c =
    let inside = tested c.args.m c.args.s c.requires.1 c.fields_in_range.ensures c.if-not-in_range.false in
    simp (inside, ← c.short_window-window.ensures, c.if-window.true)

pub returns-then-delay : goal.returns-then-delay
unfolding setting_refusal
returns-then-delay c =
    let inside = tested c.args.m c.args.s c.requires.1 c.fields_in_range.ensures c.if-not-in_range.false in
    simp (inside, ← c.short_window-window.ensures, c.if-window.false, ← c.bad_delay-delay.ensures, c.if-delay.true)

pub history_length-length-requires : goal.history_length-length-requires
history_length-length-requires c =
    let inside = tested c.args.m c.args.s c.requires.1 c.fields_in_range.ensures c.if-not-in_range.false in
    let ok = in_ranges c.args.m c.args.s c.args.seeds.now inside in
    (ok.tfaw_low, ok.tfaw_high, ok.td_high)

pub returns-then-m-length : goal.returns-then-m-length
unfolding setting_refusal
returns-then-m-length c =
    let inside = tested c.args.m c.args.s c.requires.1 c.fields_in_range.ensures c.if-not-in_range.false in
    simp (inside, ← c.short_window-window.ensures, c.if-window.false, ← c.bad_delay-delay.ensures, c.if-delay.false, ← c.history_length-length.ensures, lt-ltb _ _ c.if-m-length.true)

pub above_limit-limit-requires : goal.above_limit-limit-requires
above_limit-limit-requires c =
    let inside = tested c.args.m c.args.s c.requires.1 c.fields_in_range.ensures c.if-not-in_range.false in
    let ok = in_ranges c.args.m c.args.s c.args.seeds.now inside in
    let room : 2 * c.args.s.n * c.args.s.trc ≤ c.args.s.w - 1 = ltb-false _ _ (sym c.short_window-window.ensures ∙ c.if-window.false) in
    (ok.td_low, ok.td_high, omega arith, omega arith, ok.l_high, room, ok.w_high)

pub returns-then-limit : goal.returns-then-limit
unfolding setting_refusal
returns-then-limit c =
    let inside = tested c.args.m c.args.s c.requires.1 c.fields_in_range.ensures c.if-not-in_range.false in
    simp (inside, ← c.short_window-window.ensures, c.if-window.false, ← c.bad_delay-delay.ensures, c.if-delay.false, ← c.history_length-length.ensures, le-ltb _ _ c.if-m-length.false, ← c.above_limit-limit.ensures, c.if-limit.true)

pub returns-then-card : goal.returns-then-card
unfolding setting_refusal
returns-then-card c =
    let inside = tested c.args.m c.args.s c.requires.1 c.fields_in_range.ensures c.if-not-in_range.false in
    simp (inside, ← c.short_window-window.ensures, c.if-window.false, ← c.bad_delay-delay.ensures, c.if-delay.false, ← c.history_length-length.ensures, le-ltb _ _ c.if-m-length.false, ← c.above_limit-limit.ensures, c.if-limit.false, ← c.profile.ensures, ← c.above_profile-card.ensures, c.if-card.true)

pub returns : goal.returns
unfolding setting_refusal
returns c =
    let inside = tested c.args.m c.args.s c.requires.1 c.fields_in_range.ensures c.if-not-in_range.false in
    simp (inside, ← c.short_window-window.ensures, c.if-window.false, ← c.bad_delay-delay.ensures, c.if-delay.false, ← c.history_length-length.ensures, le-ltb _ _ c.if-m-length.false, ← c.above_limit-limit.ensures, c.if-limit.false, ← c.profile.ensures, ← c.above_profile-card.ensures, c.if-card.false)
