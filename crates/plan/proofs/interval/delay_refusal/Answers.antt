-- `interval::delay_refusal`: by what `setting::refusal` ensures of the setting with that delay and of 64 seeds in range.
use Rattle.plan_rules.specs.delays.Delays.{delay_refusal}
use Rattle.plan.proofs.interval.delay_refusal.Goals as goal

pub returns : goal.returns
unfolding delay_refusal
returns c = rw (← c.with_delay.ensures) c.refusal.ensures
