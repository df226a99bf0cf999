-- The refusals of a log, with the numbers that document 01 gives them.
use Rattle.std.specs.Prelude.{Bool, true, false, ℕ}
use Rattle.rules.specs.Answers.{Refusal, none, refusal_number}

-- "A refusal, of the model too": one of the model, or one of those that "who writes the log" can cause
pub data LogRefusal : Type 0 where
  model : Refusal → LogRefusal
  cut wrong_check bad_contents : LogRefusal

abbrev pub log_refusal_number : LogRefusal → ℕ
log_refusal_number (model r) = refusal_number r
-- "11 input empty or ending within a block."
log_refusal_number cut = 11
-- "12 block check wrong."
log_refusal_number wrong_check = 12
-- "13 block contents."
log_refusal_number bad_contents = 13

-- nothing is refused
abbrev pub sound : LogRefusal
sound = model none

-- "Checked in this order ..; the first is given."
abbrev pub refuse_log : Bool → LogRefusal → LogRefusal → LogRefusal
refuse_log true r rest = r
refuse_log false r rest = rest
