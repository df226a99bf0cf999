-- What the calls for Rattle callers tell of the rules' outcome. Each record has names of its own, so that a must-fail edit can name its lines.
use Rattle.std.specs.Prelude.{ℕ, Bool, false, ◌≡◌, List, Result, Ok, Err, IfOk}
use Rattle.refused.specs.declared.Refusal.{Refusal}
use Rattle.refused.specs.Numbers.{code_of}
use Rattle.rules.specs.declared.Setting.{Setting}
use Rattle.rules.specs.declared.Answer.{Answer}
use Rattle.rules.specs.Answers.{none}
use Rattle.rules.specs.Setting.{setting_refusal}
use Rattle.rules.specs.State.{State}
use Rattle.rules.specs.Policy.{limits01}
use Rattle.rules.specs.Calls.{answered, finished, return_code, Outcome}
use Rattle.rules.specs.Tested.{Sound}

-- what set-up says of the seeds: whether they are the house seeds; nothing where it is refused
abbrev pub table_of : Result Bool Refusal → Bool
table_of (Ok table) = table
table_of (Err r) = false

-- Set-up: the number is the reply's, the state is the outcome's; where it is not refused the setting is accepted and the state passes the tests.
pub record Begun (s : Setting) (seeds : List ℕ) (result : Result Bool Refusal) (st : State) (o : Outcome) : Type 0 where
  pub code_is : code_of result ≡ return_code o.reply
  pub finished_is : IfOk result (λ table. o.reply ≡ finished)
  pub state_is : st ≡ o.state
  pub accepted : IfOk result (λ table. setting_refusal limits01 s seeds ≡ none)
  pub sound : IfOk result (λ table. Sound s st)

-- a request: the number is the reply's, the answer is the reply's where it is not refused, the state is the outcome's and passes the tests again
pub record Told (s : Setting) (result : Result Answer Refusal) (left : State) (q : Outcome) : Type 0 where
  pub code_is : code_of result ≡ return_code q.reply
  pub answer_is : IfOk result (λ answer. q.reply ≡ answered answer)
  pub state_is : left ≡ q.state
  pub sound : Sound s left

-- a done: the same, with no answer
pub record Over (s : Setting) (result : Result (Unit {0}) Refusal) (after : State) (d : Outcome) : Type 0 where
  pub code_is : code_of result ≡ return_code d.reply
  pub finished_is : IfOk result (λ u. d.reply ≡ finished)
  pub state_is : after ≡ d.state
  pub sound : Sound s after
