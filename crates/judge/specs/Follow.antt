-- What the checker hands back, against the steps of the log's verdict.
use Rattle.std.specs.Prelude.{◌≡◌, List, ℕ, ◌+◌, ◌≤◌, Result, Ok, Err, IfOk}
use Rattle.rules.specs.declared.Setting.{Setting}
use Rattle.rules.specs.State.{State}
use Rattle.rules.specs.Tested.{Sound}
use Rattle.log_format.specs.Refusals.{log_refusal_number}
use Rattle.log_format.specs.Verdict.{agrees, differs, Verdict, refused_after, judged, Progress as LogProgress, Running, Step, over, on}
use Rattle.tally.specs.declared.Progress.{Progress}
use Rattle.tally.specs.declared.Report.{Report}
use Rattle.tally.specs.declared.Report.TheVariants.{Refused, Agrees, Differs}

-- the definition's progress
abbrev pub progress_of : Progress → LogProgress
progress_of p = record { blocks = p.blocks; records = p.records; opened = p.opened; last = p.last }

-- a log that is read so far, with its model
abbrev pub running : Progress → Setting → List ℕ → State → Running
running p s seeds st = record { progress = progress_of p; setting = s; seeds = seeds; state = st }

-- what is said of a verdict: "A refusal .. its number and the count of whole blocks read before the one at fault. Otherwise .. `records`
-- and the count judged, `opened` and the count opened, then `agrees`, or `differs` with block number (from 0) and record place in it"
abbrev pub report_of : Verdict → Report
report_of (refused_after r blocks) = Refused (log_refusal_number r) blocks
report_of (judged records opened agrees) = Agrees records opened
report_of (judged records opened (differs block place)) = Differs records opened block place

-- what a step is handed back as: the log goes on, or it is over with this report
abbrev pub result_of : Step → Result Running Report
result_of (over v) = Err (report_of v)
result_of (on x) = Ok x

-- what is handed back where the log goes on, with its model
abbrev pub going : {A : Type 0} → (A → Running) → Result A Report → Result Running Report
going f (Ok x) = Ok (f x)
going f (Err d) = Err d

-- so many records of a block judged at most, from the progress p on: the step of the definition, on a state that passes the tests of 6 and 7
pub record Judged (s : Setting) (seeds : List ℕ) (p : Progress) (most : ℕ) (r : Result Progress Report) (st : State) (y : Step) : Type 0 where
  pub follows : going (λ q. running q s seeds st) r ≡ result_of y
  pub sound : Sound s st
  pub blocks : IfOk r (λ q. q.blocks ≡ p.blocks)
  pub records : IfOk r (λ q. q.records ≤ p.records + most)
  pub opened : IfOk r (λ q. q.opened ≤ p.opened + most)
  pub last : IfOk r (λ q. q.last ≤ p.last + most)
