-- For callers that judge a record by what a call of the model returns: the code, the answer and the wait tick decide the step.
use mathlib.Core.Path.{◌≡◌, refl}
use mathlib.Core.Bool.{◌&&◌, cond}
use Prim.Native.Nat.{◌≤◌}
use native.Mathlib.Omega.{arith}
use lib.Dec.{eqb}
use borrow.Author.Tests.{eq-eqb, ne_eqb}
use Rattle.rules.specs.declared.Cause.TheVariants.{Bank, Rank, Row}
use Rattle.rules.specs.declared.Answer.{Answer}
use Rattle.rules.specs.declared.Answer.TheVariants.{Opened, Wait, Quota}
use Rattle.rules.specs.Answers.{Refusal, refusal_number, answer_number, answer_wait}
use Rattle.rules.specs.Calls.{request, done, Reply, refused, answered, finished, shown, Outcome, return_code}
use Rattle.log_format.specs.declared.Entry.{Entry}
use Rattle.log_format.specs.Refusals.{model}
use Rattle.log_format.specs.Contents.{call_of}
use Rattle.log_format.specs.Verdict.{refused_after, Running, over, on, claims, opened_by, counted, differs_here, judge_reply, judge_record}
use Rattle.log_format.proofs.Records.{outcome_of}
use Rattle.rules.specs.Policy.{Policy}

-- ---- the step of a record

-- the call of a record, by its kind
pub call_request : (e : Entry) → e.kind ≡ 0 → call_of e ≡ request e.tick e.bank e.thread e.row
call_request e h = rw (eq-eqb e.kind 0 h)

pub call_done : (e : Entry) → 1 ≤ e.kind → call_of e ≡ done e.tick e.bank e.thread
call_done e h = let n : e.kind ≡ 0 → ⊥ = λ z. omega arith in rw (ne_eqb e.kind 0 n)

-- a call that returns another code ends the log with it
pub record_refused : (p : Policy) (x : Running) (e : Entry) → (return_code (outcome_of p x.setting x.seeds x.state e).reply ≡ 0 → ⊥)
    → (r : Refusal)
    × (refusal_number r ≡ return_code (outcome_of p x.setting x.seeds x.state e).reply)
    × (judge_record p x e ≡ over (refused_after (model r) x.progress.blocks))
unfolding judge_record
record_refused p x e h = go o.reply h
  where
    o : Outcome
    o = outcome_of p x.setting x.seeds x.state e

    go : (y : Reply) → (return_code y ≡ 0 → ⊥) → (r : Refusal) × (refusal_number r ≡ return_code y) × (judge_reply x e y o.state ≡ over (refused_after (model r) x.progress.blocks))
    go (refused r) k = (r, refl, refl)
    go (answered a) k = absurd (k refl)
    go finished k = absurd (k refl)
    go (shown c d q) k = absurd (k refl)

-- an answer: the record agrees where number and wait tick are the claimed ones
pub record_answered : (p : Policy) (x : Running) (e : Entry) (a : Answer) → (outcome_of p x.setting x.seeds x.state e).reply ≡ answered a
    → judge_record p x e
    ≡ cond (eqb e.answer (answer_number a) && eqb e.wait (answer_wait a))
    (on (counted x (answered a) (outcome_of p x.setting x.seeds x.state e).state))
    (over (differs_here (counted x (answered a) (outcome_of p x.setting x.seeds x.state e).state)))
unfolding judge_record claims
record_answered p x e a h = rw h

-- a done: the record agrees where both are 0
pub record_finished : (p : Policy) (x : Running) (e : Entry) → (outcome_of p x.setting x.seeds x.state e).reply ≡ finished
    → judge_record p x e
    ≡ cond (eqb e.answer 0 && eqb e.wait 0)
    (on (counted x finished (outcome_of p x.setting x.seeds x.state e).state))
    (over (differs_here (counted x finished (outcome_of p x.setting x.seeds x.state e).state)))
unfolding judge_record claims
record_finished p x e h = rw h

-- a request is opened where its answer's number is 0
pub opened_number : (a : Answer) → opened_by (answered a) ≡ cond (eqb (answer_number a) 0) 1 0
opened_number (Opened left) = refl
opened_number (Wait Bank u) = refl
opened_number (Wait Rank u) = refl
opened_number (Wait Row u) = refl
opened_number Quota = refl
