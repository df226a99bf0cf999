-- From what a call of the model tells to the step of a record.
use mathlib.Core.Path.{◌≡◌, refl, sym, ap, ◌∙◌}
use mathlib.Core.List.{List}
use mathlib.Core.Bool.{Bool, true, false, ◌&&◌, cond}
use Prim.Native.Nat.{ℕ, ◌+◌, ◌≤◌}
use native.Mathlib.Omega.{arith}
use lib.Dec.{eqb}
use Rattle.std.specs.Prelude.{Ok, Err, IfOk}
use Rattle.rules.specs.declared.Setting.{Setting}
use Rattle.rules.specs.declared.Answer.{Answer}
use Rattle.rules.specs.Answers.{answer_number, answer_wait}
use Rattle.rules.specs.State.{State}
use Rattle.rules.specs.Policy.{narrow}
use Rattle.rules.specs.Calls.{request, done, Reply, answered, finished, Outcome, return_code, step}
use Rattle.rules.specs.Tested.{Sound}
use Rattle.refused.specs.declared.Refusal.{Refusal}
use Rattle.refused.specs.Numbers.{number_of}
use Rattle.refused.proofs.Laws.{number_some}
use Rattle.sound.specs.Told.{Told, Over}
use Rattle.log_format.specs.declared.Entry.{Entry}
use Rattle.log_format.specs.Verdict.{Step, over, on, opened_by, counted, differs_here, judge_record}
use Rattle.log_format.proofs.Records.{outcome_of}
use Rattle.log_format.proofs.Replies.{call_request, call_done, record_refused, record_answered, record_finished, opened_number}
use Rattle.tally.specs.declared.Progress.{Progress}
use Rattle.tally.specs.declared.Report.{Report}
use Rattle.tally.specs.declared.Report.TheVariants.{Refused, Differs}
use Rattle.tally.specs.Settled.{refused_by, counted_one, settled}
use Rattle.judge.specs.Follow.{running, result_of, going, Judged}

-- what holds of the progress with which the log goes on
on_going : (b : Bool) (q : Progress) (d : Report) (P : Progress → Type 0) → P q → IfOk {E = Report} (cond b (Ok q) (Err d)) P
on_going true q d P h = h
on_going false q d P h = tt

module _ (s : Setting) (seeds : List ℕ) (p : Progress) (st : State) (e : Entry) where
  -- a record counted and compared follows the step of the reply with this number and wait tick
  settled_follows : (number wait opened : ℕ) (left : State) (y : Reply) → opened ≡ opened_by y
      → going (λ x. running x s seeds left) (settled p e number wait opened)
      ≡ result_of (cond (eqb e.answer number && eqb e.wait wait) (on (counted (running p s seeds st) y left)) (over (differs_here (counted (running p s seeds st) y left))))
  settled_follows number wait opened left y eo = rw eo (go (eqb e.answer number && eqb e.wait wait))
    where
      q : Progress
      q = counted_one p (opened_by y)

      go : (b : Bool)
          → going (λ x. running x s seeds left) (cond b (Ok q) (Err (Differs q.records q.opened q.blocks q.last)))
          ≡ result_of (cond b (on (counted (running p s seeds st) y left)) (over (differs_here (counted (running p s seeds st) y left))))
      go true = refl
      go false = refl

  settled_judged : (number wait opened : ℕ) (left : State) (y : Reply) (j : Step) → opened ≤ 1 → opened ≡ opened_by y → Sound s left
      → j ≡ cond (eqb e.answer number && eqb e.wait wait) (on (counted (running p s seeds st) y left)) (over (differs_here (counted (running p s seeds st) y left)))
      → Judged s seeds p 1 (settled p e number wait opened) left j
  settled_judged number wait opened left y j most eo ok ej =
      let same : Bool = eqb e.answer number && eqb e.wait wait in
      let q : Progress = counted_one p opened in
      let d : Report = Differs q.records q.opened q.blocks q.last in
      record {
        follows = rw ej (settled_follows number wait opened left y eo);
        sound = ok;
        blocks = on_going same q d (λ x. x.blocks ≡ p.blocks) refl;
        records = on_going same q d (λ x. x.records ≤ p.records + 1) (omega arith);
        opened = on_going same q d (λ x. x.opened ≤ p.opened + 1) (omega arith);
        last = on_going same q d (λ x. x.last ≤ p.last + 1) (omega arith);
      }

  -- a call that the model refuses
  refused_judged : (code : ℕ) (left : State) → code ≡ return_code (outcome_of narrow s seeds st e).reply → (code ≡ 0 → ⊥) → Sound s left
      → Judged s seeds p 1 (Err (refused_by code p)) left (judge_record narrow (running p s seeds st) e)
  refused_judged code left ec n ok =
      let k = record_refused narrow (running p s seeds st) e (λ z. n (ec ∙ z)) in
      record {
        follows = rw k.2 (ap (λ (c : ℕ). Err (Refused c p.blocks)) (ec ∙ sym k.1));
        sound = ok;
        blocks = tt;
        records = tt;
        opened = tt;
        last = tt;
      }

  -- ---- a request

  module _ (kind : e.kind ≡ 0) (left : State) where
    request_outcome : step narrow s seeds st (request e.tick e.bank e.thread e.row) ≡ outcome_of narrow s seeds st e
    request_outcome = ap (step narrow s seeds st) (sym (call_request e kind))

    pub request_refused : (r : Refusal) → Told s (Err r) left (step narrow s seeds st (request e.tick e.bank e.thread e.row))
        → Judged s seeds p 1 (Err (refused_by (number_of r) p)) left (judge_record narrow (running p s seeds st) e)
    request_refused r told =
        refused_judged (number_of r) left (told.code_is ∙ ap (λ (o : Outcome). return_code o.reply) request_outcome) (number_some r) told.sound

    pub request_settled : (a : Answer) → Told s (Ok a) left (step narrow s seeds st (request e.tick e.bank e.thread e.row))
        → (number wait opened : ℕ) → number ≡ answer_number a → wait ≡ answer_wait a → opened ≤ 1 → opened ≡ cond (eqb number 0) 1 0
        → Judged s seeds p 1 (settled p e number wait opened) left (judge_record narrow (running p s seeds st) e)
    request_settled a told number wait opened en ew most eo =
        let o = outcome_of narrow s seeds st e in
        let r : o.reply ≡ answered a = ap (λ (x : Outcome). x.reply) (sym request_outcome) ∙ told.answer_is in
        let l : left ≡ o.state = told.state_is ∙ ap (λ (x : Outcome). x.state) request_outcome in
        settled_judged number wait opened left (answered a) (judge_record narrow (running p s seeds st) e) most (eo ∙ rw (opened_number a, en)) told.sound
        (rw (l, en, ew) (record_answered narrow (running p s seeds st) e a r))

  -- ---- a done

  module _ (kind : 1 ≤ e.kind) (left : State) where
    done_outcome : step narrow s seeds st (done e.tick e.bank e.thread) ≡ outcome_of narrow s seeds st e
    done_outcome = ap (step narrow s seeds st) (sym (call_done e kind))

    pub done_refused : (r : Refusal) → Over s (Err r) left (step narrow s seeds st (done e.tick e.bank e.thread))
        → Judged s seeds p 1 (Err (refused_by (number_of r) p)) left (judge_record narrow (running p s seeds st) e)
    done_refused r told =
        refused_judged (number_of r) left (told.code_is ∙ ap (λ (o : Outcome). return_code o.reply) done_outcome) (number_some r) told.sound

    pub done_settled : (u : Unit {0}) → Over s (Ok u) left (step narrow s seeds st (done e.tick e.bank e.thread))
        → Judged s seeds p 1 (settled p e 0 0 0) left (judge_record narrow (running p s seeds st) e)
    done_settled u told =
        let o = outcome_of narrow s seeds st e in
        let r : o.reply ≡ finished = ap (λ (x : Outcome). x.reply) (sym done_outcome) ∙ told.finished_is in
        let l : left ≡ o.state = told.state_is ∙ ap (λ (x : Outcome). x.state) done_outcome in
        settled_judged 0 0 0 left finished (judge_record narrow (running p s seeds st) e) (omega arith) refl told.sound
        (rw l (record_finished narrow (running p s seeds st) e r))
