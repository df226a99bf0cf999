-- Records judged one by one: the log goes on exactly where every record is the rules' decision, and then the counts are the true ones.
use mathlib.Core.Path.{◌≡◌, refl, sym, ap, ◌∙◌}
use mathlib.Core.List.{List, [], ◌∷◌, ◌++◌}
use mathlib.Core.Bool.{Bool, true, false, ◌&&◌, cond}
use mathlib.Core.Logic.{◌↔◌}
use Prim.Native.Nat.{ℕ, ◌+◌}
use native.Mathlib.Omega.{arith}
use lib.Dec.{T, eqb, eqb→eq}
use lib.ListN.{length, length-append}
use borrow.Author.Tests.{eq-eqb}
use Rattle.rules.specs.declared.Setting.{Setting}
use Rattle.rules.specs.declared.Answer.TheVariants.{Opened, Wait, Quota}
use Rattle.rules.specs.Answers.{refusal_number}
use Rattle.rules.specs.State.{State}
use Rattle.rules.specs.Policy.{Policy}
use Rattle.rules.specs.Calls.{Call, request, done, Reply, refused, answered, finished, shown, Outcome, step, replies, after, activation_of, activations, unless_refused, reported, done_refusal}
use Rattle.rules.specs.Clock.{turned}
use Rattle.rules.proofs.Tests.{and_l, and_r, holds}
use Rattle.log_format.specs.declared.Entry.{Entry}
use Rattle.log_format.specs.Contents.{call_of}
use Rattle.log_format.specs.Verdict.{Verdict, Running, Step, over, on, reply_number, reply_wait, claims, opened_by, counted, differs_here, judge_reply, judge_record, and_then, judge_records}
use Rattle.log_format.specs.Claims.{calls_of, Decision, Decided}

-- a step that ends the log does not go on
pub not_over : (v : Verdict) (y : Running) → over v ≡ on y → ⊥
not_over v y e = let z : ◌≡◌ {A = ℕ} 0 1 = cc in omega arith

pub same_on : (x y : Running) → on x ≡ on y → x ≡ y
same_on x y e = cc

-- ---- one record

pub claims_true : (e : Entry) (r : Reply) → e.answer ≡ reply_number r → e.wait ≡ reply_wait r → claims e r ≡ true
unfolding claims
claims_true e r a w = simp (eq-eqb e.answer (reply_number r) a, eq-eqb e.wait (reply_wait r) w)

pub true_claims : (e : Entry) (r : Reply) → claims e r ≡ true → (e.answer ≡ reply_number r) × (e.wait ≡ reply_wait r)
unfolding claims
true_claims e r h =
    let a = eqb e.answer (reply_number r) in
    let w = eqb e.wait (reply_wait r) in
    let t : T (a && w) = holds (a && w) h in
    (eqb→eq e.answer (reply_number r) (and_l a w t), eqb→eq e.wait (reply_wait r) (and_r a w t))

pub reply_on : (x : Running) (e : Entry) (r : Reply) (st : State) → Decision e r → judge_reply x e r st ≡ on (counted x r st)
reply_on x e (refused r) st d = absurd d
reply_on x e (answered a) st d = rw (claims_true e (answered a) d.0 d.1)
reply_on x e finished st d = rw (claims_true e finished d.0 d.1)
reply_on x e (shown c scale quota) st d = absurd d

-- a test of two steps, of which the second ends the log
cond_on : (b : Bool) (x y : Running) (v : Verdict) → cond b (on x) (over v) ≡ on y → (b ≡ true) × (x ≡ y)
cond_on true x y v e = (refl, same_on x y e)
cond_on false x y v e = absurd (not_over v y e)

on_reply : (x : Running) (e : Entry) (r : Reply) (st : State) (y : Running) → judge_reply x e r st ≡ on y → Decision e r × (counted x r st ≡ y)
on_reply x e (refused r) st y h = absurd (not_over _ y h)
on_reply x e (answered a) st y h =
    let k = cond_on (claims e (answered a)) (counted x (answered a) st) y (differs_here (counted x (answered a) st)) h in
    (true_claims e (answered a) k.0, k.1)
on_reply x e finished st y h =
    let k = cond_on (claims e finished) (counted x finished st) y (differs_here (counted x finished st)) h in
    (true_claims e finished k.0, k.1)
on_reply x e (shown c scale quota) st y h = absurd (not_over _ y h)

module _ (p : Policy) where
  -- ---- records, one after another

  -- the rules' outcome of a record
  abbrev pub outcome_of : Setting → List ℕ → State → Entry → Outcome
  outcome_of s seeds st e = step p s seeds st (call_of e)

  -- the progress and the state when these records are counted
  unfoldable pub advanced : Running → List Entry → Running
  advanced x [] = x
  advanced x (e ∷ es) =
      let o = outcome_of x.setting x.seeds x.state e in
      advanced (counted x o.reply o.state) es

  -- the records are the rules' decisions, from this state on
  abbrev pub DecidedFrom : Setting → List ℕ → State → List Entry → Type 0
  DecidedFrom s seeds st es = Decided es (replies p s seeds st (calls_of es))

  pub records_on : (x : Running) (es : List Entry) → DecidedFrom x.setting x.seeds x.state es → judge_records p x es ≡ on (advanced x es)
  unfolding judge_records judge_record advanced
  records_on x [] d = refl
  records_on x (e ∷ es) d =
      let o = outcome_of x.setting x.seeds x.state e in
      let y = counted x o.reply o.state in
      ap (λ (s : Step). and_then s (λ (z : Running). judge_records p z es)) (reply_on x e o.reply o.state d.0) ∙ records_on y es d.1

  pub on_records : (x : Running) (es : List Entry) (y : Running) → judge_records p x es ≡ on y
      → DecidedFrom x.setting x.seeds x.state es × (advanced x es ≡ y)
  unfolding judge_records judge_record advanced
  on_records x [] y h = (tt, same_on x y h)
  on_records x (e ∷ es) y h = go (judge_reply x e o.reply o.state) refl h (on_records next es y)
    where
      o : Outcome
      o = outcome_of x.setting x.seeds x.state e

      next : Running
      next = counted x o.reply o.state

      go : (s : Step) → judge_reply x e o.reply o.state ≡ s → and_then s (λ (z : Running). judge_records p z es) ≡ on y
          → (judge_records p next es ≡ on y → DecidedFrom x.setting x.seeds o.state es × (advanced next es ≡ y))
          → (Decision e o.reply × DecidedFrom x.setting x.seeds o.state es) × (advanced next es ≡ y)
      go (over v) e1 k ih = absurd (not_over v y k)
      go (on z) e1 k ih =
          let d = on_reply x e o.reply o.state z e1 in
          let r = ih (ap (λ (w : Running). judge_records p w es) d.1 ∙ k) in
          ((d.0, r.0), r.1)

  -- ---- the counts

  -- how many of these records the rules open
  abbrev pub open_in : Setting → List ℕ → State → List Entry → ℕ
  open_in s seeds st es = length (activations (calls_of es) (replies p s seeds st (calls_of es)))

  -- where a test that chooses a done's outcome comes from: finished or refused
  done_opens : (s : Setting) (seeds : List ℕ) (st : State) (t b th : ℕ) → opened_by (step p s seeds st (done t b th)).reply ≡ 0
  unfolding step unless_refused reported
  done_opens s seeds st t b th = go (eqb (refusal_number (done_refusal p.limits s seeds st t b th)) 0)
    where
      go : (q : Bool) → opened_by (cond q (reported s (turned s st t) b th) (record { reply = refused (done_refusal p.limits s seeds st t b th); state = st })).reply ≡ 0
      go true = refl
      go false = refl

  request_opens : (t b th r : ℕ) (y : Reply) → length (activation_of (request t b th r) y) ≡ opened_by y
  request_opens t b th r (refused n) = refl
  request_opens t b th r (answered (Opened left)) = refl
  request_opens t b th r (answered (Wait c u)) = refl
  request_opens t b th r (answered Quota) = refl
  request_opens t b th r finished = refl
  request_opens t b th r (shown c d q) = refl

  one_opens : (s : Setting) (seeds : List ℕ) (st : State) (e : Entry)
      → length (activation_of (call_of e) (outcome_of s seeds st e).reply) ≡ opened_by (outcome_of s seeds st e).reply
  one_opens s seeds st e = go (eqb e.kind 0)
    where
      call : Bool → Call
      call q = cond q (request e.tick e.bank e.thread e.row) (done e.tick e.bank e.thread)

      go : (q : Bool) → length (activation_of (call q) (step p s seeds st (call q)).reply) ≡ opened_by (step p s seeds st (call q)).reply
      go true = request_opens e.tick e.bank e.thread e.row (step p s seeds st (call true)).reply
      go false = sym (done_opens s seeds st e.tick e.bank e.thread)

  -- the counts, the setting and the state when these records are counted
  pub record Counts (x y : Running) (es : List Entry) : Type 0 where
    pub blocks : y.progress.blocks ≡ x.progress.blocks
    pub records : y.progress.records ≡ x.progress.records + length es
    pub opened : y.progress.opened ≡ x.progress.opened + open_in x.setting x.seeds x.state es
    pub last : y.progress.last ≡ x.progress.last + length es
    pub setting : y.setting ≡ x.setting
    pub seeds : y.seeds ≡ x.seeds
    pub state : y.state ≡ after p x.setting x.seeds x.state (calls_of es)

  pub counts : (x : Running) (es : List Entry) → Counts x (advanced x es) es
  unfolding advanced
  counts x [] = record { blocks = refl; records = omega arith; opened = omega arith; last = omega arith; setting = refl; seeds = refl; state = refl }
  counts x (e ∷ es) =
      let o = outcome_of x.setting x.seeds x.state e in
      let c = counts (counted x o.reply o.state) es in
      let a = activation_of (call_of e) o.reply in
      let rest = activations (calls_of es) (replies p x.setting x.seeds o.state (calls_of es)) in
      record {
        blocks = c.blocks;
        records = c.records ∙ omega arith;
        opened = c.opened ∙ omega (arith, length-append a rest, one_opens x.setting x.seeds x.state e);
        last = c.last ∙ omega arith;
        setting = c.setting;
        seeds = c.seeds;
        state = c.state;
      }

  -- ---- records of two blocks

  pub decided_append : (s : Setting) (seeds : List ℕ) (st : State) (es fs : List Entry)
      → DecidedFrom s seeds st (es ++ fs) ↔ (DecidedFrom s seeds st es × DecidedFrom s seeds (after p s seeds st (calls_of es)) fs)
  decided_append s seeds st [] fs = ((λ d. (tt, d)), λ d. d.1)
  decided_append s seeds st (e ∷ es) fs =
      let h = decided_append s seeds (outcome_of s seeds st e).state es fs in
      ((λ d. ((d.0, (h.0 d.1).0), (h.0 d.1).1)), λ d. (d.0.0, h.1 (d.0.1, d.1)))

  pub open_append : (s : Setting) (seeds : List ℕ) (st : State) (es fs : List Entry)
      → open_in s seeds st (es ++ fs) ≡ open_in s seeds st es + open_in s seeds (after p s seeds st (calls_of es)) fs
  open_append s seeds st [] fs = omega arith
  open_append s seeds st (e ∷ es) fs =
      let o = outcome_of s seeds st e in
      let a = activation_of (call_of e) o.reply in
      let run = replies p s seeds o.state in
      let h = open_append s seeds o.state es fs in
      omega (arith, length-append a (activations (calls_of (es ++ fs)) (run (calls_of (es ++ fs)))), length-append a (activations (calls_of es) (run (calls_of es))))
