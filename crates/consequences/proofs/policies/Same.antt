-- Two policies with the same limits on one state: where they reply alike they leave the same state, and where a record is the decision of
-- both they reply alike.
use mathlib.Core.Path.{◌≡◌, refl, sym, ap, ◌∙◌}
use mathlib.Core.List.{List, [], ◌∷◌}
use mathlib.Core.Bool.{Bool, true, false, cond}
use Prim.Native.Nat.{ℕ, zero, suc}
use native.Mathlib.Omega.{arith}
use lib.Dec.{eqb}
use Rattle.rules.specs.declared.Setting.{Setting}
use Rattle.rules.specs.declared.Cause.TheVariants.{Bank, Rank, Row}
use Rattle.rules.specs.declared.Decision.{Decision as Ruling}
use Rattle.rules.specs.declared.Decision.TheVariants.{Open, Hold, OverQuota}
use Rattle.rules.specs.Answers.{Refusal, refusal_number, answer_number, answer_wait}
use Rattle.rules.specs.State.{State}
use Rattle.rules.specs.Clock.{turned}
use Rattle.rules.specs.Hash.{places}
use Rattle.rules.specs.Policy.{Policy}
use Rattle.rules.specs.Decision.{decide, activated, openings_left, answer_of}
use Rattle.rules.specs.Calls.{Call, request, done, index, refused, answered, Outcome, after_decision, unless_refused, requested, reported, index_shown, performed, refusal_of, step, replies, after}
use Rattle.assurances.specs.Claims.{with_limits}
use Rattle.rules.proofs.Decisions.{same_decision}
use Rattle.log_format.specs.declared.Entry.{Entry}
use Rattle.log_format.specs.Contents.{call_of}
use Rattle.log_format.specs.Claims.{Decision}
use Rattle.consequences.proofs.policies.Lists.{same_first, same_others}

-- a decision from the number and the wait tick of its answer
decided_by : ℕ → ℕ → Ruling
decided_by zero u = Open
decided_by (suc zero) u = Hold Bank u
decided_by (suc (suc zero)) u = Hold Rank u
decided_by (suc (suc (suc zero))) u = Hold Row u
decided_by (suc (suc (suc (suc n)))) u = OverQuota

decided_back : (d : Ruling) (left : ℕ) → decided_by (answer_number (answer_of d left)) (answer_wait (answer_of d left)) ≡ d
unfolding decided_by
decided_back Open left = refl
decided_back (Hold Bank u) left = refl
decided_back (Hold Rank u) left = refl
decided_back (Hold Row u) left = refl
decided_back OverQuota left = refl

-- a record that claims the answers of two decisions claims the same one twice
ruling_same : (e : Entry) (c d : Ruling) (left : ℕ) → Decision e (answered (answer_of c left)) → Decision e (answered (answer_of d left)) → c ≡ d
ruling_same e c d left dc dd =
    let a = answer_of c left in
    let b = answer_of d left in
    let n : answer_number a ≡ answer_number b = sym dc.0 ∙ dd.0 in
    let u : answer_wait a ≡ answer_wait b = sym dc.1 ∙ dd.1 in
    sym (decided_back c left) ∙ ap (λ k. decided_by k (answer_wait a)) n ∙ ap (decided_by (answer_number b)) u ∙ decided_back d left

module _ (p other : Policy) (s : Setting) (seeds : List ℕ) where
  -- the other policy at the limits of the first
  abbrev q : Policy
  q = with_limits other p.limits

  -- a call that is refused or not, by a policy
  abbrev by : Policy → State → Call → Bool → Outcome
  by r st c answers = cond answers (performed r s (λ f. seeds) st c) (record { reply = refused (refusal_of p.limits s seeds st c); state = st })

  abbrev answers : State → Call → Bool
  answers st c = eqb (refusal_number (refusal_of p.limits s seeds st c)) 0

  -- ---- the state

  -- alike in their answers, two decisions leave the same of these two states
  decided_state : (c d : Ruling) (left : ℕ) (before opened : State) → answered (answer_of c left) ≡ answered (answer_of d left)
      → after_decision c before opened ≡ after_decision d before opened
  decided_state c d left before opened h =
      let e : answer_of c left ≡ answer_of d left = cc in
      ap (λ (z : Ruling). after_decision z before opened) (same_decision c d left left e)

  performed_state : (st : State) (c : Call) → (performed q s (λ f. seeds) st c).reply ≡ (performed p s (λ f. seeds) st c).reply
      → (performed q s (λ f. seeds) st c).state ≡ (performed p s (λ f. seeds) st c).state
  unfolding requested reported index_shown
  performed_state st (request t b th r) h =
      decided_state (decide q s (λ f. places seeds r) (turned s st t) b th r) (decide p s (λ f. places seeds r) (turned s st t) b th r) _
      (turned s st t) (activated s (λ f. places seeds r) (turned s st t) b th r) h
  performed_state st (done t b th) h = refl
  performed_state st (index t b th) h = refl

  pub step_state : (st : State) (c : Call) → (step q s seeds st c).reply ≡ (step p s seeds st c).reply → (step q s seeds st c).state ≡ (step p s seeds st c).state
  unfolding step unless_refused
  step_state st c h = go (answers st c) h
    where
      go : (b : Bool) → (by q st c b).reply ≡ (by p st c b).reply → (by q st c b).state ≡ (by p st c b).state
      go true k = performed_state st c k
      go false k = refl

  -- alike on a list of calls: the same state after it
  pub after_same : (st : State) (cs : List Call) → replies q s seeds st cs ≡ replies p s seeds st cs → after q s seeds st cs ≡ after p s seeds st cs
  after_same st [] h = refl
  after_same st (c ∷ cs) h =
      let oq = step q s seeds st c in
      let op = step p s seeds st c in
      let e = step_state st c (same_first oq.reply op.reply (replies q s seeds oq.state cs) (replies p s seeds op.state cs) h) in
      let rest = same_others oq.reply op.reply (replies q s seeds oq.state cs) (replies p s seeds op.state cs) h in
      ap (λ (z : State). after q s seeds z cs) e ∙ after_same op.state cs (ap (λ (z : State). replies q s seeds z cs) (sym e) ∙ rest)

  -- ---- a record

  -- what a record's call gives, by its kind
  abbrev asked : Entry → Bool → Call
  asked e k = cond k (request e.tick e.bank e.thread e.row) (done e.tick e.bank e.thread)

  -- where one policy's decision is a record, the other does not refuse it
  pub never_refuses : (st : State) (e : Entry) → Decision e (step p s seeds st (call_of e)).reply
      → (n : Refusal) → (step q s seeds st (call_of e)).reply ≡ refused n → ⊥
  unfolding step unless_refused requested reported
  never_refuses st e d n h = go (eqb e.kind 0) (answers st (call_of e)) d h
    where
      go : (k b : Bool) → Decision e (by p st (asked e k) b).reply → (by q st (asked e k) b).reply ≡ refused n → ⊥
      go k false x y = x
      go true true x y = let z : ◌≡◌ {A = ℕ} 0 1 = cc in omega arith
      go false true x y = let z : ◌≡◌ {A = ℕ} 0 1 = cc in omega arith

  -- where it is the decision of both, they reply alike
  pub decided_same : (st : State) (e : Entry) → Decision e (step p s seeds st (call_of e)).reply → Decision e (step q s seeds st (call_of e)).reply
      → (step q s seeds st (call_of e)).reply ≡ (step p s seeds st (call_of e)).reply
  unfolding step unless_refused requested reported
  decided_same st e d d' = go (eqb e.kind 0) (answers st (call_of e)) d d'
    where
      go : (k b : Bool) → Decision e (by p st (asked e k) b).reply → Decision e (by q st (asked e k) b).reply
          → (by q st (asked e k) b).reply ≡ (by p st (asked e k) b).reply
      go k false x y = refl
      go true true x y =
          let t = turned s st e.tick in
          let at : ℕ → List ℕ = λ f. places seeds e.row in
          let left = openings_left s at (activated s at t e.bank e.thread e.row) e.bank in
          ap (λ d. answered (answer_of d left))
          (ruling_same e (decide q s at t e.bank e.thread e.row) (decide p s at t e.bank e.thread e.row) left y x)
      go false true x y = refl
