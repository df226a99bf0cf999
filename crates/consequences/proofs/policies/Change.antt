-- A log that agrees under one policy, judged by another one with the same limits.
use mathlib.Core.Path.{◌≡◌, refl, sym, ap, ◌∙◌, subst}
use mathlib.Core.Logic.{◌≢◌, ◌⊎◌, inl, inr}
use mathlib.Core.List.{List, [], ◌∷◌, ◌++◌}
use mathlib.Core.Bool.{Bool, true, false}
use Prim.Native.Nat.{ℕ}
use native.Mathlib.Omega.{arith}
use lib.ListN.{length}
use Rattle.rules.specs.declared.Setting.{Setting}
use Rattle.rules.specs.State.{State, fresh}
use Rattle.rules.specs.Quota.{quota_down, quota_even, in_flight_here, in_flight_total}
use Rattle.rules.specs.Policy.{Policy, document01, narrow}
use Rattle.rules.specs.Calls.{Reply, refused, answered, finished, shown, Outcome, step, replies, after, activations}
use Rattle.assurances.specs.Claims.{with_limits}
use Rattle.log_format.specs.declared.Entry.{Entry}
use Rattle.log_format.specs.Contents.{call_of}
use Rattle.log_format.specs.Verdict.{agrees, judged, claims, memory, verdict}
use Rattle.log_format.specs.Claims.{calls_of, records_of, setting_of_log, seeds_of_log, rules_open, Decision, Decided, Faithful}
use Rattle.log_format.proofs.Records.{claims_true, true_claims, DecidedFrom, decided_append}
use Rattle.log_format.proofs.Agrees.{only_if, whenever}
use Rattle.consequences.specs.policies.Claims.{said_of, differs_after, FirstDifferent, Becomes, AfterChange, policy_of, AfterRounding, AfterTotal, SinceDocument01}
use Rattle.consequences.proofs.policies.Lists.{same_first, same_others, same_cons}
use Rattle.consequences.proofs.policies.Differs.{replies_last, differs_at_first}
use Rattle.consequences.proofs.policies.Same.{step_state, after_same, never_refuses, decided_same}

false_true : false ≡ true → ⊥
false_true h = let z : ◌≡◌ {A = ℕ} 0 1 = cc in omega arith

counts_same : (r r' o o' : ℕ) → r ≡ r' → o ≡ o' → judged r' o' agrees ≡ judged r o agrees
counts_same r r' o o' h k = cc

-- whether a record is a decision
data Decides (e : Entry) (r : Reply) : Type 0 where
  it_is : Decision e r → Decides e r
  it_is_not : (Decision e r → ⊥) → Decides e r

decides : (e : Entry) (r : Reply) → Decides e r
decides e (refused n) = it_is_not (λ d. d)
decides e (answered a) = go (claims e (answered a)) refl
  where
    go : (b : Bool) → claims e (answered a) ≡ b → Decides e (answered a)
    go true h = it_is (true_claims e (answered a) h)
    go false h = it_is_not (λ d. false_true (sym h ∙ claims_true e (answered a) d.0 d.1))
decides e finished = go (claims e finished) refl
  where
    go : (b : Bool) → claims e finished ≡ b → Decides e finished
    go true h = it_is (true_claims e finished h)
    go false h = it_is_not (λ d. false_true (sym h ∙ claims_true e finished d.0 d.1))
decides e (shown c d q) = it_is_not (λ d. d)

module _ (p other : Policy) where
  abbrev q : Policy
  q = with_limits other p.limits

  -- ---- the first record on which they decide differently

  module _ (s : Setting) (seeds : List ℕ) where
    -- e is the first of these records, from this state on, on which they decide differently
    abbrev Apart : State → List Entry → Entry → Type 0
    Apart st before e =
        (replies q s seeds st (calls_of before) ≡ replies p s seeds st (calls_of before))
        × (replies q s seeds st (calls_of (before ++ (e ∷ []))) ≢ replies p s seeds st (calls_of (before ++ (e ∷ []))))

    -- they reply alike to all of these records, or there is a first one on which they decide differently
    abbrev AlikeOrApart : State → List Entry → Type 0
    AlikeOrApart st es =
        (replies q s seeds st (calls_of es) ≡ replies p s seeds st (calls_of es))
        ⊎ ((before : List Entry) × (e : Entry) × (rest : List Entry) × (es ≡ before ++ (e ∷ rest)) × Apart st before e)

    -- one more record before, to which they reply alike
    apart_more : (st : State) (b : Entry) (before : List Entry) (e : Entry)
        → (step q s seeds st (call_of b)).reply ≡ (step p s seeds st (call_of b)).reply
        → Apart (step p s seeds st (call_of b)).state before e → Apart st (b ∷ before) e
    apart_more st b before e h a =
        let oq = step q s seeds st (call_of b) in
        let op = step p s seeds st (call_of b) in
        let k = step_state p other s seeds st (call_of b) h in
        let from : (es : List Entry) → replies q s seeds oq.state (calls_of es) ≡ replies q s seeds op.state (calls_of es) =
        λ es. ap (λ (z : State). replies q s seeds z (calls_of es)) k in (
          same_cons oq.reply op.reply _ _ h (from before ∙ a.0),
          λ x. a.1 (sym (from (before ++ (e ∷ []))) ∙ same_others oq.reply op.reply _ _ x),
        )

    alike_or_apart : (st : State) (es : List Entry) → DecidedFrom p s seeds st es → AlikeOrApart st es
    alike_or_apart st [] d = inl refl
    alike_or_apart st (e ∷ es) d = go (decides e oq.reply) (alike_or_apart op.state es d.1)
      where
        oq : Outcome
        oq = step q s seeds st (call_of e)

        op : Outcome
        op = step p s seeds st (call_of e)

        go : Decides e oq.reply → AlikeOrApart op.state es → AlikeOrApart st (e ∷ es)
        go (it_is d') (inl alike) =
            let h = decided_same p other s seeds st e d.0 d' in
            inl (same_cons oq.reply op.reply _ _ h (ap (λ (z : State). replies q s seeds z (calls_of es)) (step_state p other s seeds st (call_of e) h) ∙ alike))
        go (it_is d') (inr (before, f, rest, x, a)) =
            let h = decided_same p other s seeds st e d.0 d' in
            inr (e ∷ before, f, rest, ap (λ (z : List Entry). e ∷ z) x, apart_more st e before f h a)
        go (it_is_not n) found =
            inr ([], e, es, refl, (refl, λ x. n (subst (Decision e) (sym (same_first oq.reply op.reply [] [] x)) d.0)))

  -- ---- the log

  becomes : (bytes : List ℕ) (r o : ℕ) → verdict p bytes ≡ judged r o agrees → Becomes p q bytes r o
  becomes bytes r o h = record { differing = differing; agreeing = λ none. decided none found_or_not; either = either found_or_not }
    where
      s : Setting
      s = setting_of_log bytes

      seeds : List ℕ
      seeds = seeds_of_log bytes

      st : State
      st = fresh s (memory p.limits)

      found : Faithful p bytes
          × (r ≡ length (records_of bytes))
          × (o ≡ rules_open p s seeds (records_of bytes))
      found = only_if p bytes r o h

      f : Faithful p bytes
      f = found.0

      differing : (before rest : List Entry) (e : Entry) → records_of bytes ≡ before ++ (e ∷ rest) → FirstDifferent p q bytes before e
          → verdict q bytes ≡ differs_after q bytes before e
      differing before rest e k a =
          let d = (decided_append p s seeds st before (e ∷ rest)).0 (subst (DecidedFrom p s seeds st) k f.decided) in
          let here = after p s seeds st (calls_of before) in
          let there : after q s seeds st (calls_of before) ≡ here = after_same p other s seeds st (calls_of before) a.alike in
          let rq = (step q s seeds here (call_of e)).reply in
          let rp = (step p s seeds here (call_of e)).reply in
          let last-q : said_of q bytes (before ++ (e ∷ [])) ≡ said_of q bytes before ++ (rq ∷ []) =
          replies_last q s seeds st before e ∙ ap (λ (z : State). said_of q bytes before ++ ((step q s seeds z (call_of e)).reply ∷ [])) there in
          let last-p : said_of p bytes (before ++ (e ∷ [])) ≡ said_of p bytes before ++ (rp ∷ []) = replies_last p s seeds st before e in
          let apart : rq ≢ rp = λ x. a.apart (last-q ∙ ap (λ (rs : List Reply). rs ++ (rq ∷ [])) a.alike ∙ ap (λ (z : Reply). said_of p bytes before ++ (z ∷ [])) x ∙ sym last-p) in
          differs_at_first q bytes f.well_formed f.accepted before rest e k (subst (Decided before) (sym a.alike) d.0) rq last-q
          (never_refuses p other s seeds here e d.1.0)
          (λ d'. apart (decided_same p other s seeds here e d.1.0 d'))

      found_or_not : AlikeOrApart s seeds st (records_of bytes)
      found_or_not = alike_or_apart s seeds st (records_of bytes) f.decided

      agreeing : said_of q bytes (records_of bytes) ≡ said_of p bytes (records_of bytes) → verdict q bytes ≡ judged r o agrees
      agreeing same =
          whenever q bytes (record { well_formed = f.well_formed; accepted = f.accepted; decided = subst (Decided (records_of bytes)) (sym same) f.decided })
          ∙ ap (λ (rs : List Reply). judged (length (records_of bytes)) (length (activations (calls_of (records_of bytes)) rs)) agrees) same
          ∙ counts_same _ _ _ _ found.1 found.2

      decided : ((before rest : List Entry) (e : Entry) → records_of bytes ≡ before ++ (e ∷ rest) → FirstDifferent p q bytes before e → ⊥)
          → AlikeOrApart s seeds st (records_of bytes) → verdict q bytes ≡ judged r o agrees
      decided none (inl same) = agreeing same
      decided none (inr (before, e, rest, x, a)) = absurd (none before rest e x (record { alike = a.0; apart = a.1 }))

      either : AlikeOrApart s seeds st (records_of bytes)
          → (verdict q bytes ≡ judged r o agrees)
          ⊎ ((before : List Entry) × (e : Entry) × (rest : List Entry) × (records_of bytes ≡ before ++ (e ∷ rest)) × FirstDifferent p q bytes before e)
      either (inl same) = inl (agreeing same)
      either (inr (before, e, rest, x, a)) = inr (before, e, rest, x, record { alike = a.0; apart = a.1 })

-- a policy is what it is at its own limits
own_limits : (p q : Policy) → p.limits ≡ q.limits → with_limits q p.limits ≡ q
own_limits p q e = λ i. record { limits = e i; quota = q.quota; in_flight = q.in_flight }

pub after_change : (p q : Policy) → AfterChange p q
after_change p q e bytes r o h = subst (λ (x : Policy). Becomes p x bytes r o) (own_limits p q e) (becomes p q bytes r o h)

pub after_rounding : AfterRounding
after_rounding m flying = after_change (policy_of m quota_down flying) (policy_of m quota_even flying) refl

pub after_total : AfterTotal
after_total m quota = after_change (policy_of m quota in_flight_here) (policy_of m quota in_flight_total) refl

pub since_document01 : SinceDocument01
since_document01 = after_change document01 narrow refl
