-- A setting that the small profile accepts: no call looks at the mark.
use mathlib.Core.Path.{◌≡◌, refl, ap, ◌∙◌}
use mathlib.Core.List.{List, [], ◌∷◌}
use Prim.Native.Nat.{ℕ}
use native.Mathlib.Omega.{arith}
use Rattle.rules.specs.declared.Setting.{Setting}
use Rattle.rules.specs.declared.Limits.{Limits}
use Rattle.rules.specs.Answers.{Refusal, none, refusal_number}
use Rattle.rules.specs.Setting.{with_mark, history_length, setting_refusal}
use Rattle.rules.specs.State.{State, too_short, fresh}
use Rattle.rules.specs.Clock.{turned}
use Rattle.rules.specs.History.{memory_ok}
use Rattle.rules.specs.Quota.{quota_even, in_flight_total}
use Rattle.rules.specs.Policy.{in_force}
use Rattle.rules.specs.Decision.{passes_at, wait_tick, decide, activated_threads, activated}
use Rattle.rules.specs.Calls.{Call, request, done, index, Outcome, Reply, setup, setup_refusal, call_refusal, done_refusal, requested, reported, index_shown, performed, refusal_of, unless_refused, step, replies, after}
use Rattle.profiles.specs.Claims.{Alike, SameDecisions}
use Rattle.profiles.proofs.Refusals.{passed_large}

module _ (m : Limits) (s : Setting) (seeds : List ℕ) where
  -- what a call does where it is not refused
  performed_same : (own : ℕ → List ℕ) (st : State) (c : Call) → performed (in_force m) (with_mark 0 s) own st c ≡ performed (in_force m) (with_mark 1 s) own st c
  unfolding history_length turned quota_even in_flight_total passes_at wait_tick decide activated_threads activated requested reported index_shown
  performed_same own st (request t b th r) = refl
  performed_same own st (done t b th) = refl
  performed_same own st (index t b th) = refl

  module _ (ok : setting_refusal m (with_mark 1 s) seeds ≡ none) where
    accepted : setting_refusal m (with_mark 0 s) seeds ≡ none
    accepted = passed_large m (with_mark 1 s) seeds (λ h. absurd (omega (arith, ap refusal_number ok)))

    -- refusals 6 to 10
    refusal_same : (st : State) (c : Call) → refusal_of m (with_mark 0 s) seeds st c ≡ refusal_of m (with_mark 1 s) seeds st c
    unfolding history_length too_short memory_ok call_refusal done_refusal
    refusal_same st (request t b th r) = rw (accepted, ok)
    refusal_same st (done t b th) = rw (accepted, ok)
    refusal_same st (index t b th) = rw (accepted, ok)

    setup_same : (st : State) → setup m (with_mark 0 s) seeds st ≡ setup m (with_mark 1 s) seeds st
    unfolding history_length too_short fresh setup_refusal setup
    setup_same st = rw (accepted, ok)

    step_same : (st : State) (c : Call) → step (in_force m) (with_mark 0 s) seeds st c ≡ step (in_force m) (with_mark 1 s) seeds st c
    unfolding step
    step_same st c =
        ap (λ (r : Refusal). unless_refused r st (performed (in_force m) (with_mark 0 s) (λ f. seeds) st c)) (refusal_same st c)
        ∙ ap (unless_refused (refusal_of m (with_mark 1 s) seeds st c) st) (performed_same (λ f. seeds) st c)

    replies_same : (st : State) (cs : List Call) → replies (in_force m) (with_mark 0 s) seeds st cs ≡ replies (in_force m) (with_mark 1 s) seeds st cs
    replies_same st [] = refl
    replies_same st (c ∷ cs) =
        let next : Outcome = step (in_force m) (with_mark 1 s) seeds st c in
        ap (λ (o : Outcome). o.reply ∷ replies (in_force m) (with_mark 0 s) seeds o.state cs) (step_same st c)
        ∙ ap (λ (rs : List Reply). next.reply ∷ rs) (replies_same next.state cs)

    after_same : (st : State) (cs : List Call) → after (in_force m) (with_mark 0 s) seeds st cs ≡ after (in_force m) (with_mark 1 s) seeds st cs
    after_same st [] = refl
    after_same st (c ∷ cs) =
        ap (λ (o : Outcome). after (in_force m) (with_mark 0 s) seeds o.state cs) (step_same st c)
        ∙ after_same (step (in_force m) (with_mark 1 s) seeds st c).state cs

    alike : Alike m s seeds
    alike = record { accepted = accepted; set_up = setup_same; call = step_same; replied = replies_same; left = after_same }

pub same_decisions : SameDecisions
same_decisions m s seeds ok = alike m s seeds ok
