-- Under the rules in force a thread's total is never above Q: only an opening raises it, and one is made only where the total is below the quota.
use mathlib.Core.Path.{◌≡◌, refl, ap, subst}
use mathlib.Core.List.{List, [], ◌∷◌}
use Prim.Native.Nat.{ℕ, ◌≤◌, ◌<◌}
use native.Mathlib.Omega.{arith}
use native.Mathlib.Decide.{ℕ_discrete}
use lib.Dec.{eqb, ltb→lt}
use borrow.Author.Tests.{eq-eqb, ne_eqb}
use Rattle.rules.specs.declared.Setting.{Setting}
use Rattle.rules.specs.declared.Limits.{Limits}
use Rattle.rules.specs.declared.Decision.{Decision}
use Rattle.rules.specs.declared.Decision.TheVariants.{Open, Hold, OverQuota}
use Rattle.rules.specs.Cells.{more}
use Rattle.rules.specs.Answers.{none}
use Rattle.rules.specs.Setting.{index_scale}
use Rattle.rules.specs.State.{State, fresh}
use Rattle.rules.specs.Clock.{active_filter, turned}
use Rattle.rules.specs.Hash.{places}
use Rattle.rules.specs.Quota.{quota_even, in_flight_total, index_counter}
use Rattle.rules.specs.Policy.{Policy, limits01, limits02, in_force, narrow}
use Rattle.rules.specs.Decision.{decide, activated}
use Rattle.rules.specs.Tested.{Taken}
use Rattle.rules.specs.Calls.{Call, request, done, index, after_decision, requested, reported, index_shown, refusal_of, performed, step, after}
use Rattle.rules.proofs.Accept.{scale_pos, call_taken}
use Rattle.rules.proofs.Memory.{turned_long}
use Rattle.rules.proofs.Regular.{quota_most}
use Rattle.rules.proofs.Step.{opened_rules, by_refusal}
use Rattle.widths.specs.ChangeOver.{changed_state}
use Rattle.consequences.specs.in_flight.Claims.{AtMostQ, AtMostQOver}
use Rattle.consequences.proofs.in_flight.Cells.{turned_total}
use Rattle.consequences.proofs.in_flight.Counts.{activated_moved, performed_moved, fresh_none}

module _ (m : Limits) (s : Setting) (seeds : List ℕ) (bank thread : ℕ) (h : thread < s.threads) where
  abbrev p : Policy
  p = in_force m

  abbrev total : State → ℕ
  total st = in_flight_total s st.threads bank thread

  -- a request that is opened has its thread's total below Q
  below_q : (at : ℕ → List ℕ) (st : State) (b r : ℕ) → 1 ≤ index_scale s → decide p s at st b thread r ≡ Open → total st < s.q
  unfolding in_flight_total
  below_q at st b r pos e =
      let c = index_counter s st.threads b thread (active_filter s st.head.last) in
      omega (arith, ltb→lt (in_flight_total s st.threads b thread) (quota_even s c) (opened_rules p s at st b thread r e).0, quota_most s c pos)

  request_most : (st : State) (t b th r : ℕ) → Taken m s seeds st t b th → total st ≤ s.q → total (performed p s (λ f. seeds) st (request t b th r)).state ≤ s.q
  unfolding requested
  request_most st t b th r k low = go (decide p s at x b th r) refl
    where
      at : ℕ → List ℕ
      at f = places seeds r

      x : State
      x = turned s st t

      kept : total (turned s st t) ≡ total st
      kept = turned_total s st t bank thread

      -- the thread that opens, or another
      opens : Dec (th ≡ thread) → decide p s at x b th r ≡ Open → total (activated s at x b th r) ≤ s.q
      opens (yes q) e =
          let one : more (eqb th thread) 0 ≡ 1 = ap (λ z. more z 0) (eq-eqb th thread q) in
          omega (
            arith,
            activated_moved s at x b th r bank thread k.bank_in k.thread_in (turned_long s st t k.long).threads h,
            one,
            below_q at x b r (omega (arith, scale_pos k.setting)) (subst (λ z. decide p s at x b z r ≡ Open) q e),
          )
      opens (no n) e =
          let none_more : more (eqb th thread) 0 ≡ 0 = ap (λ z. more z 0) (ne_eqb th thread n) in
          omega (arith, activated_moved s at x b th r bank thread k.bank_in k.thread_in (turned_long s st t k.long).threads h, none_more, kept)

      go : (a : Decision) → decide p s at x b th r ≡ a → total (after_decision a x (activated s at x b th r)) ≤ s.q
      go Open e = opens (ℕ_discrete th thread) e
      go (Hold c u) e = omega (arith, kept)
      go OverQuota e = omega (arith, kept)

  performed_most : (st : State) (c : Call) → refusal_of m s seeds st c ≡ none → total st ≤ s.q → total (performed p s (λ f. seeds) st c).state ≤ s.q
  unfolding reported index_shown
  performed_most st (request t b th r) e low = request_most st t b th r (call_taken m s seeds st (request t b th r) e) low
  performed_most st (done t b th) e low = omega (arith, performed_moved p s seeds bank thread h st (done t b th) e)
  performed_most st (index t b th) e low = omega (arith, performed_moved p s seeds bank thread h st (index t b th) e)

  run_most : (cs : List Call) (st : State) → total st ≤ s.q → total (after p s seeds st cs) ≤ s.q
  unfolding step
  run_most [] st low = low
  run_most (c ∷ cs) st low =
      run_most cs (step p s seeds st c).state
      (by_refusal (λ o. total o.state ≤ s.q) (refusal_of m s seeds st c) st (performed p s (λ f. seeds) st c) (λ e. performed_most st c e low) low)

pub at_most_q : (m : Limits) → AtMostQ (in_force m)
at_most_q m s seeds before up cs bank thread h =
    run_most m s seeds bank thread h cs (fresh s before) (omega (arith, fresh_none s before bank thread h))

pub at_most_q_over : AtMostQOver
at_most_q_over s seeds before up earlier new e later bank thread h =
    let taken = changed_state s seeds (after narrow s seeds (fresh s before) earlier) new in
    run_most limits02 s seeds bank thread h later taken (at_most_q limits01 s seeds before up earlier bank thread h)
