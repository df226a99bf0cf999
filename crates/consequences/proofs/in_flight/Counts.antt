-- The total gains the thread's openings and loses its dones, call by call and so over every list, one with a change-over too.
use mathlib.Core.Path.{◌≡◌, refl, sym, ◌∙◌}
use mathlib.Core.List.{List, [], ◌∷◌}
use mathlib.Core.Bool.{Bool, true, false}
use Prim.Native.Nat.{ℕ, ◌+◌, ◌-◌, ◌≤◌, ◌<◌}
use native.Mathlib.Omega.{arith}
use native.Mathlib.Decide.{ℕ_discrete}
use lib.Dec.{ltb, eqb, lt→ltb}
use lib.ListN.{length, set}
use borrow.Author.Tests.{eq-eqb, ne_eqb}
use Rattle.rules.specs.declared.Setting.{Setting}
use Rattle.rules.specs.declared.Decision.{Decision}
use Rattle.rules.specs.declared.Decision.TheVariants.{Open, Hold, OverQuota}
use Rattle.rules.specs.Cells.{more}
use Rattle.rules.specs.Answers.{Refusal, none}
use Rattle.rules.specs.State.{State, threads_used, thread_cell, fresh}
use Rattle.rules.specs.Clock.{turned}
use Rattle.rules.specs.Hash.{places}
use Rattle.rules.specs.Filter.{blacklisted}
use Rattle.rules.specs.Quota.{in_flight_here, in_flight_total}
use Rattle.rules.specs.Policy.{Policy, narrow, wide}
use Rattle.rules.specs.Decision.{active_estimate, decide, activated, openings_left, answer_of}
use Rattle.rules.specs.Tested.{Taken}
use Rattle.rules.specs.Calls.{Call, request, done, index, refused, answered, Outcome, outcome, after_decision, requested, reported, index_shown, refusal_of, performed, step, replies, after, activation_of, activations}
use Rattle.rules.proofs.Accept.{not_zero, done_taken, call_taken}
use Rattle.rules.proofs.Clearing.{clear_zero}
use Rattle.rules.proofs.Counting.{count_append}
use Rattle.rules.proofs.Memory.{turned_long}
use Rattle.rules.proofs.Step.{by_refusal}
use Rattle.rules.proofs.Sums.{total_none}
use Rattle.widths.specs.ChangeOver.{changed_state}
use Rattle.consequences.specs.in_flight.Claims.{is_done_of, dones_of, openings_of, TotalMoves, TotalCounts, TotalCountsOver}
use Rattle.consequences.proofs.in_flight.Cells.{turned_here, turned_total, other_total, more_total, less_total, activated_total}

-- one more or none, as a sum
more_sum : (b : Bool) (n : ℕ) → more b n ≡ more b 0 + n
more_sum true n = omega arith
more_sum false n = omega arith

module _ (s : Setting) (ts : List ℕ) (b th : ℕ) (bh : b < s.banks) (thh : th < s.threads) (long : threads_used s ≤ length ts) (bank thread : ℕ) (h : thread < s.threads) where
  -- a count stored with one more gives the thread's total one more, and no other's
  opened_total : in_flight_total s (set ts (thread_cell s b th 2) (in_flight_here s ts b th + 1)) bank thread ≡ in_flight_total s ts bank thread + more (eqb th thread) 0
  opened_total = go (ℕ_discrete th thread)
    where
      v : ℕ
      v = in_flight_here s ts b th + 1

      go : Dec (th ≡ thread) → in_flight_total s (set ts (thread_cell s b th 2) v) bank thread ≡ in_flight_total s ts bank thread + more (eqb th thread) 0
      go (yes e) = rw (← e, eq-eqb th th refl) (more_total s ts b th v thh bh long bank refl)
      go (no n) = rw (ne_eqb th thread n) (other_total s ts b th v thh bank thread h (λ e. n (sym e)) ∙ omega arith)

  -- and with one less, where there is one
  done_total : 1 ≤ in_flight_here s ts b th
      → in_flight_total s (set ts (thread_cell s b th 2) (in_flight_here s ts b th - 1)) bank thread + more (eqb th thread) 0 ≡ in_flight_total s ts bank thread
  done_total some = go (ℕ_discrete th thread)
    where
      v : ℕ
      v = in_flight_here s ts b th - 1

      go : Dec (th ≡ thread) → in_flight_total s (set ts (thread_cell s b th 2) v) bank thread + more (eqb th thread) 0 ≡ in_flight_total s ts bank thread
      go (yes e) = rw (← e, eq-eqb th th refl) (sym (less_total s ts b th v thh bh long bank (omega arith)))
      go (no n) = rw (ne_eqb th thread n) (omega (arith, other_total s ts b th v thh bank thread h (λ e. n (sym e))))

-- an activation gives its thread's total one more, and no other's
pub activated_moved : (s : Setting) (at : ℕ → List ℕ) (st : State) (b th r bank thread : ℕ) → b < s.banks → th < s.threads → threads_used s ≤ length st.threads
    → thread < s.threads
    → in_flight_total s (activated s at st b th r).threads bank thread ≡ in_flight_total s st.threads bank thread + more (eqb th thread) 0
unfolding activated
activated_moved s at st b th r bank thread bh thh long h =
    activated_total s st.threads b th bank thread (blacklisted s.n (active_estimate s at st b))
    ∙ opened_total s st.threads b th bh thh long bank thread h

-- ---- one call

module _ (p : Policy) (s : Setting) (seeds : List ℕ) (bank thread : ℕ) (h : thread < s.threads) where
  abbrev total : State → ℕ
  total st = in_flight_total s st.threads bank thread

  -- what a call from this state gains and loses
  abbrev Moved : State → Call → Outcome → Type 0
  Moved st c o = total o.state + more (is_done_of thread c o.reply) 0 ≡ total st + openings_of thread (activation_of c o.reply)

  refused_moved : (st : State) (c : Call) (r : Refusal) → Moved st c (outcome (refused r) st)
  refused_moved st (request t b th x) r = refl
  refused_moved st (done t b th) r = refl
  refused_moved st (index t b th) r = refl

  request_moved : (st : State) (t b th r : ℕ) → Taken p.limits s seeds st t b th → Moved st (request t b th r) (performed p s (λ f. seeds) st (request t b th r))
  unfolding requested
  request_moved st t b th r k = go (decide p s at x b th r)
    where
      at : ℕ → List ℕ
      at f = places seeds r

      x : State
      x = turned s st t

      kept : total (turned s st t) ≡ total st
      kept = turned_total s st t bank thread

      go : (d : Decision) → Moved st (request t b th r) (outcome (answered (answer_of d (openings_left s at (activated s at x b th r) b))) (after_decision d x (activated s at x b th r)))
      go Open =
          omega (arith, activated_moved s at x b th r bank thread k.bank_in k.thread_in (turned_long s st t k.long).threads h, kept)
      go (Hold c u) = omega (arith, kept)
      go OverQuota = omega (arith, kept)

  done_moved : (st : State) (t b th : ℕ) → Taken p.limits s seeds st t b th → 0 < in_flight_here s st.threads b th
      → Moved st (done t b th) (performed p s (λ f. seeds) st (done t b th))
  unfolding reported
  done_moved st t b th k some =
      let x = turned s st t in
      let here : in_flight_here s x.threads b th ≡ in_flight_here s st.threads b th = turned_here s st t b th in
      omega (
        arith,
        done_total s x.threads b th k.bank_in k.thread_in (turned_long s st t k.long).threads bank thread h (omega arith),
        turned_total s st t bank thread,
      )

  -- every call that is not refused
  pub performed_moved : (st : State) (c : Call) → refusal_of p.limits s seeds st c ≡ none → Moved st c (performed p s (λ f. seeds) st c)
  unfolding index_shown
  performed_moved st (request t b th r) e = request_moved st t b th r (call_taken p.limits s seeds st (request t b th r) e)
  performed_moved st (done t b th) e =
      done_moved st t b th (call_taken p.limits s seeds st (done t b th) e)
      (not_zero (in_flight_here s st.threads b th) (done_taken p.limits s seeds st t b th e).1)
  performed_moved st (index t b th) e = omega (arith, turned_total s st t bank thread)

  pub step_moved : (st : State) (c : Call) → Moved st c (step p s seeds st c)
  unfolding step
  step_moved st c =
      by_refusal (Moved st c) (refusal_of p.limits s seeds st c) st (performed p s (λ f. seeds) st c)
      (performed_moved st c) (refused_moved st c (refusal_of p.limits s seeds st c))

  -- ---- a list of calls

  pub run_moved : (cs : List Call) (st : State)
      → total (after p s seeds st cs) + dones_of thread cs (replies p s seeds st cs) ≡ total st + openings_of thread (activations cs (replies p s seeds st cs))
  run_moved [] st = refl
  run_moved (c ∷ cs) st =
      let o = step p s seeds st c in
      let rs = replies p s seeds o.state cs in
      omega (
        arith,
        step_moved st c,
        run_moved cs o.state,
        more_sum (is_done_of thread c o.reply) (dones_of thread cs rs),
        count_append (λ x. eqb x.thread thread) (activation_of c o.reply) (activations cs rs),
      )

pub total_moves : (p : Policy) → TotalMoves p
total_moves p s seeds st cs bank thread h = run_moved p s seeds bank thread h cs st

-- none is in flight after set-up
pub fresh_none : (s : Setting) (before : State) (bank thread : ℕ) → thread < s.threads → in_flight_total s (fresh s before).threads bank thread ≡ 0
unfolding fresh
fresh_none s before bank thread h =
    total_none s (fresh s before).threads bank thread h
    (λ i k. clear_zero (λ j. ltb j (threads_used s)) i before.threads (lt→ltb i (threads_used s) k))

pub total_counts : (p : Policy) → TotalCounts p
total_counts p s seeds before up cs bank thread h =
    omega (arith, run_moved p s seeds bank thread h cs (fresh s before), fresh_none s before bank thread h)

-- the change-over keeps the thread counters, so the total goes on from what the old-width calls left
pub total_counts_over : TotalCountsOver
total_counts_over s seeds before up earlier new e later bank thread h =
    let end = after narrow s seeds (fresh s before) earlier in
    let taken = changed_state s seeds end new in
    omega (
      arith,
      total_counts narrow s seeds before up earlier bank thread h,
      run_moved wide s seeds bank thread h later taken,
      count_append (λ x. eqb x.thread thread) (activations earlier (replies narrow s seeds (fresh s before) earlier)) (activations later (replies wide s seeds taken later)),
    )
