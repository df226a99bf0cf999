-- A done that passes refusals 1 to 9 and 16 is refused with 10 exactly if the named bank has none of the thread's requests, and else lowers the total.
use mathlib.Core.Path.{◌≡◌, refl, sym, ap, ◌∙◌}
use mathlib.Core.List.{List}
use mathlib.Core.Bool.{Bool, true, false}
use Prim.Native.Nat.{ℕ, ◌+◌, ◌<◌}
use native.Mathlib.Omega.{arith}
use lib.Dec.{eqb, eqb→eq}
use borrow.Author.Tests.{eq-eqb, ne_eqb}
use Rattle.rules.specs.declared.Setting.{Setting}
use Rattle.rules.specs.Answers.{none, none_in_flight}
use Rattle.rules.specs.State.{State}
use Rattle.rules.specs.Quota.{in_flight_here, in_flight_total}
use Rattle.rules.specs.Policy.{Policy}
use Rattle.rules.specs.Calls.{done, refused, finished, return_code, call_refusal, done_refusal, unless_refused, reported, step}
use Rattle.rules.specs.Cells.{more}
use Rattle.rules.proofs.Tests.{holds, fails}
use Rattle.rules.proofs.Accept.{not_zero, taken}
use Rattle.consequences.specs.in_flight.Claims.{is_done_of, DoneByBank}
use Rattle.consequences.proofs.in_flight.Counts.{step_moved}

module _ (p : Policy) (s : Setting) (seeds : List ℕ) (st : State) (t bank thread : ℕ) (e : call_refusal p.limits s seeds st t bank thread ≡ none) where
  abbrev here : ℕ
  here = in_flight_here s st.threads bank thread

  none_here : here ≡ 0 → (step p s seeds st (done t bank thread)).reply ≡ refused none_in_flight
  unfolding step unless_refused done_refusal
  none_here z = rw (e, z)

  some_here : 0 < here → (step p s seeds st (done t bank thread)).reply ≡ finished
  unfolding step unless_refused done_refusal reported
  some_here h = rw (e, ne_eqb here 0 (λ z. omega arith))

  only_then : (step p s seeds st (done t bank thread)).reply ≡ refused none_in_flight → here ≡ 0
  only_then r = go (eqb here 0) refl
    where
      go : (q : Bool) → eqb here 0 ≡ q → here ≡ 0
      go true k = eqb→eq here 0 (holds (eqb here 0) k)
      go false k = absurd (omega (arith, ap return_code (sym r ∙ some_here (not_zero here (fails (eqb here 0) k)))))

  lowers : (step p s seeds st (done t bank thread)).reply ≡ finished
      → in_flight_total s (step p s seeds st (done t bank thread)).state.threads bank thread + 1 ≡ in_flight_total s st.threads bank thread
  lowers r =
      let k = taken p.limits s seeds st t bank thread e in
      let one : more (is_done_of thread (done t bank thread) finished) 0 ≡ 1 = ap (λ b. more b 0) (eq-eqb thread thread refl) in
      let moved = step_moved p s seeds bank thread k.thread_in st (done t bank thread) in
      omega (arith, rw r at moved, one)

pub done_by_bank : (p : Policy) → DoneByBank p
done_by_bank p s seeds st t bank thread e =
    record {
      none_here = none_here p s seeds st t bank thread e;
      only_then = only_then p s seeds st t bank thread e;
      some_here = some_here p s seeds st t bank thread e;
      lowers = lowers p s seeds st t bank thread e;
    }
