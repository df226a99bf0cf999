-- What the calls for Rattle callers tell, refused or not.
use Prim.Native.Nat.{ℕ}
use mathlib.Core.Path.{◌≡◌, refl, sym, ap, ◌∙◌}
use mathlib.Core.List.{List}
use mathlib.Core.Bool.{Bool, true, false, true≢false}
use Rattle.std.specs.Prelude.{Result, Ok, Err, IsErr, IsErrAnd, slice_index, ◌==◌}
use Rattle.head.specs.declared.Head.{Head}
use Rattle.head.specs.Head.{moved_head}
use Rattle.rules.specs.declared.Setting.{Setting}
use Rattle.rules.specs.declared.Limits.{Limits}
use Rattle.rules.specs.declared.Answer.{Answer}
use Rattle.rules.specs.Answers as rules
use Rattle.rules.specs.Answers.{none, none_in_flight, short_buffer, refusal_number, refuse}
use Rattle.rules.specs.Setting.{setting_refusal}
use Rattle.rules.specs.State.{State, counters_used, threads_used, thread_cell, state, too_short, fresh}
use Rattle.rules.specs.Clock.{epoch, turned_counters, turned_threads, turned}
use Rattle.rules.specs.History.{memory_ok}
use Rattle.rules.specs.Policy.{limits01, narrow}
use Rattle.rules.specs.Tested.{Taken, Sound}
use Rattle.rules.specs.Calls.{answered, finished, return_code, Outcome, outcome, setup, setup_refusal, call_refusal, done_refusal, unless_refused, one_less}
use Rattle.rules.specs.Calls.{reported, done, step}
use Rattle.rules.proofs.Tests.{is_true}
use Rattle.rules.proofs.Accept.{or_else_none, set_up_lem}
use Rattle.rules.proofs.Memory.{memory_ok_lem, taken_memory, turned_long, reported_long}
use Rattle.rules.proofs.Step.{unless_taken, unless_refused_lem}
use Rattle.rules.proofs.Sound.{long_not_short, fresh_sound}
use Rattle.hash_rules.specs.Words.{TableFor}
use Rattle.refused.specs.declared.Refusal.{Refusal}
use Rattle.refused.specs.Numbers.{number_of, code_of}
use Rattle.refused.specs.Passed.{passed}
use Rattle.refused.proofs.Laws.{code_passed, passed_err, passed_ok}
use Rattle.refusal.specs.Tests.{place_refusal}
use Rattle.sound.specs.Told.{table_of, Begun, Told, Over}

-- ---- refusals on a state that passed the tests

-- only 8 and 9 are left
pub place_only : (m : Limits) (s : Setting) (seeds : List ℕ) (st : State) → setting_refusal m s seeds ≡ none → Sound s st
    → (tick bank thread : ℕ) → call_refusal m s seeds st tick bank thread ≡ place_refusal s st.head.last tick bank thread
unfolding call_refusal place_refusal
place_only m s seeds st accepted ok tick bank thread = rw (accepted, long_not_short s st ok.long, is_true (memory_ok s st) (memory_ok_lem s st ok.ok))

-- the number of what is given back is that of the refusal
number_up : (r : rules.Refusal) (x y : Refusal) → passed r ≡ Err x → y ≡ x → number_of y ≡ refusal_number r
number_up r x y e h = ap number_of h ∙ sym (ap code_of e) ∙ code_passed r

-- ---- set-up

-- nothing is said of the seeds where set-up is refused
pub no_table : (seeds : List ℕ) (back : Result Bool Refusal) (P : Refusal → Type 0) → IsErrAnd back P → TableFor (table_of back) seeds
no_table seeds (Ok table) P h = absurd h
no_table seeds (Err y) P h = λ e. absurd (true≢false (sym e))

module _ (s : Setting) (seeds : List ℕ) (st : State) where
  abbrev r : rules.Refusal
  r = setup_refusal limits01 s seeds st

  pub begun_refused : (back : Result Bool Refusal) (x : Refusal) → passed r ≡ Err x → IsErrAnd back (λ y. y ≡ x)
      → Begun s seeds back st (setup limits01 s seeds st)
  unfolding setup
  begun_refused (Ok table) x e h = absurd h
  begun_refused (Err y) x e h =
      let u = unless_refused_lem r st (outcome finished (fresh s st)) (passed_err r x e) in
      record { code_is = rw u (number_up r x y e h); finished_is = tt; state_is = rw u refl; accepted = tt; sound = tt }

  pub begun_taken : (table : Bool) (z : State) → r ≡ none → z ≡ fresh s st → Begun s seeds (Ok table) z (setup limits01 s seeds st)
  unfolding setup setup_refusal
  begun_taken table z e ez =
      let u = unless_taken r st (outcome finished (fresh s st)) (ap refusal_number e) in
      record {
        code_is = rw u refl;
        finished_is = rw u refl;
        state_is = rw u ez;
        accepted = (or_else_none (setting_refusal limits01 s seeds) (refuse (too_short s st) short_buffer none) e).0;
        sound = rw ez (fresh_sound limits01 s seeds st (set_up_lem limits01 s seeds st e));
      }

-- ---- a request

module _ (s : Setting) (r : rules.Refusal) (st : State) where
  pub told_refused : (o : Outcome) (back : Result Answer Refusal) (x : Refusal) → passed r ≡ Err x → IsErrAnd back (λ y. y ≡ x) → Sound s st
      → Told s back st (unless_refused r st o)
  told_refused o (Ok a) x e h ok = absurd h
  told_refused o (Err y) x e h ok =
      let u = unless_refused_lem r st o (passed_err r x e) in
      record { code_is = rw u (number_up r x y e h); answer_is = tt; state_is = rw u refl; sound = ok }

  pub told_taken : (o : Outcome) (a : Answer) (z : State) → r ≡ none → outcome (answered a) z ≡ o → Sound s z → Told s (Ok a) z (unless_refused r st o)
  told_taken o a z e eo ok =
      let u = unless_taken r st o (ap refusal_number e) ∙ sym eo in
      record { code_is = rw u refl; answer_is = rw u refl; state_is = rw u refl; sound = ok }

  -- ---- a done

  pub over_refused_lem : (o : Outcome) (back : Result (Unit {0}) Refusal) (x : Refusal) → passed r ≡ Err x → IsErrAnd back (λ y. y ≡ x) → Sound s st
      → Over s back st (unless_refused r st o)
  over_refused_lem o (Ok a) x e h ok = absurd h
  over_refused_lem o (Err y) x e h ok =
      let u = unless_refused_lem r st o (passed_err r x e) in
      record { code_is = rw u (number_up r x y e h); finished_is = tt; state_is = rw u refl; sound = ok }

  pub over_taken : (o : Outcome) (u : Unit {0}) (z : State) → r ≡ none → outcome finished z ≡ o → Sound s z → Over s (Ok u) z (unless_refused r st o)
  over_taken o u z e eo ok =
      let w = unless_taken r st o (ap refusal_number e) ∙ sym eo in
      record { code_is = rw w refl; finished_is = rw w refl; state_is = rw w refl; sound = ok }

-- ---- a done where bank, thread and tick pass: only 10 is left

number_left : (zero : Bool) (st : State) (o : Outcome) → return_code o.reply ≡ 0
    → return_code (unless_refused (refuse zero none_in_flight none) st o).reply ≡ code_of (passed (refuse zero none_in_flight none))
unfolding unless_refused
number_left true st o e = refl
number_left false st o e = e

state_left : (zero : Bool) (st : State) (o : Outcome) → IsErr (passed (refuse zero none_in_flight none))
    → (unless_refused (refuse zero none_in_flight none) st o).state ≡ st
unfolding unless_refused
state_left true st o e = refl
state_left false st o e = absurd (true≢false (sym e))

module _ (s : Setting) (seeds : List ℕ) (st : State) (tick bank thread : ℕ) (accepted : setting_refusal limits01 s seeds ≡ none) (ok : Sound s st)
    (place : passed (place_refusal s st.head.last tick bank thread) ≡ Ok tt) where
  abbrev flying : Result (Unit {0}) Refusal
  flying = passed (refuse (slice_index st.threads (thread_cell s bank thread 2) == 0) none_in_flight none)

  asked : call_refusal limits01 s seeds st tick bank thread ≡ none
  asked = passed_ok _ tt (ap passed (place_only limits01 s seeds st accepted ok tick bank thread) ∙ place)

  -- the number is that of the test of what is in flight
  pub done_number : return_code (step narrow s seeds st (done tick bank thread)).reply ≡ code_of flying
  unfolding step done_refusal reported
  done_number = rw asked (number_left _ st (reported s (turned s st tick) bank thread) refl)

  -- where that test refuses, the state stands
  pub done_stands : IsErr flying → (step narrow s seeds st (done tick bank thread)).state ≡ st
  unfolding step done_refusal
  done_stands refused = rw asked (state_left _ st (reported s (turned s st tick) bank thread) refused)

-- the state after a done, from its parts
pub done_parts : (s : Setting) (st : State) (tick bank thread : ℕ) (h : Head) (counters threads : List ℕ)
    → h ≡ moved_head st.head tick
    → counters ≡ turned_counters (counters_used s) (epoch s st.head.last) (epoch s tick) st.counters
    → threads ≡ one_less s bank thread (turned_threads (threads_used s) (epoch s st.head.last) (epoch s tick) st.threads)
    → outcome finished (state h counters st.ticks st.rows threads) ≡ reported s (turned s st tick) bank thread
unfolding reported turned
done_parts s st tick bank thread h counters threads e1 e2 e3 =
    λ i. outcome finished (state (e1 i) (e2 i) st.ticks st.rows (e3 i))

pub done_sound : (m : Limits) (s : Setting) (seeds : List ℕ) (st : State) (tick bank thread : ℕ) → Taken m s seeds st tick bank thread
    → Sound s (reported s (turned s st tick) bank thread).state
unfolding reported
done_sound m s seeds st tick bank thread k =
    record { long = reported_long s (turned s st tick) bank thread (turned_long s st tick k.long); ok = taken_memory k }
