-- A state of the old width and the state that it is taken over to answer every list of calls, and set-up after it, alike.
use mathlib.Core.Path.{◌≡◌, refl, sym, ap, ap₂, ◌∙◌}
use mathlib.Core.List.{List, [], ◌∷◌}
use Prim.Native.Nat.{ℕ, ◌<◌}
use native.Mathlib.Omega.{arith}
use native.Mathlib.Decide.{dec_lt}
use lib.Dec.{ltb}
use lib.ListN.{length, get_or}
use lib.Seq.{ext_get_or}
use Rattle.rules.specs.declared.Setting.{Setting}
use Rattle.rules.specs.declared.Limits.{Limits}
use Rattle.rules.specs.Cells.{clear_cells}
use Rattle.rules.specs.Answers.{none, refusal_number}
use Rattle.rules.specs.Setting.{history_length, setting_refusal}
use Rattle.rules.specs.State.{State, counters_used, threads_used, fresh}
use Rattle.rules.specs.Policy.{Policy, limits01, limits02, narrow, wide}
use Rattle.rules.specs.Tested.{Long}
use Rattle.rules.specs.Calls.{Call, finished, outcome, setup, setup_refusal, step, replies, after}
use Rattle.assurances.specs.Claims.{SameUsed, SameFrom}
use Rattle.rules.proofs.Memory.{fresh_long}
use Rattle.rules.proofs.Step.{unless_taken}
use Rattle.rules.proofs.Sound.{long_not_short}
use Rattle.assurances.proofs.Used.{fresh_used}
use Rattle.assurances.proofs.Rest.{then_from}
use Rattle.rules.proofs.Theorems.{theorems as rules}
use Rattle.assurances.proofs.Theorems.{theorems as assured}
use Rattle.widths.specs.ChangeOver.{change_over_refusal, changed_state}
use Rattle.widths.specs.Claims.{SameLeft, AnswersAsBefore, SetUpAsBefore}
use Rattle.widths.proofs.Limits.{old_accepted}
use Rattle.widths.proofs.ChangeOver.{taken, leaves}

-- two equal lists, each with its rest from n on kept, are equal again where they agree below n
whole : (n : ℕ) (a b a' b' : List ℕ) → b ≡ a → SameFrom n a a' → SameFrom n b b' → ((i : ℕ) → i < n → get_or b' i 0 ≡ get_or a' i 0) → b' ≡ a'
whole n a b a' b' e x y u = ext_get_or 0 b' a' (y.0 ∙ ap length e ∙ sym x.0) (λ i h. go i (dec_lt i n))
  where
    go : (i : ℕ) → Dec (i < n) → get_or b' i 0 ≡ get_or a' i 0
    go i (yes k) = u i k
    go i (no k) = y.1 i (omega arith) ∙ ap (λ l. get_or l i 0) e ∙ sym (x.1 i (omega arith))

-- equal but for the rest of the counters
pub record SameButRest (s : Setting) (a b : State) : Type 0 where
  pub used : SameUsed s a b
  pub ticks : b.ticks ≡ a.ticks
  pub rows : b.rows ≡ a.rows
  pub threads : b.threads ≡ a.threads

-- ---- the change-over

pub over_same : (s : Setting) (seeds : List ℕ) (old : State) (new : List ℕ) → change_over_refusal s seeds old new ≡ none
    → SameButRest s old (changed_state s seeds old new)
over_same s seeds old new e =
    let k = taken s seeds old new e in
    let l = leaves s seeds old new in
    record {
      used = record {
        long = k.long;
        long_too = record { counters = omega (arith, l.rest.0, k.long_new); ticks = k.long.ticks; rows = k.long.rows; threads = k.long.threads };
        head = refl;
        counters = l.used (l.code ∙ ap refusal_number e);
        ticks = λ i h. refl;
        rows = λ i h. refl;
        threads = λ i h. refl;
      };
      ticks = refl;
      rows = refl;
      threads = refl;
    }

-- ---- set-up

-- set-up that is not refused
setup_is : (m : Limits) (s : Setting) (seeds : List ℕ) (st : State) → setting_refusal m s seeds ≡ none → Long s st → setup m s seeds st ≡ outcome finished (fresh s st)
unfolding setup setup_refusal
setup_is m s seeds st e l = unless_taken (setup_refusal m s seeds st) st (outcome finished (fresh s st)) (rw (e, long_not_short s st l))

-- it leaves the two states equal but for the rest of the counters again
fresh_same : (s : Setting) (a b : State) → SameButRest s a b → SameButRest s (fresh s a) (fresh s b)
unfolding fresh
fresh_same s a b t =
    record {
      used = fresh_used s a b (fresh_long s a t.used.long) (fresh_long s b t.used.long_too);
      ticks = ap (clear_cells (λ i. ltb i (history_length s))) t.ticks;
      rows = ap (clear_cells (λ i. ltb i (history_length s))) t.rows;
      threads = ap (clear_cells (λ i. ltb i (threads_used s))) t.threads;
    }

-- ---- the calls

module _ (s : Setting) (seeds : List ℕ) (e : setting_refusal limits01 s seeds ≡ none) where
  pub step_same : (a b : State) → SameButRest s a b → (c : Call)
      → ((step wide s seeds b c).reply ≡ (step narrow s seeds a c).reply) × SameButRest s (step narrow s seeds a c).state (step wide s seeds b c).state
  step_same a b t c =
      let same = assured.same_replies narrow (rules.in_force_used_flying limits01) limits02 s seeds e (old_accepted s seeds e) a b t.used (c ∷ []) in
      let ra = (assured.rest_kept narrow).call s seeds a c in
      let rb = (assured.rest_kept wide).call s seeds b c in
      let u = same.1 in
      let replied = same.0 in (
        cc,
        record {
          used = u;
          ticks = whole (history_length s) a.ticks b.ticks _ _ t.ticks ra.ticks rb.ticks u.ticks;
          rows = whole (history_length s) a.rows b.rows _ _ t.rows ra.rows rb.rows u.rows;
          threads = whole (threads_used s) a.threads b.threads _ _ t.threads ra.threads rb.threads u.threads;
        },
      )

  run_same : (cs : List Call) (a b : State) → SameButRest s a b
      → (replies wide s seeds b cs ≡ replies narrow s seeds a cs) × SameButRest s (after narrow s seeds a cs) (after wide s seeds b cs)
  run_same [] a b t = (refl, t)
  run_same (c ∷ cs) a b t =
      let x = step_same a b t c in
      let rest = run_same cs (step narrow s seeds a c).state (step wide s seeds b c).state x.1 in
      (ap₂ (λ y ys. y ∷ ys) x.0 rest.0, rest.1)

  -- set-up is refused at neither width
  pub setup_same : (a b : State) → SameButRest s a b
      → let x = setup limits01 s seeds a in
      let y = setup limits02 s seeds b in
      (x.reply ≡ finished) × (y.reply ≡ finished) × SameButRest s x.state y.state
  setup_same a b t =
      rw (setup_is limits01 s seeds a e t.used.long, setup_is limits02 s seeds b (old_accepted s seeds e) t.used.long_too)
      (refl, refl, fresh_same s a b t)

-- ---- the rest of the new counters

run_rest : (p : Policy) (s : Setting) (seeds : List ℕ) (first : List ℕ) (cs : List Call) (st : State) → SameFrom (counters_used s) first st.counters
    → SameFrom (counters_used s) first (after p s seeds st cs).counters
run_rest p s seeds first [] st h = h
run_rest p s seeds first (c ∷ cs) st h =
    let next = (step p s seeds st c).state in
    run_rest p s seeds first cs next (then_from (counters_used s) first st.counters next.counters h ((assured.rest_kept p).call s seeds st c).counters)

-- ---- the claims

same_left : (s : Setting) (new : List ℕ) (a b : State) → SameButRest s a b → SameFrom (counters_used s) new b.counters → SameLeft s new a b
same_left s new a b t rest =
    record { head = t.used.head; ticks = t.ticks; rows = t.rows; threads = t.threads; counters = t.used.counters; rest = rest }

-- the calls after a change-over that is not refused
over_run : (s : Setting) (seeds : List ℕ) (old : State) (new : List ℕ) → change_over_refusal s seeds old new ≡ none → (cs : List Call)
    → (replies wide s seeds (changed_state s seeds old new) cs ≡ replies narrow s seeds old cs)
    × SameButRest s (after narrow s seeds old cs) (after wide s seeds (changed_state s seeds old new) cs)
over_run s seeds old new e cs =
    run_same s seeds (taken s seeds old new e).setting cs old (changed_state s seeds old new) (over_same s seeds old new e)

over_rest : (s : Setting) (seeds : List ℕ) (old : State) (new : List ℕ) (cs : List Call)
    → SameFrom (counters_used s) new (after wide s seeds (changed_state s seeds old new) cs).counters
over_rest s seeds old new cs = run_rest wide s seeds new cs (changed_state s seeds old new) (leaves s seeds old new).rest

pub answers_as_before : AnswersAsBefore
answers_as_before s seeds old new e cs =
    let run = over_run s seeds old new e cs in
    (run.0, same_left s new _ _ run.1 (over_rest s seeds old new cs))

pub set_up_as_before : SetUpAsBefore
set_up_as_before s seeds old new e cs =
    let b = after wide s seeds (changed_state s seeds old new) cs in
    let up = (setup limits02 s seeds b).state in
    let same = setup_same s seeds (taken s seeds old new e).setting (after narrow s seeds old cs) b (over_run s seeds old new e cs).1 in
    let rest = then_from (counters_used s) new b.counters up.counters (over_rest s seeds old new cs) ((assured.rest_kept wide).setup s seeds b).counters in
    (same.0, same.1, same_left s new _ up same.2 rest)
