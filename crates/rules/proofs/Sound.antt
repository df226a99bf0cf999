-- No call of a list after set-up is refused with 6 or 7.
use mathlib.Core.Path.{◌≡◌, ap}
use mathlib.Core.Logic.{◌≢◌}
use mathlib.Core.List.{List, [], ◌∷◌}
use mathlib.Core.Bool.{Bool, true, false, ◌||◌}
use Prim.Native.Nat.{ℕ, ◌^◌, ◌≤◌}
use native.Mathlib.Omega.{arith}
use lib.Dec.{leb, ltb, eqb}
use borrow.Author.Tests.{le-ltb}
use lib.ListN.{length, get_or}
use Rattle.rules.specs.declared.Setting.{Setting}
use Rattle.rules.specs.declared.Limits.{Limits}
use Rattle.rules.specs.declared.Decision.{Decision}
use Rattle.rules.specs.declared.Decision.TheVariants.{Open, Hold, OverQuota}
use Rattle.rules.specs.Cells.{All}
use Rattle.rules.specs.Answers.{none, short_buffer, bad_memory, outside_setting, bad_tick, none_in_flight, refusal_number, refuse}
use Rattle.rules.specs.Setting.{history_length, setting_refusal}
use Rattle.rules.specs.State.{State, counters_used, threads_used, thread_cell, too_short, fresh}
use Rattle.rules.specs.Clock.{turned}
use Rattle.rules.specs.Hash.{places}
use Rattle.rules.specs.History.{memory_ok}
use Rattle.rules.specs.Policy.{Policy}
use Rattle.rules.specs.Tested.{Long, Sound, SetUp}
use Rattle.rules.specs.Decision.{decide, activated}
use Rattle.rules.specs.Calls.{Call, request, done, index, Reply, refused, return_code, setup_refusal, call_refusal, done_refusal, call_tick, performed, refusal_of, after_decision, requested, reported, index_shown, step, replies}
use Rattle.rules.specs.Claims.{NeverMemory}
use Rattle.rules.proofs.Tests.{is_true}
use Rattle.rules.proofs.Accept.{set_up_lem, history_pos, first_refusal, or_else_none, call_taken}
use Rattle.rules.proofs.Memory.{memory_ok_lem, fresh_memory, fresh_long, turned_memory, turned_long, activated_memory, activated_long, reported_long}
use Rattle.rules.proofs.Step.{by_refusal}

pub long_not_short : (s : Setting) (st : State) → Long s st → too_short s st ≡ false
unfolding too_short
long_not_short s st l =
    rw (
      le-ltb (length st.counters) (counters_used s) l.counters,
      le-ltb (length st.ticks) (history_length s) l.ticks,
      le-ltb (length st.rows) (history_length s) l.rows,
      le-ltb (length st.threads) (threads_used s) l.threads,
    )

-- ---- every call keeps it

turned_sound : (s : Setting) (st : State) (t : ℕ) → st.head.last ≤ t → Sound s st → Sound s (turned s st t)
turned_sound s st t k h = record { long = turned_long s st t h.long; ok = turned_memory s st t k h.ok }

performed_sound : (p : Policy) (s : Setting) (seeds : List ℕ) (st : State) (c : Call) → st.head.last ≤ call_tick c → Sound s st
    → Sound s (performed p s (λ f. seeds) st c).state
unfolding requested reported index_shown
performed_sound p s seeds st (request t b th r) k h = go (decide p s at (turned s st t) b th r)
  where
    at : ℕ → List ℕ
    at f = places seeds r

    moved : Sound s (turned s st t)
    moved = turned_sound s st t k h

    go : (a : Decision) → Sound s (after_decision a (turned s st t) (activated s at (turned s st t) b th r))
    go Open = record { long = activated_long s at (turned s st t) b th r moved.long; ok = activated_memory s at (turned s st t) b th r moved.long moved.ok }
    go (Hold c u) = moved
    go OverQuota = moved
performed_sound p s seeds st (done t b th) k h =
    let moved = turned_sound s st t k h in
    record { long = reported_long s (turned s st t) b th moved.long; ok = moved.ok }
performed_sound p s seeds st (index t b th) k h = turned_sound s st t k h

pub step_sound : (p : Policy) (s : Setting) (seeds : List ℕ) (st : State) (c : Call) → Sound s st → Sound s (step p s seeds st c).state
unfolding step
step_sound p s seeds st c h =
    by_refusal (λ o. Sound s o.state) (refusal_of p.limits s seeds st c) st (performed p s (λ f. seeds) st c)
    (λ e. performed_sound p s seeds st c (call_taken p.limits s seeds st c e).later h) h

-- ---- so 6 and 7 do not come

later_refusal : (x y : Bool) → (refusal_number (refuse x outside_setting (refuse y bad_tick none)) ≢ 6) × (refusal_number (refuse x outside_setting (refuse y bad_tick none)) ≢ 7)
later_refusal true y = (omega arith, omega arith)
later_refusal false true = (omega arith, omega arith)
later_refusal false false = (omega arith, omega arith)

pub call_sound : (m : Limits) (s : Setting) (seeds : List ℕ) (st : State) (t b th : ℕ) → setting_refusal m s seeds ≡ none → Sound s st
    → (refusal_number (call_refusal m s seeds st t b th) ≢ 6) × (refusal_number (call_refusal m s seeds st t b th) ≢ 7)
unfolding call_refusal
call_sound m s seeds st t b th e h =
    rw (e, long_not_short s st h.long, is_true (memory_ok s st) (memory_ok_lem s st h.ok))
    (later_refusal (leb s.banks b || leb s.threads th) (ltb t st.head.last || leb (2 ^ 62) t))

done_sound : (m : Limits) (s : Setting) (seeds : List ℕ) (st : State) (t b th : ℕ) → setting_refusal m s seeds ≡ none → Sound s st
    → (refusal_number (done_refusal m s seeds st t b th) ≢ 6) × (refusal_number (done_refusal m s seeds st t b th) ≢ 7)
unfolding done_refusal
done_sound m s seeds st t b th e h =
    let free = eqb (get_or st.threads (thread_cell s b th 2) 0) 0 in
    first_refusal (λ r. (refusal_number r ≢ 6) × (refusal_number r ≢ 7)) (call_refusal m s seeds st t b th) (refuse free none_in_flight none)
    (λ z. late free) (λ k. call_sound m s seeds st t b th e h)
  where
    late : (x : Bool) → (refusal_number (refuse x none_in_flight none) ≢ 6) × (refusal_number (refuse x none_in_flight none) ≢ 7)
    late true = (omega arith, omega arith)
    late false = (omega arith, omega arith)

-- a reply's return code tells
abbrev Codes : Reply → Type 0
Codes r = (return_code r ≢ 6) × (return_code r ≢ 7)

refusal_codes : (m : Limits) (s : Setting) (seeds : List ℕ) (st : State) (c : Call) → setting_refusal m s seeds ≡ none → Sound s st
    → (refusal_number (refusal_of m s seeds st c) ≢ 6) × (refusal_number (refusal_of m s seeds st c) ≢ 7)
refusal_codes m s seeds st (request t b th r) e h = call_sound m s seeds st t b th e h
refusal_codes m s seeds st (done t b th) e h = done_sound m s seeds st t b th e h
refusal_codes m s seeds st (index t b th) e h = call_sound m s seeds st t b th e h

performed_codes : (p : Policy) (s : Setting) (own : ℕ → List ℕ) (st : State) (c : Call) → Codes (performed p s own st c).reply
unfolding requested reported index_shown
performed_codes p s own st (request t b th r) = (omega arith, omega arith)
performed_codes p s own st (done t b th) = (omega arith, omega arith)
performed_codes p s own st (index t b th) = (omega arith, omega arith)

step_codes : (p : Policy) (s : Setting) (seeds : List ℕ) (st : State) (c : Call) → setting_refusal p.limits s seeds ≡ none → Sound s st
    → Codes (step p s seeds st c).reply
unfolding step
step_codes p s seeds st c e h =
    by_refusal (λ o. Codes o.reply) (refusal_of p.limits s seeds st c) st (performed p s (λ f. seeds) st c)
    (λ k. performed_codes p s (λ f. seeds) st c) (refusal_codes p.limits s seeds st c e h)

codes_never : (r : Reply) → Codes r → (r ≢ refused short_buffer) × (r ≢ refused bad_memory)
codes_never r k = ((λ q. k.0 (ap return_code q)), (λ q. k.1 (ap return_code q)))

pub fresh_sound : (m : Limits) (s : Setting) (seeds : List ℕ) (st : State) → SetUp m s seeds st → Sound s (fresh s st)
fresh_sound m s seeds st up =
    record { long = fresh_long s st up.long; ok = fresh_memory s st (history_pos up.setting) up.setting.ranges.banks_high }

pub never_memory : (p : Policy) → NeverMemory p
unfolding setup_refusal
never_memory p s seeds before e cs =
    go cs (fresh s before) (fresh_sound p.limits s seeds before (set_up_lem p.limits s seeds before e))
  where
    none_setting : setting_refusal p.limits s seeds ≡ none
    none_setting = (or_else_none (setting_refusal p.limits s seeds) (refuse (too_short s before) short_buffer none) e).0

    go : (cs : List Call) (st : State) → Sound s st → All (λ r. (r ≢ refused short_buffer) × (r ≢ refused bad_memory)) (replies p s seeds st cs)
    go [] st h = tt
    go (c ∷ cs) st h = (codes_never (step p s seeds st c).reply (step_codes p s seeds st c none_setting h), go cs (step p s seeds st c).state (step_sound p s seeds st c h))
