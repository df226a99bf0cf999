-- What a setting that is not refused, and a call that is not refused, can count on.
use mathlib.Core.Path.{◌≡◌, refl, ap}
use mathlib.Core.List.{List}
use mathlib.Core.Bool.{Bool, true, false, not, ◌&&◌, ◌||◌, cond}
use Prim.Native.Nat.{ℕ, zero, suc, ◌+◌, ◌-◌, ◌*◌, ◌%◌, ◌^◌, ◌≤◌, ◌<◌}
use native.Mathlib.Omega.{arith}
use native.Mathlib.Nat.{lt-div-mul-add, mul-le-mul, mul-le-mul_left, div-lt_iff_lt-mul}
use lib.Dec.{T, leb, ltb, eqb, leb→le, nltb→le, nleb→lt, eqb→eq}
use lib.ListN.{length, get_or}
use Rattle.rules.specs.declared.Setting.{Setting}
use Rattle.rules.specs.declared.Limits.{Limits}
use Rattle.rules.specs.Cells.{ceil_div}
use Rattle.rules.specs.Answers.{Refusal, none, out_of_range, short_window, bad_delay, long_history, above_limit, above_profile, short_buffer, bad_memory, outside_setting, bad_tick, none_in_flight, refusal_number, refuse, or_else}
use Rattle.rules.specs.Setting.{epoch_length, history_length, row_bound, profile_of, exceeds, fields_in_range, seeds_in_range, setting_refusal}
use Rattle.rules.specs.State.{State, counters_used, threads_used, thread_cell, too_short}
use Rattle.rules.specs.History.{memory_ok}
use Rattle.rules.specs.Tested.{Ranges, Accepted, Long, SetUp, Taken}
use Rattle.rules.specs.Calls.{Call, request, done, index, setup_refusal, call_refusal, done_refusal, call_tick, call_bank, call_thread, refusal_of}
use Rattle.rules.proofs.Tests.{and_l, and_r, not_or, not_not, holds, fails}

-- ---- the order of refusals

-- only none has number 0
pub number_none : (r : Refusal) → refusal_number r ≡ 0 → r ≡ none
number_none none e = refl
number_none out_of_range e = absurd (omega arith)
number_none short_window e = absurd (omega arith)
number_none bad_delay e = absurd (omega arith)
number_none long_history e = absurd (omega arith)
number_none above_limit e = absurd (omega arith)
number_none above_profile e = absurd (omega arith)
number_none short_buffer e = absurd (omega arith)
number_none bad_memory e = absurd (omega arith)
number_none outside_setting e = absurd (omega arith)
number_none bad_tick e = absurd (omega arith)
number_none none_in_flight e = absurd (omega arith)

pub not_zero : (n : ℕ) → T (not (eqb n 0)) → 0 < n
not_zero zero h = absurd h
not_zero (suc n) h = omega arith

-- what holds of the later refusal where the earlier one is none, and of the earlier one where it has a number, holds of the first of the two
pub first_refusal : (P : Refusal → Type 0) (a b : Refusal) → (a ≡ none → P b) → (0 < refusal_number a → P a) → P (or_else a b)
first_refusal P a b f g = go (eqb (refusal_number a) 0) refl
  where
    go : (q : Bool) → eqb (refusal_number a) 0 ≡ q → P (cond q b a)
    go true e = f (number_none a (eqb→eq (refusal_number a) 0 (holds (eqb (refusal_number a) 0) e)))
    go false e = g (not_zero (refusal_number a) (fails (eqb (refusal_number a) 0) e))

pub or_else_none : (a b : Refusal) → or_else a b ≡ none → (a ≡ none) × (b ≡ none)
or_else_none a b e = first_refusal (λ x. x ≡ none → (a ≡ none) × (b ≡ none)) a b (λ z y. (z, y)) (λ h y. absurd (omega (arith, ap refusal_number y))) e

pub refuse_none : (b : Bool) (r rest : Refusal) → 0 < refusal_number r → refuse b r rest ≡ none → T (not b) × (rest ≡ none)
refuse_none true r rest h e = absurd (omega (arith, ap refusal_number e))
refuse_none false r rest h e = (tt, e)

-- ---- an accepted setting

pub ranges : (m : Limits) (s : Setting) → T (fields_in_range m s) → Ranges m s
unfolding fields_in_range
ranges m s ok =
    record {
      w_low = leb→le 2 s.w (search (and_l, and_r) depth 20);
      w_high = leb→le s.w (2 ^ 30) (search (and_l, and_r) depth 20);
      even = eqb→eq (s.w % 2) 0 (search (and_l, and_r) depth 20);
      trc_low = leb→le 1 s.trc (search (and_l, and_r) depth 20);
      trc_high = leb→le s.trc 65535 (search (and_l, and_r) depth 20);
      tfaw_low = leb→le 1 s.tfaw (search (and_l, and_r) depth 20);
      tfaw_high = leb→le s.tfaw 65535 (search (and_l, and_r) depth 20);
      n_low = leb→le 1 s.n (search (and_l, and_r) depth 20);
      n_high = leb→le s.n m.threshold (search (and_l, and_r) depth 20);
      td_low = leb→le 1 s.td (search (and_l, and_r) depth 20);
      td_high = leb→le s.td (2 ^ 29) (search (and_l, and_r) depth 20);
      l_low = leb→le 1 s.l (search (and_l, and_r) depth 20);
      l_high = leb→le s.l (2 ^ 24) (search (and_l, and_r) depth 20);
      q_low = leb→le 1 s.q (search (and_l, and_r) depth 20);
      q_high = leb→le s.q 255 (search (and_l, and_r) depth 20);
      banks_low = leb→le 1 s.banks (search (and_l, and_r) depth 20);
      banks_high = leb→le s.banks 16 (search (and_l, and_r) depth 20);
      threads_low = leb→le 1 s.threads (search (and_l, and_r) depth 20);
      threads_high = leb→le s.threads 32 (search (and_l, and_r) depth 20);
      mark = search (and_l, and_r) depth 20;
    }

pub accepted : (m : Limits) (s : Setting) (seeds : List ℕ) → setting_refusal m s seeds ≡ none → Accepted m s seeds
unfolding setting_refusal
accepted m s seeds e =
    let r1 = refuse_none (not (fields_in_range m s && seeds_in_range seeds)) out_of_range _ (omega arith) e in
    let r2 = refuse_none (ltb (s.w - 1) (2 * s.n * s.trc)) short_window _ (omega arith) r1.1 in
    let r3 = refuse_none (ltb s.td s.trc || ltb (epoch_length s) s.td) bad_delay _ (omega arith) r2.1 in
    let r4 = refuse_none (ltb m.history (history_length s)) long_history _ (omega arith) r3.1 in
    let r5 = refuse_none (ltb s.l (row_bound s)) above_limit _ (omega arith) r4.1 in
    let own = profile_of s.profile in
    let r16 = refuse_none (exceeds own s.banks (history_length s)) above_profile none (omega arith) r5.1 in
    let n3 = not_or (ltb s.td s.trc) (ltb (epoch_length s) s.td) r3.0 in
    let n16 = not_or (ltb own.banks s.banks) (ltb own.history (history_length s)) r16.0 in
    let ok : T (fields_in_range m s && seeds_in_range seeds) = not_not (fields_in_range m s && seeds_in_range seeds) r1.0 in
    record {
      ranges = ranges m s (and_l (fields_in_range m s) (seeds_in_range seeds) ok);
      seeds_ok = and_r (fields_in_range m s) (seeds_in_range seeds) ok;
      room = nltb→le (s.w - 1) (2 * s.n * s.trc) r2.0;
      gaps = nltb→le s.td s.trc n3.0;
      delay = nltb→le (epoch_length s) s.td n3.1;
      short = nltb→le m.history (history_length s) r4.0;
      bound = nltb→le s.l (row_bound s) r5.0;
      banks_own = nltb→le own.banks s.banks n16.0;
      history_own = nltb→le own.history (history_length s) n16.1;
    }

-- the index has a full scale of 1 or more
pub scale_pos : {m : Limits} {s : Setting} {seeds : List ℕ} → Accepted m s seeds → s.n < s.l
unfolding row_bound
scale_pos ok = omega (arith, ok.bound)

pub ceil_cover : (a b : ℕ) → 1 ≤ b → a ≤ ceil_div a b * b
ceil_cover a b h = omega (arith, lt-div-mul-add {a = a + (b - 1)} {b = b} h)

pub ceil_le : (a b : ℕ) → 1 ≤ b → ceil_div a b ≤ a
ceil_le a b h =
    let m : a * 1 ≤ a * b = mul-le-mul_left a h in
    let l : ceil_div a b < suc a = (div-lt_iff_lt-mul {k = b} {x = a + (b - 1)} {y = suc a} h).1 (omega arith) in
    omega arith

left_pos : (c g : ℕ) → 1 ≤ c * g → 1 ≤ c
left_pos zero g h = absurd (omega arith)
left_pos (suc c) g h = omega arith

-- the history has a place
pub history_pos : {m : Limits} {s : Setting} {seeds : List ℕ} → Accepted m s seeds → 0 < history_length s
unfolding history_length
history_pos {s = s} ok =
    omega (arith, left_pos (ceil_div s.td s.tfaw) s.tfaw (omega (arith, ok.ranges.td_low, ceil_cover s.td s.tfaw ok.ranges.tfaw_low)))

-- an epoch has two ticks or more: W = 2 is refused with 2
pub epoch_long : {m : Limits} {s : Setting} {seeds : List ℕ} → Accepted m s seeds → 2 ≤ epoch_length s
epoch_long {s = s} ok = go s.n s.trc ok.ranges.n_low ok.ranges.trc_low ok.room
  where
    go : (n c : ℕ) → 1 ≤ n → 1 ≤ c → 2 * n * c ≤ s.w - 1 → 2 ≤ epoch_length s
    go zero c h k r = absurd (omega arith)
    go (suc n) zero h k r = absurd (omega arith)
    go (suc n) (suc c) h k r = omega (arith, ok.ranges.even)

-- ---- a call that is not refused

pub long_enough : (s : Setting) (st : State) → T (not (too_short s st)) → Long s st
unfolding too_short
long_enough s st h =
    let a = ltb (length st.counters) (counters_used s) in
    let b = ltb (length st.ticks) (history_length s) in
    let c = ltb (length st.rows) (history_length s) in
    let d = ltb (length st.threads) (threads_used s) in
    let n3 = not_or (a || b || c) d h in
    let n2 = not_or (a || b) c n3.0 in
    let n1 = not_or a b n2.0 in
    record {
      counters = nltb→le (length st.counters) (counters_used s) n1.0;
      ticks = nltb→le (length st.ticks) (history_length s) n1.1;
      rows = nltb→le (length st.rows) (history_length s) n2.1;
      threads = nltb→le (length st.threads) (threads_used s) n3.1;
    }

pub set_up_lem : (m : Limits) (s : Setting) (seeds : List ℕ) (st : State) → setup_refusal m s seeds st ≡ none → SetUp m s seeds st
unfolding setup_refusal
set_up_lem m s seeds st e =
    let r = or_else_none (setting_refusal m s seeds) _ e in
    let q = refuse_none (too_short s st) short_buffer none (omega arith) r.1 in
    record { setting = accepted m s seeds r.0; long = long_enough s st q.0 }

pub taken : (m : Limits) (s : Setting) (seeds : List ℕ) (st : State) (t bank thread : ℕ) → call_refusal m s seeds st t bank thread ≡ none
    → Taken m s seeds st t bank thread
unfolding call_refusal
taken m s seeds st t bank thread e =
    let r5 = or_else_none (setting_refusal m s seeds) _ e in
    let r6 = refuse_none (too_short s st) short_buffer _ (omega arith) r5.1 in
    let r7 = refuse_none (not (memory_ok s st)) bad_memory _ (omega arith) r6.1 in
    let r8 = refuse_none (leb s.banks bank || leb s.threads thread) outside_setting _ (omega arith) r7.1 in
    let r9 = refuse_none (ltb t st.head.last || leb (2 ^ 62) t) bad_tick none (omega arith) r8.1 in
    let n8 = not_or (leb s.banks bank) (leb s.threads thread) r8.0 in
    let n9 = not_or (ltb t st.head.last) (leb (2 ^ 62) t) r9.0 in
    record {
      setting = accepted m s seeds r5.0;
      long = long_enough s st r6.0;
      memory = not_not (memory_ok s st) r7.0;
      bank_in = nleb→lt s.banks bank n8.0;
      thread_in = nleb→lt s.threads thread n8.1;
      later = nltb→le t st.head.last n9.0;
      early = nleb→lt (2 ^ 62) t n9.1;
    }

pub done_taken : (m : Limits) (s : Setting) (seeds : List ℕ) (st : State) (t bank thread : ℕ) → done_refusal m s seeds st t bank thread ≡ none
    → (call_refusal m s seeds st t bank thread ≡ none) × T (not (eqb (get_or st.threads (thread_cell s bank thread 2) 0) 0))
unfolding done_refusal
done_taken m s seeds st t bank thread e =
    let r = or_else_none (call_refusal m s seeds st t bank thread) _ e in
    (r.0, (refuse_none (eqb (get_or st.threads (thread_cell s bank thread 2) 0) 0) none_in_flight none (omega arith) r.1).0)

-- any call of a list that is not refused
pub call_taken : (m : Limits) (s : Setting) (seeds : List ℕ) (st : State) (c : Call) → refusal_of m s seeds st c ≡ none
    → Taken m s seeds st (call_tick c) (call_bank c) (call_thread c)
call_taken m s seeds st (request t b th r) e = taken m s seeds st t b th e
call_taken m s seeds st (done t b th) e = taken m s seeds st t b th (done_taken m s seeds st t b th e).0
call_taken m s seeds st (index t b th) e = taken m s seeds st t b th e

-- the products that a buffer's length is compared with are small
pub cells_small : (banks threads : ℕ) → banks ≤ 16 → threads ≤ 32 → banks * threads ≤ 512
cells_small banks threads b t = mul-le-mul {n₂ = 16} {m₂ = 32} b t
