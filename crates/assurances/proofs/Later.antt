-- The clock turned in two steps, and what comes of a request that waits: its tick is later, and at that tick it is opened.
use mathlib.Core.Path.{◌≡◌, refl, sym, ap, ◌∙◌, subst}
use mathlib.Core.Logic.{◌≢◌}
use mathlib.Core.List.{List, [], ◌∷◌, ◌++◌}
use mathlib.Core.Bool.{Bool, true, false, not, ◌&&◌, ◌||◌}
use Prim.Native.Nat.{ℕ, ◌+◌, ◌/◌, ◌%◌, ◌^◌, ◌≤◌, ◌<◌}
use native.Mathlib.Omega.{arith}
use native.Mathlib.Decide.{ℕ_discrete, dec_lt}
use lib.Dec.{T, ltb, ltb→lt, T_not}
use lib.ListN.{length}
use borrow.Author.Tests.{lt-leb, le-ltb, eq-eqb}
use Rattle.head.specs.Head.{moved_head}
use Rattle.rules.specs.declared.Setting.{Setting}
use Rattle.rules.specs.declared.Limits.{Limits}
use Rattle.rules.specs.declared.Cause.{Cause}
use Rattle.rules.specs.declared.Cause.TheVariants.{Row}
use Rattle.rules.specs.declared.Decision.{Decision}
use Rattle.rules.specs.declared.Decision.TheVariants.{Open, Hold, OverQuota}
use Rattle.rules.specs.declared.Answer.TheVariants.{Opened, Wait}
use Rattle.rules.specs.Answers.{none, answer_wait}
use Rattle.rules.specs.Setting.{epoch_length, setting_refusal}
use Rattle.rules.specs.State.{State, state, counters_used, threads_used}
use Rattle.rules.specs.Clock.{epoch, clears, turned_counters, turned_threads, turned}
use Rattle.rules.specs.Hash.{places}
use Rattle.rules.specs.History.{memory_ok}
use Rattle.rules.specs.Policy.{Policy}
use Rattle.rules.specs.Decision.{quota_rule, bank_rule, rank_rule, active_estimate, row_rule, passes_at, wait_tick, first_failing, decide, activated, openings_left, answer_of}
use Rattle.rules.specs.Tested.{Sound, Taken}
use Rattle.rules.specs.Calls.{Call, request, done, index, answered, call_refusal, call_tick, call_bank, call_thread, refusal_of, unless_refused, after_decision, requested, reported, index_shown, performed, step, replies, after, Activation, activation_of, activations}
use Rattle.assurances.specs.Claims.{TurnsAdd, WaitIsLater, OpenedAtWait, NeverWaitRow}
use Rattle.rules.proofs.Tests.{and_l, and_r, holds, is_true, or_false, or_true}
use Rattle.rules.proofs.Clearing.{clear_clear}
use Rattle.rules.proofs.Clock.{clears_none, clears_one, clears_both, counters_none}
use Rattle.rules.proofs.Accept.{accepted, epoch_long, or_else_none, taken, call_taken}
use Rattle.rules.proofs.Memory.{memory, memory_ok_lem}
use Rattle.rules.proofs.Turn.{div_mono}
use Rattle.rules.proofs.Decisions.{kind_of, number_of, decision_of_lem}
use Rattle.rules.proofs.Step.{by_refusal, Answers, answers}
use Rattle.rules.proofs.Sound.{long_not_short, step_sound}
use Rattle.rules.proofs.Threshold.{below_threshold}
use Rattle.rules.proofs.Wait.{wait_is_least}

-- ---- two steps of the clock

-- of two epochs that follow one another each clears another filter
pub clears_add : (a b c f : ℕ) → a ≤ b → b ≤ c → f < 2 → (clears b c f || clears a b f) ≡ clears a c f
clears_add a b c f ab bc f2 = first (ℕ_discrete b a)
  where
    last_true : (q : Bool) → clears b c f ≡ true → (clears b c f || q) ≡ true
    last_true q e = rw e

    alternate : b ≡ a + 1 → c ≡ b + 1 → (clears b c f || clears a b f) ≡ true
    alternate eb ec = go (ℕ_discrete f (b % 2))
      where
        go : Dec (f ≡ b % 2) → (clears b c f || clears a b f) ≡ true
        go (yes q) = last_true (clears a b f) (clears_one b c f ec ∙ eq-eqb f (b % 2) q)
        go (no q) = rw (clears_one a b f eb ∙ eq-eqb f (a % 2) (omega arith)) (or_true (clears b c f))

    third : a < b → b < c → Dec (b + 1 < c) → Dec (a + 1 < b) → (clears b c f || clears a b f) ≡ true
    third x y (yes q) d = last_true (clears a b f) (clears_both b c f q)
    third x y (no q) (yes d) = rw (clears_both a b f d) (or_true (clears b c f))
    third x y (no q) (no d) = alternate (omega arith) (omega arith)

    second : a < b → Dec (c ≡ b) → (clears b c f || clears a b f) ≡ clears a c f
    second x (yes q) = rw (clears_none b c f (omega arith), q)
    second x (no q) = third x (omega arith) (dec_lt (b + 1) c) (dec_lt (a + 1) b) ∙ sym (clears_both a c f (omega arith))

    first : Dec (b ≡ a) → (clears b c f || clears a b f) ≡ clears a c f
    first (yes q) = rw (clears_none a b f (omega arith)) (or_false (clears b c f) ∙ ap (λ x. clears x c f) q)
    first (no q) = second (omega arith) (ℕ_discrete c b)

-- the same under a test
under : (x p q r : Bool) → (x ≡ true → (p || q) ≡ r) → ((x && p) || (x && q)) ≡ (x && r)
under true p q r h = h refl
under false p q r h = refl

counters_add : (used a b c : ℕ) (cs : List ℕ) → a ≤ b → b ≤ c → turned_counters used b c (turned_counters used a b cs) ≡ turned_counters used a c cs
unfolding turned_counters
counters_add used a b c cs ab bc =
    clear_clear (λ i. ltb i used && clears b c (i / 1024 % 2)) (λ i. ltb i used && clears a b (i / 1024 % 2)) (λ i. ltb i used && clears a c (i / 1024 % 2))
    (λ i. under (ltb i used) _ _ _ (λ q. clears_add a b c (i / 1024 % 2) ab bc (omega arith))) cs

threads_add : (used a b c : ℕ) (ts : List ℕ) → a ≤ b → b ≤ c → turned_threads used b c (turned_threads used a b ts) ≡ turned_threads used a c ts
unfolding turned_threads
threads_add used a b c ts ab bc =
    clear_clear (λ i. ltb i used && (ltb (i % 3) 2 && clears b c (i % 3))) (λ i. ltb i used && (ltb (i % 3) 2 && clears a b (i % 3)))
    (λ i. ltb i used && (ltb (i % 3) 2 && clears a c (i % 3)))
    (λ i. under (ltb i used) _ _ _ (λ q. under (ltb (i % 3) 2) _ _ _ (λ l. clears_add a b c (i % 3) ab bc (ltb→lt (i % 3) 2 (holds (ltb (i % 3) 2) l))))) ts

pub turned_add : (s : Setting) (st : State) (t u : ℕ) → 1 ≤ epoch_length s → st.head.last ≤ t → t ≤ u → turned s (turned s st t) u ≡ turned s st u
unfolding turned moved_head
turned_add s st t u d1 tl ul =
    let ab = div_mono (epoch_length s) st.head.last t d1 tl in
    let bc = div_mono (epoch_length s) t u d1 ul in
    let c = counters_add (counters_used s) (epoch s st.head.last) (epoch s t) (epoch s u) st.counters ab bc in
    let h = threads_add (threads_used s) (epoch s st.head.last) (epoch s t) (epoch s u) st.threads ab bc in
    λ k. record { head = moved_head st.head u; counters = c k; ticks = st.ticks; rows = st.rows; threads = h k }

pub turns_add : (m : Limits) → TurnsAdd m
turns_add m s seeds e st t u tl ul = turned_add s st t u (omega (arith, epoch_long (accepted m s seeds e))) tl ul

-- ---- an answer that waits

-- the wait tick of an answer that waits is the rules' one, and then a rule of the three fails
waits : (q b r o : Bool) (w : ℕ) (c : Cause) (u : ℕ) → first_failing q b r o w ≡ Hold c u → (w ≡ u) × T (not (b && (r && o)))
waits false b r o w c u e = absurd (omega (arith, ap kind_of e))
waits true false r o w c u e = (ap (λ d. answer_wait (answer_of d 0)) e, tt)
waits true true false o w c u e = (ap (λ d. answer_wait (answer_of d 0)) e, tt)
waits true true true false w c u e = (ap (λ d. answer_wait (answer_of d 0)) e, tt)
waits true true true true w c u e = absurd (omega (arith, ap kind_of e))

never_row : (q b r : Bool) (w u : ℕ) → first_failing q b r true w ≢ Hold Row u
never_row false b r w u e = omega (arith, ap number_of e)
never_row true false r w u e = omega (arith, ap number_of e)
never_row true true false w u e = omega (arith, ap number_of e)
never_row true true true w u e = omega (arith, ap number_of e)

never_held : (p : Policy) (s : Setting) (at : ℕ → List ℕ) (st : State) (bank thread row u : ℕ) → active_estimate s at st bank < s.n
    → decide p s at st bank thread row ≢ Hold Row u
unfolding decide
never_held p s at st bank thread row u low =
    subst (λ x. first_failing (quota_rule p s st bank thread) (bank_rule s st bank) (rank_rule s st) x (wait_tick s at st bank row) ≢ Hold Row u)
    (sym (is_true (row_rule s at st bank row) (below_threshold s at st bank row low)))
    (never_row (quota_rule p s st bank thread) (bank_rule s st bank) (rank_rule s st) (wait_tick s at st bank row) u)

pub never_wait_row : (p : Policy) → NeverWaitRow p
unfolding requested
never_wait_row p s at st bank thread row u low e =
    never_held p s at st bank thread row u low
    (decision_of_lem (decide p s at st bank thread row) (openings_left s at (activated s at st bank thread row) bank) (Wait Row u) (let x = e in cc))

both_empty : (xs ys : List Activation) → xs ++ ys ≡ [] → (xs ≡ []) × (ys ≡ [])
both_empty [] ys e = (refl, e)
both_empty (x ∷ xs) ys e = absurd (omega (arith, ap (λ l. length l) e))

-- the decision of a request that is answered with a wait
held : (p : Policy) (s : Setting) (seeds : List ℕ) (st : State) (t bank thread row : ℕ) (c : Cause) (u : ℕ) → Answers p s seeds st t bank thread row (Wait c u)
    → decide p s (λ f. places seeds row) (turned s st t) bank thread row ≡ Hold c u
held p s seeds st t bank thread row c u k =
    let at : ℕ → List ℕ = λ f. places seeds row in
    decision_of_lem (decide p s at (turned s st t) bank thread row) (openings_left s at (activated s at (turned s st t) bank thread row) bank) (Wait c u) k.says

-- the wait tick, and that the three rules do not all pass at the request's tick
waiting : (p : Policy) (s : Setting) (at : ℕ → List ℕ) (st : State) (bank thread row : ℕ) (c : Cause) (u : ℕ) → decide p s at st bank thread row ≡ Hold c u
    → (wait_tick s at st bank row ≡ u) × T (not (bank_rule s st bank && (rank_rule s st && row_rule s at st bank row)))
unfolding decide
waiting p s at st bank thread row c u e =
    waits (quota_rule p s st bank thread) (bank_rule s st bank) (rank_rule s st) (row_rule s at st bank row) (wait_tick s at st bank row) c u e

-- the rules at the tick at which the clock stands
passes_now : (s : Setting) (at : ℕ → List ℕ) (st : State) (t bank row : ℕ) → 1 ≤ epoch_length s → st.head.last ≤ t
    → passes_at s at (turned s st t) bank row t
    ≡ (bank_rule s (turned s st t) bank && (rank_rule s (turned s st t) && row_rule s at (turned s st t) bank row))
unfolding passes_at
passes_now s at st t bank row d1 h =
    ap (λ x. bank_rule s x bank && (rank_rule s x && row_rule s at x bank row)) (turned_add s st t t d1 h (omega arith))

pub wait_is_later : (p : Policy) → WaitIsLater p
wait_is_later p s seeds st t bank thread row c u e =
    let k = answers p s seeds st t bank thread row (Wait c u) e in
    let ok = taken p.limits s seeds st t bank thread k.free in
    let at : ℕ → List ℕ = λ f. places seeds row in
    let w = waiting p s at (turned s st t) bank thread row c u (held p s seeds st t bank thread row c u k) in
    let l = wait_is_least p.limits s seeds st t bank thread k.free at row in
    let now = passes_now s at st t bank row (omega (arith, epoch_long ok.setting)) ok.later in
    go (wait_tick s at (turned s st t) bank row) w.0 l.later (passes_at s at (turned s st t) bank row) l.passes _ now w.1
  where
    go : (v : ℕ) → v ≡ u → t ≤ v → (f : ℕ → Bool) → T (f v) → (g : Bool) → f t ≡ g → T (not g) → t < u
    go v ev lo f pass g eg fail = pick (ℕ_discrete v t)
      where
        pick : Dec (v ≡ t) → t < u
        pick (yes q) = absurd (T_not g fail (subst T (ap f q ∙ eg) pass))
        pick (no q) = omega arith

-- ---- no activation between

-- z is y with its clock moved on; thread counters may differ
record Idle (s : Setting) (y z : State) : Type 0 where
  later : y.head.last ≤ z.head.last
  head : z.head ≡ moved_head y.head z.head.last
  counters : z.counters ≡ turned_counters (counters_used s) (epoch s y.head.last) (epoch s z.head.last) y.counters
  ticks : z.ticks ≡ y.ticks
  rows : z.rows ≡ y.rows

idle_same : (s : Setting) (y : State) → Idle s y y
unfolding moved_head
idle_same s y =
    record {
      later = omega arith;
      head = refl;
      counters = counters_none (counters_used s) (epoch s y.head.last) (epoch s y.head.last) y.counters (omega arith);
      ticks = refl;
      rows = refl;
    }

idle_turned : (s : Setting) (y : State) (t : ℕ) → y.head.last ≤ t → Idle s y (turned s y t)
unfolding turned moved_head
idle_turned s y t h = record { later = h; head = refl; counters = refl; ticks = refl; rows = refl }

idle_reported : (s : Setting) (y z : State) (b th : ℕ) → Idle s y z → Idle s y (reported s z b th).state
unfolding reported
idle_reported s y z b th i = record { later = i.later; head = i.head; counters = i.counters; ticks = i.ticks; rows = i.rows }

idle_then : (s : Setting) (y z w : State) → 1 ≤ epoch_length s → Idle s y z → Idle s z w → Idle s y w
unfolding moved_head
idle_then s y z w d1 i j =
    record {
      later = omega (arith, i.later, j.later);
      head = j.head ∙ ap (λ h. moved_head h w.head.last) i.head;
      counters =
          j.counters
          ∙ ap (turned_counters (counters_used s) (epoch s z.head.last) (epoch s w.head.last)) i.counters
          ∙ counters_add (counters_used s) (epoch s y.head.last) (epoch s z.head.last) (epoch s w.head.last) y.counters
          (div_mono (epoch_length s) y.head.last z.head.last d1 i.later) (div_mono (epoch_length s) z.head.last w.head.last d1 j.later);
      ticks = j.ticks ∙ i.ticks;
      rows = j.rows ∙ i.rows;
    }

module _ (p : Policy) (s : Setting) (seeds : List ℕ) where
  idle_performed : (y : State) (c : Call) → Taken p.limits s seeds y (call_tick c) (call_bank c) (call_thread c)
      → activation_of c (performed p s (λ f. seeds) y c).reply ≡ [] → Idle s y (performed p s (λ f. seeds) y c).state
  unfolding requested reported index_shown
  idle_performed y (request t b th r) k e = go (decide p s (λ f. places seeds r) (turned s y t) b th r) _ e
    where
      go : (d : Decision) (left : ℕ) → activation_of (request t b th r) (answered (answer_of d left)) ≡ []
          → Idle s y (after_decision d (turned s y t) (activated s (λ f. places seeds r) (turned s y t) b th r))
      go Open left z = absurd (omega (arith, ap (λ l. length l) z))
      go (Hold c u) left z = idle_turned s y t k.later
      go OverQuota left z = idle_turned s y t k.later
  idle_performed y (done t b th) k e = idle_reported s y (turned s y t) b th (idle_turned s y t k.later)
  idle_performed y (index t b th) k e = idle_turned s y t k.later

  idle_step : (y : State) (c : Call) → activation_of c (step p s seeds y c).reply ≡ [] → Idle s y (step p s seeds y c).state
  unfolding step
  idle_step y c =
      by_refusal (λ o. activation_of c o.reply ≡ [] → Idle s y o.state) (refusal_of p.limits s seeds y c) y (performed p s (λ f. seeds) y c)
      (λ k. idle_performed y c (call_taken p.limits s seeds y c k)) (λ z. idle_same s y)

  idle_run : (cs : List Call) (y : State) → 1 ≤ epoch_length s → activations cs (replies p s seeds y cs) ≡ [] → Idle s y (after p s seeds y cs)
  idle_run [] y d1 e = idle_same s y
  idle_run (c ∷ cs) y d1 e =
      let o = step p s seeds y c in
      let none = both_empty (activation_of c o.reply) (activations cs (replies p s seeds o.state cs)) e in
      idle_then s y o.state (after p s seeds o.state cs) d1 (idle_step y c none.0) (idle_run cs o.state d1 none.1)

  run_sound : (cs : List Call) (y : State) → Sound s y → Sound s (after p s seeds y cs)
  run_sound [] y h = h
  run_sound (c ∷ cs) y h = run_sound cs (step p s seeds y c).state (step_sound p s seeds y c h)

-- the state at tick u, but for the thread counters
idle_mixed : (s : Setting) (y z : State) (u : ℕ) → 1 ≤ epoch_length s → Idle s y z → z.head.last ≤ u
    → state (turned s z u).head (turned s z u).counters (turned s z u).ticks (turned s z u).rows (turned s y u).threads ≡ turned s y u
unfolding turned moved_head
idle_mixed s y z u d1 i h =
    let j = idle_then s y z (turned s z u) d1 i (idle_turned s z u h) in
    λ k. state (j.head k) (j.counters k) (j.ticks k) (j.rows k) (turned_threads (threads_used s) (epoch s y.head.last) (epoch s u) y.threads)

-- the rules at tick u look at what the clock leaves alone
idle_passes : (s : Setting) (at : ℕ → List ℕ) (y z : State) (bank row u : ℕ) → 1 ≤ epoch_length s → Idle s y z → z.head.last ≤ u
    → T (passes_at s at y bank row u) → T (bank_rule s (turned s z u) bank) × T (rank_rule s (turned s z u)) × T (row_rule s at (turned s z u) bank row)
unfolding passes_at
idle_passes s at y z bank row u d1 i h q =
    let b = bank_rule s (turned s y u) bank in
    let r = rank_rule s (turned s y u) in
    let o = row_rule s at (turned s y u) bank row in (
      subst (λ x. T (bank_rule s x bank)) (sym (idle_mixed s y z u d1 i h)) (and_l b (r && o) q),
      subst (λ x. T (rank_rule s x)) (sym (idle_mixed s y z u d1 i h)) (and_l r o (and_r b (r && o) q)),
      subst (λ x. T (row_rule s at x bank row)) (sym (idle_mixed s y z u d1 i h)) (and_r r o (and_r b (r && o) q)),
    )

-- a call on a state that passes the tests of 6 and 7
sound_free : (m : Limits) (s : Setting) (seeds : List ℕ) (st : State) (t bank thread : ℕ) → setting_refusal m s seeds ≡ none → Sound s st
    → bank < s.banks → thread < s.threads → st.head.last ≤ t → t < 2 ^ 62 → call_refusal m s seeds st t bank thread ≡ none
unfolding call_refusal
sound_free m s seeds st t bank thread e h bh th later early =
    rw (
      e,
      long_not_short s st h.long,
      is_true (memory_ok s st) (memory_ok_lem s st h.ok),
      lt-leb s.banks bank bh,
      lt-leb s.threads thread th,
      le-ltb t st.head.last later,
      lt-leb (2 ^ 62) t early,
    )

-- a call that is not refused, with the four rules that pass
opens : (p : Policy) (s : Setting) (seeds : List ℕ) (st : State) (t bank thread row : ℕ) → call_refusal p.limits s seeds st t bank thread ≡ none
    → T (quota_rule p s (turned s st t) bank thread) → T (bank_rule s (turned s st t) bank) → T (rank_rule s (turned s st t))
    → T (row_rule s (λ f. places seeds row) (turned s st t) bank row)
    → (n : ℕ) × ((step p s seeds st (request t bank thread row)).reply ≡ answered (Opened n))
unfolding step unless_refused requested decide
opens p s seeds st t bank thread row e q b r o =
    rw (
      e,
      is_true (quota_rule p s (turned s st t) bank thread) q,
      is_true (bank_rule s (turned s st t) bank) b,
      is_true (rank_rule s (turned s st t)) r,
      is_true (row_rule s (λ f. places seeds row) (turned s st t) bank row) o,
    )
    (openings_left s (λ f. places seeds row) (activated s (λ f. places seeds row) (turned s st t) bank thread row) bank, refl)

pub opened_at_wait : (p : Policy) → OpenedAtWait p
unfolding call_refusal
opened_at_wait p s seeds st t bank thread row c u e early cs none_made lastly quota =
    let k = answers p s seeds st t bank thread row (Wait c u) e in
    let ok = taken p.limits s seeds st t bank thread k.free in
    let setting-ok = (or_else_none (setting_refusal p.limits s seeds) _ k.free).0 in
    let d1 : 1 ≤ epoch_length s = omega (arith, epoch_long ok.setting) in
    let at : ℕ → List ℕ = λ f. places seeds row in
    let left = (step p s seeds st (request t bank thread row)).state in
    let z = after p s seeds left cs in
    let l = wait_is_least p.limits s seeds st t bank thread k.free at row in
    let w = waiting p s at (turned s st t) bank thread row c u (held p s seeds st t bank thread row c u k) in
    let passes : T (passes_at s at left bank row u) = subst (λ x. T (passes_at s at x bank row u)) (sym k.left) (subst (λ v. T (passes_at s at (turned s st t) bank row v)) w.0 l.passes) in
    let rules = idle_passes s at left z bank row u d1 (idle_run p s seeds cs left d1 none_made) lastly passes in
    let before : Sound s st = record { long = ok.long; ok = memory s st ok.memory } in
    let h = run_sound p s seeds cs left (step_sound p s seeds st (request t bank thread row) before) in
    opens p s seeds z u bank thread row (sound_free p.limits s seeds z u bank thread setting-ok h ok.bank_in ok.thread_in lastly early) quota rules.0 rules.1 rules.2
