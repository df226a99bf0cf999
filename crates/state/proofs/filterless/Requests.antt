-- A request that is not refused: what its parts give, put together, for the rules in force under any limits within the widest, and counters of every
-- width.
use Prim.Native.Nat.{ℕ, ◌+◌, ◌-◌, ◌%◌, ◌<◌}
use mathlib.Core.Path.{◌≡◌, refl, sym, ap, ap₂, ◌∙◌, subst}
use mathlib.Core.Bool.{true, false, cond, true≢false}
use mathlib.Core.List.{List}
use native.Mathlib.Omega.{arith}
use lib.ListN.{get_or, set}
use Rattle.head.specs.declared.Head.{Head}
use Rattle.head.specs.Head.{moved_head, activated_head}
use Rattle.rules.specs.declared.Setting.{Setting}
use Rattle.rules.specs.declared.Limits.{Limits}
use Rattle.rules.specs.declared.Decision.{Decision}
use Rattle.rules.specs.declared.Decision.TheVariants.{Open, Hold, OverQuota}
use Rattle.rules.specs.declared.Answer.{Answer}
use Rattle.rules.specs.Setting.{history_length}
use Rattle.rules.specs.State.{State, counters_used, threads_used, thread_cell, row_word, state}
use Rattle.rules.specs.Clock.{epoch, turned_counters, turned_threads, turned}
use Rattle.rules.specs.Hash.{places}
use Rattle.rules.specs.Filter.{two, estimate, blacklisted, counted}
use Rattle.rules.specs.Policy.{Policy, limits01, limits02, in_force}
use Rattle.rules.specs.Decision.{active_estimate, decide, activated_threads, activated, openings_left, opens, answer_of}
use Rattle.rules.specs.Tested.{Accepted, Taken, Sound}
use Rattle.rules.specs.Calls.{answered, after_decision, Outcome, outcome, requested}
use Rattle.rules.proofs.Accept.{epoch_long, scale_pos}
use Rattle.rules.proofs.Filter.{both_same}
use Rattle.rules.proofs.Places.{places_within}
use Rattle.rules.proofs.Memory.{taken_memory, turned_long, activated_long, activated_memory}
use Rattle.rules.proofs.Step.{opened_rules}
use Rattle.assurances.proofs.InForce.{in_force_regular}
use Rattle.assurances.proofs.Fits as fits
use Rattle.decision.specs.Numbers.{decide_from, passive_estimate, view_of}
use Rattle.decision.proofs.Views.{decide_view}
use Rattle.state.specs.Ready.{WithinWidest, Bounds, Ready}
use Rattle.state.specs.DecisionBy.{decision_by}

-- ---- what an accepted setting gives

-- the limits of both widths
pub narrow_widest : WithinWidest limits01
narrow_widest = record { threshold = omega arith; history = omega arith }

pub wide_widest : WithinWidest limits02
wide_widest = record { threshold = omega arith; history = omega arith }

pub bounds : {m : Limits} {s : Setting} {seeds : List ℕ} → WithinWidest m → Accepted m s seeds → Bounds s
bounds w ok =
    let r = ok.ranges in
    record {
      ranges = record {
        w_low = r.w_low;
        w_high = r.w_high;
        even = r.even;
        trc_low = r.trc_low;
        trc_high = r.trc_high;
        tfaw_low = r.tfaw_low;
        tfaw_high = r.tfaw_high;
        n_low = r.n_low;
        n_high = omega (arith, r.n_high, w.threshold);
        td_low = r.td_low;
        td_high = r.td_high;
        l_low = r.l_low;
        l_high = r.l_high;
        q_low = r.q_low;
        q_high = r.q_high;
        banks_low = r.banks_low;
        banks_high = r.banks_high;
        threads_low = r.threads_low;
        threads_high = r.threads_high;
        mark = r.mark;
      };
      epoch = epoch_long ok;
      delay = ok.delay;
      scale = scale_pos ok;
      history = omega (arith, ok.short, w.history);
    }

-- ---- a request

-- its setting, the state that it finds, and its arguments; it meets none of refusals 1 to 9 and 16
pub record Asked (m : Limits) : Type 0 where
  pub widest : WithinWidest m
  pub s : Setting
  pub seeds : List ℕ
  pub found : State
  pub tick : ℕ
  pub bank : ℕ
  pub thread : ℕ
  pub row : ℕ
  pub taken : Taken m s seeds found tick bank thread

-- What its parts have given when it is to be settled: the head and the thread counters turned, the row's places, the filters turned, and its estimates.
pub record Read {m : Limits} (q : Asked m) : Type 0 where
  pub head : Head
  pub to : ℕ
  pub threads : List ℕ
  pub four : List ℕ
  pub counters : List ℕ
  pub active : ℕ
  pub other : ℕ
  pub head_is : head ≡ moved_head q.found.head q.tick
  pub to_is : to ≡ epoch q.s q.tick
  pub threads_is : threads ≡ turned_threads (threads_used q.s) (epoch q.s q.found.head.last) (epoch q.s q.tick) q.found.threads
  pub four_is : four ≡ places q.seeds q.row
  pub counters_is : counters ≡ turned_counters (counters_used q.s) (epoch q.s q.found.head.last) (epoch q.s q.tick) q.found.counters
  pub active_is : active ≡ estimate counters q.bank (to % 2) (two four four (to % 2))
  pub other_is : other ≡ estimate counters q.bank (1 - to % 2) (two four four (1 - to % 2))

pub turned_parts : (s : Setting) (st : State) (tick : ℕ) (h : Head) (counters threads : List ℕ)
    → h ≡ moved_head st.head tick
    → counters ≡ turned_counters (counters_used s) (epoch s st.head.last) (epoch s tick) st.counters
    → threads ≡ turned_threads (threads_used s) (epoch s st.head.last) (epoch s tick) st.threads
    → state h counters st.ticks st.rows threads ≡ turned s st tick
unfolding turned
turned_parts s st tick h counters threads e1 e2 e3 =
    λ i. record { head = e1 i; counters = e2 i; ticks = st.ticks; rows = st.rows; threads = e3 i }

module _ {m : Limits} (q : Asked m) where
  abbrev p : Policy
  p = in_force m

  -- the state turned to the tick, the row's places by filter, and the state after an activation
  abbrev moved : State
  moved = turned q.s q.found q.tick

  abbrev at : ℕ → List ℕ
  at f = places q.seeds q.row

  abbrev opened : State
  opened = activated q.s at moved q.bank q.thread q.row

  ready : Ready q.s moved.head moved.ticks moved.rows moved.threads q.bank q.thread
  unfolding turned moved_head
  ready =
      let k = q.taken in
      let l = turned_long q.s q.found q.tick k.long in
      record {
        bounds = bounds q.widest k.setting;
        ticks_long = l.ticks;
        rows_long = l.rows;
        threads_long = l.threads;
        memory = taken_memory k;
        bank_in = k.bank_in;
        thread_in = k.thread_in;
        early = k.early;
      }

  moved_sound : Sound q.s moved
  moved_sound = record { long = turned_long q.s q.found q.tick q.taken.long; ok = taken_memory q.taken }

  opened_sound : Sound q.s opened
  opened_sound =
      record {
        long = activated_long q.s at moved q.bank q.thread q.row moved_sound.long;
        ok = activated_memory q.s at moved q.bank q.thread q.row moved_sound.long moved_sound.ok;
      }

  decision_opens : (d : Decision) → opens d ≡ true → d ≡ Open
  decision_opens Open e = refl
  decision_opens (Hold c u) e = absurd (true≢false (sym e))
  decision_opens OverQuota e = absurd (true≢false (sym e))

  -- what the rules reply and leave, by the decision
  abbrev by_decision : Decision → Outcome
  by_decision d = outcome (answered (answer_of d (openings_left q.s at opened q.bank))) (after_decision d moved opened)

  module _ (r : Read q) where
    abbrev h : Head
    h = r.head

    abbrev to : ℕ
    to = r.to

    abbrev threads : List ℕ
    threads = r.threads

    abbrev four : List ℕ
    four = r.four

    abbrev counters : List ℕ
    counters = r.counters

    -- the decision from the estimates that were read
    abbrev decision : Decision
    decision = decision_by q.s r.active r.other h q.found.ticks q.found.rows threads q.bank q.thread q.row

    -- the state whose clock has moved
    turned_is : state h counters q.found.ticks q.found.rows threads ≡ moved
    turned_is = turned_parts q.s q.found q.tick h counters threads r.head_is r.counters_is r.threads_is

    pub ready_at : Ready q.s h q.found.ticks q.found.rows threads q.bank q.thread
    ready_at = subst (λ x. Ready q.s x.head x.ticks x.rows x.threads q.bank q.thread) (sym turned_is) ready

    -- the epoch is that of the last tick
    pub epoch_at : to ≡ epoch q.s h.last
    unfolding moved_head
    epoch_at = r.to_is ∙ ap (λ d. epoch q.s d.last) (sym r.head_is)

    places_at : two four four ≡ at
    places_at = both_same r.four_is

    active_at : r.active ≡ active_estimate q.s at moved q.bank
    active_at =
        r.active_is ∙ ap₂ (λ x y. estimate counters q.bank (x % 2) (y (x % 2))) epoch_at places_at
        ∙ ap (λ x. active_estimate q.s at x q.bank) turned_is

    other_at : r.other ≡ passive_estimate q.s at moved q.bank
    other_at =
        let f : 1 - to % 2 ≡ (to + 1) % 2 = omega arith in
        r.other_is ∙ ap₂ (λ x y. estimate counters q.bank x (y x)) f places_at
        ∙ ap (λ x. estimate counters q.bank ((x + 1) % 2) (at ((x + 1) % 2))) epoch_at ∙ ap (λ x. passive_estimate q.s at x q.bank) turned_is

    -- the decision is the one of the rules
    decision_at : (d : Decision) → d ≡ decision
        → d ≡ decide p q.s at moved q.bank q.thread q.row
    unfolding decision_by turned moved_head view_of
    decision_at d ed =
        let k = q.taken in
        ed
        ∙ ap (λ x. decide_from q.s x.head.last (view_of p q.s r.active r.other x.head x.ticks x.rows x.threads q.bank q.thread q.row)) turned_is
        ∙ ap₂ (λ x y. decide_from q.s q.tick (view_of p q.s x y moved.head moved.ticks moved.rows moved.threads q.bank q.thread q.row)) active_at other_at
        ∙ sym (decide_view p q.s at moved q.bank q.thread q.row (taken_memory k) k.bank_in (omega (arith, epoch_long k.setting)) k.setting.delay (places_within q.seeds k.setting.seeds_ok q.row))

    -- whether the row was blacklisted, by the estimate that the code has read
    black_at : activated_threads q.s threads q.bank q.thread (blacklisted q.s.n r.active)
        ≡ activated_threads q.s threads q.bank q.thread (blacklisted q.s.n (active_estimate q.s (two four four) (state h counters q.found.ticks q.found.rows threads) q.bank))
    black_at =
        ap (λ x. activated_threads q.s threads q.bank q.thread (blacklisted q.s.n x))
        (r.active_is ∙ ap (λ x. estimate counters q.bank (x % 2) (two four four (x % 2))) epoch_at)

    -- an opened request has few in flight
    pub few_at : opens (decision) ≡ true
        → get_or threads (thread_cell q.s q.bank q.thread 2) 0 < 255
    few_at e =
        let k = q.taken in
        let rules = opened_rules p q.s at moved q.bank q.thread q.row (sym (decision_at decision refl) ∙ decision_opens decision e) in
        subst (λ x. get_or x.threads (thread_cell q.s q.bank q.thread 2) 0 < 255) (sym turned_is)
        (fits.few_flying p (in_force_regular m) q.s q.seeds moved q.bank q.thread k.setting k.bank_in k.thread_in rules.0)

    module _ (d : Decision) (ed : d ≡ decision) where
      -- what a request that has this answer and leaves this state is to the rules
      abbrev Answers : Answer → State → Type 0
      Answers a left = (outcome (answered a) left ≡ requested p q.s at moved q.bank q.thread q.row) × Sound q.s left

      -- a request that waits leaves the turned state, and has no openings left to tell
      pub waits_at : (a : Answer) → opens d ≡ false → a ≡ answer_of d 0 → Answers a (state h counters q.found.ticks q.found.rows threads)
      unfolding requested
      waits_at a e ea =
          ((λ i. outcome (answered (ea i)) (turned_is i)) ∙ waits d e ∙ ap by_decision (decision_at d ed), subst (λ x. Sound q.s x) (sym turned_is) moved_sound)
        where
          waits : (d : Decision) → opens d ≡ false → outcome (answered (answer_of d 0)) moved ≡ by_decision d
          waits Open e = absurd (true≢false e)
          waits (Hold c u) e = refl
          waits OverQuota e = refl

      -- a request that is opened leaves the state after the activation, and tells the openings left from the estimate then
      pub opens_at : (h' : Head) (ticks' rows' threads' : List ℕ)
          → (h' ≡ activated_head (history_length q.s) h q.bank) × (ticks' ≡ set q.found.ticks h.next (h.last + 1))
          × (rows' ≡ set q.found.rows h.next (row_word q.bank q.row))
          × (threads' ≡ activated_threads q.s threads q.bank q.thread (blacklisted q.s.n r.active))
          → (a : Answer) (cs : List ℕ) (est : ℕ) → opens d ≡ true → cs ≡ counted q.s.n q.bank (two four four) counters
          → est ≡ estimate cs q.bank (to % 2) (two four four (to % 2)) → a ≡ answer_of d (q.s.n - est) → Answers a (state h' cs ticks' rows' threads')
      unfolding requested activated activated_head moved_head
      opens_at h' ticks' rows' threads' w a cs est e ec ee ea =
          let same : state h' cs ticks' rows' threads' ≡ activated q.s (two four four) (state h counters q.found.ticks q.found.rows threads) q.bank q.thread q.row =
          (λ i. state (w.0 i) (ec i) (w.1 i) (w.2 i) ((w.3 ∙ black_at) i)) in
          let after : state h' cs ticks' rows' threads' ≡ opened =
          same ∙ ap₂ (λ x y. activated q.s x y q.bank q.thread q.row) places_at turned_is in
          let told : est ≡ active_estimate q.s at (state h' cs ticks' rows' threads') q.bank =
          ee ∙ ap₂ (λ x y. estimate cs q.bank (x % 2) (y (x % 2))) (epoch_at ∙ ap (λ x. epoch q.s x.last) (sym w.0)) places_at in
          let left : q.s.n - est ≡ openings_left q.s at opened q.bank = ap (λ x. q.s.n - x) (told ∙ ap (λ x. active_estimate q.s at x q.bank) after) in
          ((λ i. outcome (answered ((ea ∙ ap (answer_of d) left) i)) (after i)) ∙ sym (state_is d e) ∙ ap by_decision (decision_at d ed), subst (λ x. Sound q.s x) (sym after) opened_sound)
        where
          state_is : (d : Decision) → opens d ≡ true → by_decision d ≡ outcome (answered (answer_of d (openings_left q.s at opened q.bank))) opened
          state_is d e = ap (λ b. outcome (answered (answer_of d (openings_left q.s at opened q.bank))) (cond b opened moved)) e
