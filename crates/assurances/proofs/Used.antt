-- States with equal heads and equal used parts decide alike and stay so.
use mathlib.Core.Path.{◌≡◌, refl, sym, ap, ap₂, ◌∙◌}
use mathlib.Core.List.{List, [], ◌∷◌}
use mathlib.Core.Bool.{Bool, true, false, not, ◌&&◌, ◌||◌, cond}
use Prim.Native.Nat.{ℕ, suc, ◌+◌, ◌-◌, ◌/◌, ◌%◌, ◌<◌}
use native.Mathlib.Omega.{arith}
use native.Mathlib.Decide.{ℕ_discrete}
use lib.Dec.{T, leb, ltb, eqb, eqb→eq, ltb→lt, lt→ltb}
use lib.ListN.{length, get_or, set, length-set}
use lib.Seq.{get_or-set_same, get_or-set_other}
use Rattle.head.specs.Head.{moved_head, activated_head}
use Rattle.rules.specs.declared.Setting.{Setting}
use Rattle.rules.specs.declared.Limits.{Limits}
use Rattle.rules.specs.declared.Decision.{Decision}
use Rattle.rules.specs.declared.Decision.TheVariants.{Open, Hold, OverQuota}
use Rattle.rules.specs.Cells.{every, clear_cells, least_from}
use Rattle.rules.specs.Answers.{Refusal, none, refusal_number, refuse, none_in_flight}
use Rattle.rules.specs.Setting.{history_length, index_scale, setting_refusal}
use Rattle.rules.specs.State.{State, counters_used, threads_used, counter_cell, thread_cell, row_word, fresh}
use Rattle.rules.specs.Clock.{epoch, clears, active_filter, turned_counters, turned_threads, turned}
use Rattle.rules.specs.Hash.{places}
use Rattle.rules.specs.Filter.{Within, estimate, blacklisted, raised, named}
use Rattle.rules.specs.History.{back, not_after, never_rises, memory_ok, matches, row_free}
use Rattle.rules.specs.Policy.{Policy}
use Rattle.rules.specs.Decision.{passed, quota_rule, bank_rule, rank_rule, active_estimate, row_rule, passes_at, wait_tick, first_failing, decide, activated_threads, activated, answer_of}
use Rattle.rules.specs.Tested.{Long, Taken}
use Rattle.rules.specs.Calls.{Call, request, done, index, refused, answered, shown, Outcome, outcome, call_refusal, done_refusal, call_tick, call_bank, call_thread, refusal_of, unless_refused, after_decision, requested, reported, index_shown, performed, step, replies, after}
use Rattle.rules.specs.Claims.{UsedFlying}
use Rattle.assurances.specs.Claims.{SameUsed, with_limits, SameReplies}
use Rattle.rules.proofs.Tests.{holds, fails, every_same}
use Rattle.rules.proofs.Cells.{thread_in}
use Rattle.rules.proofs.Clearing.{clear_kept, clear_zero}
use Rattle.rules.proofs.Places.{places_within}
use Rattle.rules.proofs.Accept.{taken, call_taken, number_none}
use Rattle.rules.proofs.Ring.{back_lt}
use Rattle.rules.proofs.Filter.{counted_cell}
use Rattle.rules.proofs.Memory.{memory, turned_long, activated_long, reported_long}
use Rattle.rules.proofs.Sound.{long_not_short}

-- ---- cells

clear_cell : (p : ℕ → Bool) (i : ℕ) (a b : List ℕ) → get_or b i 0 ≡ get_or a i 0 → get_or (clear_cells p b) i 0 ≡ get_or (clear_cells p a) i 0
clear_cell p i a b e = go (p i) refl
  where
    go : (q : Bool) → p i ≡ q → get_or (clear_cells p b) i 0 ≡ get_or (clear_cells p a) i 0
    go true k = clear_zero p i b (holds (p i) k) ∙ sym (clear_zero p i a (holds (p i) k))
    go false k = clear_kept p i b (fails (p i) k) ∙ e ∙ sym (clear_kept p i a (fails (p i) k))

set_both : (a b : List ℕ) (j v w i : ℕ) → j < length a → j < length b → w ≡ v → get_or b i 0 ≡ get_or a i 0 → get_or (set b j w) i 0 ≡ get_or (set a j v) i 0
set_both a b j v w i la lb ev e = go (ℕ_discrete i j)
  where
    go : Dec (i ≡ j) → get_or (set b j w) i 0 ≡ get_or (set a j v) i 0
    go (yes q) = rw q (get_or-set_same b j w 0 lb ∙ ev ∙ sym (get_or-set_same a j v 0 la))
    go (no q) = get_or-set_other b j i w 0 q ∙ e ∙ sym (get_or-set_other a j i v 0 q)

-- ---- the clock

pub turned_used : (s : Setting) (a b : State) (t : ℕ) → SameUsed s a b → SameUsed s (turned s a t) (turned s b t)
unfolding turned turned_counters turned_threads moved_head
turned_used s a b t u =
    record {
      long = turned_long s a t u.long;
      long_too = turned_long s b t u.long_too;
      head = ap (λ h. moved_head h t) u.head;
      counters = λ i h. rw u.head (clear_cell (λ j. ltb j (counters_used s) && clears (epoch s a.head.last) (epoch s t) (j / 1024 % 2)) i a.counters b.counters (u.counters i h));
      ticks = u.ticks;
      rows = u.rows;
      threads = λ i h. rw u.head (clear_cell (λ j. ltb j (threads_used s) && (ltb (j % 3) 2 && clears (epoch s a.head.last) (epoch s t) (j % 3))) i a.threads b.threads (u.threads i h));
    }

-- two cleared memories
pub fresh_used : (s : Setting) (a b : State) → Long s (fresh s a) → Long s (fresh s b) → SameUsed s (fresh s a) (fresh s b)
unfolding fresh
fresh_used s a b la lb =
    record {
      long = la;
      long_too = lb;
      head = refl;
      counters = λ i h. zeroed i (counters_used s) a.counters b.counters h;
      ticks = λ i h. zeroed i (history_length s) a.ticks b.ticks h;
      rows = λ i h. zeroed i (history_length s) a.rows b.rows h;
      threads = λ i h. zeroed i (threads_used s) a.threads b.threads h;
    }
  where
    zeroed : (i n : ℕ) (x y : List ℕ) → i < n → get_or (clear_cells (λ j. ltb j n) y) i 0 ≡ get_or (clear_cells (λ j. ltb j n) x) i 0
    zeroed i n x y h =
        let q : T (ltb i n) = lt→ltb i n h in
        clear_zero (λ j. ltb j n) i y q ∙ sym (clear_zero (λ j. ltb j n) i x q)

-- ---- the decision

module _ (s : Setting) (a b : State) (u : SameUsed s a b) where
  cell_used : (bank thread k : ℕ) → bank < s.banks → thread < s.threads → k < 3 → get_or b.threads (thread_cell s bank thread k) 0 ≡ get_or a.threads (thread_cell s bank thread k) 0
  cell_used bank thread k bh th k3 = u.threads (thread_cell s bank thread k) (thread_in s bank thread k bh th k3)

  estimate_used : (bank f : ℕ) (at : List ℕ) → bank < s.banks → f < 2 → Within at → estimate b.counters bank f at ≡ estimate a.counters bank f at
  unfolding estimate
  estimate_used bank f at bh f2 w =
      let one : (p : ℕ) → p < 1024 → get_or b.counters (counter_cell bank f p) 0 ≡ get_or a.counters (counter_cell bank f p) 0 =
      λ p h. u.counters (counter_cell bank f p) (omega arith) in
      rw (one (get_or at 0 0) w.first, one (get_or at 1 0) w.second, one (get_or at 2 0) w.third, one (get_or at 3 0) w.fourth)

  active_used : (at : ℕ → List ℕ) (bank : ℕ) → bank < s.banks → ((f : ℕ) → Within (at f)) → active_estimate s at b bank ≡ active_estimate s at a bank
  active_used at bank bh w =
      let f = active_filter s a.head.last in
      rw u.head (estimate_used bank f (at f) bh (omega arith) (w f))

  free_used : (word t : ℕ) → row_free (history_length s) s.td b.ticks b.rows word t ≡ row_free (history_length s) s.td a.ticks a.rows word t
  unfolding row_free
  free_used word t =
      every_same (history_length s) (λ p. not (matches s.td word t (get_or a.ticks p 0) (get_or a.rows p 0)))
      (λ p. not (matches s.td word t (get_or b.ticks p 0) (get_or b.rows p 0)))
      (λ i h. ap₂ (λ x y. not (matches s.td word t x y)) (u.ticks i h) (u.rows i h))

  row_used : (at : ℕ → List ℕ) (bank row : ℕ) → bank < s.banks → ((f : ℕ) → Within (at f)) → row_rule s at b bank row ≡ row_rule s at a bank row
  row_used at bank row bh w =
      ap₂ (λ x y. not (blacklisted s.n x) || y) (active_used at bank bh w) (rw u.head (free_used (row_word bank row) a.head.last))

  bank_used : (bank : ℕ) → bank_rule s b bank ≡ bank_rule s a bank
  bank_used bank = ap (λ h. passed s.trc (get_or h.bank bank 0) h.last) u.head

  rank_used : rank_rule s b ≡ rank_rule s a
  rank_used = ap (λ h. passed s.tfaw (get_or h.rank 3 0) h.last) u.head

  -- the stored ticks are tested alike
  rises_used : (next : ℕ) → next < history_length s → never_rises (history_length s) next b.ticks ≡ never_rises (history_length s) next a.ticks
  unfolding never_rises
  rises_used next n =
      let H = history_length s in
      every_same (H - 1) (λ i. leb (get_or a.ticks (back H next (suc i)) 0) (get_or a.ticks (back H next i) 0))
      (λ i. leb (get_or b.ticks (back H next (suc i)) 0) (get_or b.ticks (back H next i) 0))
      (λ i h. ap₂ leb (u.ticks (back H next (suc i)) (back_lt H next n (suc i) (omega arith))) (u.ticks (back H next i) (back_lt H next n i (omega arith))))

  pub memory_used : memory_ok s b ≡ memory_ok s a
  unfolding memory_ok
  memory_used = rw u.head (go (ltb next H) refl)
    where
      H : ℕ
      H = history_length s

      next : ℕ
      next = a.head.next

      last : ℕ
      last = a.head.last

      banks : Bool
      banks = every s.banks (λ j. not_after last (get_or a.head.bank j 0))

      rank : Bool
      rank = every 4 (λ k. not_after last (get_or a.head.rank k 0))

      go : (q : Bool) → ltb next H ≡ q
          → (q && banks && rank && every H (λ j. not_after last (get_or b.ticks j 0)) && never_rises H next b.ticks)
          ≡ (q && banks && rank && every H (λ j. not_after last (get_or a.ticks j 0)) && never_rises H next a.ticks)
      go false e = refl
      go true e =
          ap₂ (λ x y. true && banks && rank && x && y)
          (every_same H (λ j. not_after last (get_or a.ticks j 0)) (λ j. not_after last (get_or b.ticks j 0)) (λ j h. ap (not_after last) (u.ticks j h)))
          (rises_used next (ltb→lt next H (holds (ltb next H) e)))

-- the wait tick
wait_used : (s : Setting) (a b : State) → SameUsed s a b → (at : ℕ → List ℕ) (bank row : ℕ) → bank < s.banks → ((f : ℕ) → Within (at f))
    → wait_tick s at b bank row ≡ wait_tick s at a bank row
unfolding wait_tick passes_at
wait_used s a b u at bank row bh w =
    ap₂ (λ f t. least_from f t (s.trc + s.tfaw + s.td)) (λ k v. passes v k) (ap (λ h. h.last) u.head)
  where
    passes : (v : ℕ) → passes_at s at b bank row v ≡ passes_at s at a bank row v
    passes v =
        let x = turned_used s a b v u in
        ap₂ (λ p q. p && q) (bank_used s (turned s a v) (turned s b v) x bank)
        (ap₂ (λ p q. p && q) (rank_used s (turned s a v) (turned s b v) x) (row_used s (turned s a v) (turned s b v) x at bank row bh w))

module _ (p : Policy) (fly : UsedFlying p) (m : Limits) (s : Setting) where
  abbrev q : Policy
  q = with_limits p m

  quota_used : (a b : State) → SameUsed s a b → (bank thread : ℕ) → bank < s.banks → thread < s.threads → quota_rule q s b bank thread ≡ quota_rule p s a bank thread
  quota_used a b u bank thread bh th =
      let f = active_filter s a.head.last in
      rw u.head
      (ap₂ (λ x y. ltb x (p.quota s y)) (fly s a.threads b.threads bank thread bh th u.threads) (cell_used s a b u bank thread f bh th (omega arith)))

  decide_used : (a b : State) → SameUsed s a b → (at : ℕ → List ℕ) (bank thread row : ℕ) → bank < s.banks → thread < s.threads → ((f : ℕ) → Within (at f))
      → decide q s at b bank thread row ≡ decide p s at a bank thread row
  unfolding decide
  decide_used a b u at bank thread row bh th w =
      ap (λ x. first_failing x (bank_rule s b bank) (rank_rule s b) (row_rule s at b bank row) (wait_tick s at b bank row)) (quota_used a b u bank thread bh th)
      ∙ ap (λ x. first_failing (quota_rule p s a bank thread) x (rank_rule s b) (row_rule s at b bank row) (wait_tick s at b bank row)) (bank_used s a b u bank)
      ∙ ap (λ x. first_failing (quota_rule p s a bank thread) (bank_rule s a bank) x (row_rule s at b bank row) (wait_tick s at b bank row)) (rank_used s a b u)
      ∙ ap₂ (λ x y. first_failing (quota_rule p s a bank thread) (bank_rule s a bank) (rank_rule s a) x y) (row_used s a b u at bank row bh w) (wait_used s a b u at bank row bh w)

-- ---- an activation and a done

activated_used : (s : Setting) (a b : State) → SameUsed s a b → (at : ℕ → List ℕ) (bank thread row : ℕ) → bank < s.banks → thread < s.threads
    → ((f : ℕ) → Within (at f)) → a.head.next < history_length s → SameUsed s (activated s at a bank thread row) (activated s at b bank thread row)
unfolding activated activated_threads
activated_used s a b u at bank thread row bh th w in_ring =
    record {
      long = activated_long s at a bank thread row u.long;
      long_too = activated_long s at b bank thread row u.long_too;
      head = ap (λ h. activated_head (history_length s) h bank) u.head;
      counters = λ i h.
          counted_cell s.n bank at b.counters i (omega (arith, u.long_too.counters))
          ∙ ap (λ x. cond (named bank at i) (raised s.n x) x) (u.counters i h)
          ∙ sym (counted_cell s.n bank at a.counters i (omega (arith, u.long.counters)));
      ticks = λ i h. rw u.head (set_both a.ticks b.ticks a.head.next _ _ i (omega (arith, u.long.ticks)) (omega (arith, u.long_too.ticks)) refl (u.ticks i h));
      rows = λ i h. rw u.head (set_both a.rows b.rows a.head.next _ _ i (omega (arith, u.long.rows)) (omega (arith, u.long_too.rows)) refl (u.rows i h));
      threads = λ i h. rw (active_used s a b u at bank bh w) (go (blacklisted s.n (active_estimate s at a bank)) i (u.threads i h));
    }
  where
    value : (k : ℕ) → k < 3 → get_or b.threads (thread_cell s bank thread k) 0 ≡ get_or a.threads (thread_cell s bank thread k) 0
    value k k3 = cell_used s a b u bank thread k bh th k3

    in_a : (k : ℕ) → k < 3 → thread_cell s bank thread k < length a.threads
    in_a k k3 = omega (arith, thread_in s bank thread k bh th k3, u.long.threads)

    in_b : (k : ℕ) → k < 3 → thread_cell s bank thread k < length b.threads
    in_b k k3 = omega (arith, thread_in s bank thread k bh th k3, u.long_too.threads)

    flying : List ℕ → List ℕ
    flying ts = set ts (thread_cell s bank thread 2) (get_or ts (thread_cell s bank thread 2) 0 + 1)

    first : List ℕ → List ℕ
    first ts = set (flying ts) (thread_cell s bank thread 0) (raised (index_scale s) (get_or ts (thread_cell s bank thread 0) 0))

    flying_same : (i : ℕ) → get_or b.threads i 0 ≡ get_or a.threads i 0 → get_or (flying b.threads) i 0 ≡ get_or (flying a.threads) i 0
    flying_same i e = set_both a.threads b.threads (thread_cell s bank thread 2) _ _ i (in_a 2 (omega arith)) (in_b 2 (omega arith)) (ap (λ x. x + 1) (value 2 (omega arith))) e

    first_same : (i : ℕ) → get_or b.threads i 0 ≡ get_or a.threads i 0 → get_or (first b.threads) i 0 ≡ get_or (first a.threads) i 0
    first_same i e =
        set_both (flying a.threads) (flying b.threads) (thread_cell s bank thread 0) _ _ i (rw length-set (in_a 0 (omega arith))) (rw length-set (in_b 0 (omega arith)))
        (ap (raised (index_scale s)) (value 0 (omega arith))) (flying_same i e)

    go : (black : Bool) (i : ℕ) → get_or b.threads i 0 ≡ get_or a.threads i 0
        → get_or (cond black (set (first b.threads) (thread_cell s bank thread 1) (raised (index_scale s) (get_or b.threads (thread_cell s bank thread 1) 0))) (flying b.threads)) i 0
        ≡ get_or (cond black (set (first a.threads) (thread_cell s bank thread 1) (raised (index_scale s) (get_or a.threads (thread_cell s bank thread 1) 0))) (flying a.threads)) i 0
    go true i e =
        set_both (first a.threads) (first b.threads) (thread_cell s bank thread 1) _ _ i
        (rw (length-set, length-set) (in_a 1 (omega arith))) (rw (length-set, length-set) (in_b 1 (omega arith)))
        (ap (raised (index_scale s)) (value 1 (omega arith))) (first_same i e)
    go false i e = flying_same i e

reported_used : (s : Setting) (a b : State) → SameUsed s a b → (bank thread : ℕ) → bank < s.banks → thread < s.threads
    → SameUsed s (reported s a bank thread).state (reported s b bank thread).state
unfolding reported
reported_used s a b u bank thread bh th =
    let c = thread_cell s bank thread 2 in
    let k = thread_in s bank thread 2 bh th (omega arith) in
    record {
      long = reported_long s a bank thread u.long;
      long_too = reported_long s b bank thread u.long_too;
      head = u.head;
      counters = u.counters;
      ticks = u.ticks;
      rows = u.rows;
      threads = λ i h. set_both a.threads b.threads c _ _ i (omega (arith, u.long.threads)) (omega (arith, u.long_too.threads))
          (ap (λ x. x - 1) (cell_used s a b u bank thread 2 bh th (omega arith))) (u.threads i h);
    }

next_turned : (s : Setting) (st : State) (t : ℕ) → st.head.next < history_length s → (turned s st t).head.next < history_length s
unfolding turned moved_head
next_turned s st t h = h

-- ---- a call

-- equal replies, and used parts that are equal again
abbrev Alike : Setting → Outcome → Outcome → Type 0
Alike s o o' = (o'.reply ≡ o.reply) × SameUsed s o.state o'.state

module _ (p : Policy) (fly : UsedFlying p) (m : Limits) (s : Setting) (seeds : List ℕ) (e : setting_refusal p.limits s seeds ≡ none) (e' : setting_refusal m s seeds ≡ none) where
  call_used : (a b : State) → SameUsed s a b → (t bank thread : ℕ) → call_refusal m s seeds b t bank thread ≡ call_refusal p.limits s seeds a t bank thread
  unfolding call_refusal
  call_used a b u t bank thread =
      rw (e, e', long_not_short s a u.long, long_not_short s b u.long_too, memory_used s a b u, u.head)

  done_used : (a b : State) → SameUsed s a b → (t bank thread : ℕ) → done_refusal m s seeds b t bank thread ≡ done_refusal p.limits s seeds a t bank thread
  unfolding done_refusal
  done_used a b u t bank thread = rw (call_used a b u t bank thread) (go (eqb (refusal_number r) 0) refl)
    where
      r : Refusal
      r = call_refusal p.limits s seeds a t bank thread

      flying : State → Refusal
      flying st = refuse (eqb (get_or st.threads (thread_cell s bank thread 2) 0) 0) none_in_flight none

      go : (z : Bool) → eqb (refusal_number r) 0 ≡ z → cond z (flying b) r ≡ cond z (flying a) r
      go true k =
          let x = taken p.limits s seeds a t bank thread (number_none r (eqb→eq (refusal_number r) 0 (holds (eqb (refusal_number r) 0) k))) in
          ap (λ y. refuse (eqb y 0) none_in_flight none) (cell_used s a b u bank thread 2 x.bank_in x.thread_in (omega arith))
      go false k = refl

  refusal_used : (a b : State) → SameUsed s a b → (c : Call) → refusal_of m s seeds b c ≡ refusal_of p.limits s seeds a c
  refusal_used a b u (request t bank thread row) = call_used a b u t bank thread
  refusal_used a b u (done t bank thread) = done_used a b u t bank thread
  refusal_used a b u (index t bank thread) = call_used a b u t bank thread

  performed_used : (a b : State) → SameUsed s a b → (c : Call) → Taken p.limits s seeds a (call_tick c) (call_bank c) (call_thread c)
      → Alike s (performed p s (λ f. seeds) a c) (performed (with_limits p m) s (λ f. seeds) b c)
  unfolding requested reported index_shown
  performed_used a b u (request t bank thread row) k =
      rw (decide_used p fly m s x y v at bank thread row k.bank_in k.thread_in w) (
        ap (λ e. answered (answer_of (decide p s at x bank thread row) (s.n - e))) (active_used s (opened x) (opened y) both at bank k.bank_in w),
        go (decide p s at x bank thread row),
      )
    where
      x : State
      x = turned s a t

      y : State
      y = turned s b t

      v : SameUsed s (turned s a t) (turned s b t)
      v = turned_used s a b t u

      at : ℕ → List ℕ
      at f = places seeds row

      w : (f : ℕ) → Within (places seeds row)
      w f = places_within seeds k.setting.seeds_ok row

      opened : State → State
      opened z = activated s at z bank thread row

      both : SameUsed s (opened (turned s a t)) (opened (turned s b t))
      both = activated_used s x y v at bank thread row k.bank_in k.thread_in w (next_turned s a t (memory s a k.memory).in_ring)

      go : (d : Decision) → SameUsed s (after_decision d (turned s a t) (opened (turned s a t))) (after_decision d (turned s b t) (opened (turned s b t)))
      go Open = both
      go (Hold c u') = v
      go OverQuota = v
  performed_used a b u (done t bank thread) k = (refl, reported_used s (turned s a t) (turned s b t) (turned_used s a b t u) bank thread k.bank_in k.thread_in)
  performed_used a b u (index t bank thread) k =
      let v = turned_used s a b t u in
      let f = active_filter s (turned s a t).head.last in
      (rw v.head (ap (λ z. shown z (index_scale s) (p.quota s z)) (cell_used s (turned s a t) (turned s b t) v bank thread f k.bank_in k.thread_in (omega arith))), v)

  step_used : (a b : State) → SameUsed s a b → (c : Call) → Alike s (step p s seeds a c) (step (with_limits p m) s seeds b c)
  unfolding step unless_refused
  step_used a b u c = rw (refusal_used a b u c) (go (eqb (refusal_number r) 0) refl)
    where
      r : Refusal
      r = refusal_of p.limits s seeds a c

      go : (z : Bool) → eqb (refusal_number r) 0 ≡ z
          → Alike s (cond z (performed p s (λ f. seeds) a c) (outcome (refused r) a)) (cond z (performed (with_limits p m) s (λ f. seeds) b c) (outcome (refused r) b))
      go true k = performed_used a b u c (call_taken p.limits s seeds a c (number_none r (eqb→eq (refusal_number r) 0 (holds (eqb (refusal_number r) 0) k))))
      go false k = (refl, u)

  pub run_used : (a b : State) → SameUsed s a b → (cs : List Call)
      → (replies (with_limits p m) s seeds b cs ≡ replies p s seeds a cs) × SameUsed s (after p s seeds a cs) (after (with_limits p m) s seeds b cs)
  run_used a b u [] = (refl, u)
  run_used a b u (c ∷ cs) =
      let x = step_used a b u c in
      let rest = run_used (step p s seeds a c).state (step (with_limits p m) s seeds b c).state x.1 cs in
      (ap₂ (λ y ys. y ∷ ys) x.0 rest.0, rest.1)

pub same_replies : (p : Policy) → UsedFlying p → SameReplies p
same_replies p fly m s seeds e e' a b u cs = run_used p fly m s seeds e e' a b u cs
