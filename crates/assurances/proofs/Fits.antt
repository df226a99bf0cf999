-- Stored cells stay within their widths: counters of any width w with N below 2^w, 64-bit ticks and head, 32-bit rows and thread counters.
use mathlib.Core.Path.{◌≡◌, refl}
use mathlib.Core.List.{List, [], ◌∷◌, ◌++◌}
use mathlib.Core.Bool.{Bool, true, false, ◌&&◌, cond}
use Prim.Native.Nat.{ℕ, zero, suc, ◌+◌, ◌-◌, ◌/◌, ◌%◌, ◌^◌, ◌≤◌, ◌<◌}
use native.Mathlib.Omega.{arith}
use native.Mathlib.Nat.{add-zero, div-le_self}
use lib.Dec.{T, ltb, ltb→lt, lit<}
use lib.ListN.{get_or, set, replicate}
use Rattle.head.specs.declared.Head.{Head}
use Rattle.head.specs.Head.{moved_head, cells, activated_head}
use Rattle.rules.specs.declared.Setting.{Setting}
use Rattle.rules.specs.declared.Limits.{Limits}
use Rattle.rules.specs.declared.Decision.{Decision}
use Rattle.rules.specs.declared.Decision.TheVariants.{Open, Hold, OverQuota}
use Rattle.rules.specs.Cells.{clear_cells, All}
use Rattle.rules.specs.Setting.{history_length, index_scale}
use Rattle.rules.specs.State.{State, counters_used, threads_used, thread_cell, row_word, head_words, fresh_head, fresh}
use Rattle.rules.specs.Clock.{epoch, clears, active_filter, turned_counters, turned_threads, turned}
use Rattle.rules.specs.Hash.{places}
use Rattle.rules.specs.Filter.{raised}
use Rattle.rules.specs.Quota.{index_counter}
use Rattle.rules.specs.Policy.{Policy}
use Rattle.rules.specs.Tested.{Ranges, Accepted, Taken}
use Rattle.rules.specs.Decision.{quota_rule, decide, activated_threads, activated}
use Rattle.rules.specs.Calls.{Call, request, done, index, call_tick, call_bank, call_thread, performed, refusal_of, after_decision, requested, reported, index_shown, step, after}
use Rattle.assurances.specs.Claims.{Regular, Fits, Stored, RowFits, StepFits, RunFits}
use Rattle.rules.proofs.Cells.{set_cell, all_map_from, get_or_first}
use Rattle.rules.proofs.Accept.{call_taken}
use Rattle.rules.proofs.Ring.{next_lt}
use Rattle.rules.proofs.Filter.{raised_lt, counted_fits}
use Rattle.rules.proofs.Memory.{memory}
use Rattle.rules.proofs.Step.{opened_rules, by_refusal}

-- ---- lists of cells below a bound

module _ (m : ℕ) where
  abbrev pub Below : List ℕ → Type 0
  Below cs = All (λ c. c < m) cs

  below_set : (l : List ℕ) (i v : ℕ) → v < m → Below l → Below (set l i v)
  below_set [] i v h a = tt
  below_set (c ∷ cs) zero v h a = (h, a.1)
  below_set (c ∷ cs) (suc i) v h a = (a.0, below_set cs i v h a.1)

  below_clear : (p : ℕ → Bool) (l : List ℕ) → Below l → Below (clear_cells p l)
  below_clear p l a = all_map_from (λ c. c < m) (λ i c. cond (p i) 0 c) (λ i c h. pick (p i) c h) 0 l a
    where
      pick : (q : Bool) (c : ℕ) → c < m → cond q 0 c < m
      pick true c h = omega arith
      pick false c h = h

  pub below_at : (l : List ℕ) (i : ℕ) → 0 < m → Below l → get_or l i 0 < m
  below_at [] i h a = h
  below_at (c ∷ cs) zero h a = a.0
  below_at (c ∷ cs) (suc i) h a = below_at cs i h a.1

  below_append : (xs ys : List ℕ) → Below xs → Below ys → Below (xs ++ ys)
  below_append [] ys a b = b
  below_append (x ∷ xs) ys a b = (a.0, below_append xs ys a.1 b)

  below_parts : (xs ys : List ℕ) → Below (xs ++ ys) → Below xs × Below ys
  below_parts [] ys a = (tt, a)
  below_parts (x ∷ xs) ys a =
      let r = below_parts xs ys a.1 in
      ((a.0, r.0), r.1)

  -- the n cells from i on
  below_cells : (l : List ℕ) (i n : ℕ) → ((j : ℕ) → j < n → get_or l (i + j) 0 < m) → Below (cells l i n)
  below_cells l i zero f = tt
  below_cells l i (suc n) f =
      let first = f 0 (omega arith) in
      (rw add-zero at first, below_cells l (suc i) n (λ j h. let e : i + suc j ≡ suc i + j = omega arith in rw e at (f (suc j) (omega arith))))

  cells_below : (l : List ℕ) (i n : ℕ) → Below (cells l i n) → (j : ℕ) → j < n → get_or l (i + j) 0 < m
  cells_below l i zero a j h = absurd (omega arith)
  cells_below l i (suc n) a zero h = rw add-zero a.0
  cells_below l i (suc n) a (suc j) h =
      let e : i + suc j ≡ suc i + j = omega arith in
      rw e (cells_below l (suc i) n a.1 j (omega arith))

-- ---- the head

-- a head whose 22 words are below the bound
record Words (m : ℕ) (d : Head) : Type 0 where
  last : d.last < m
  next : d.next < m
  bank : (j : ℕ) → j < 16 → get_or d.bank j 0 < m
  rank : (j : ℕ) → j < 4 → get_or d.rank j 0 < m

words : (m : ℕ) (d : Head) → All (λ c. c < m) (head_words d) → Words m d
unfolding head_words
words m d a =
    let r = below_parts m (cells d.bank 0 16) (cells d.rank 0 4) a.1.1 in
    record {
      last = a.0;
      next = a.1.0;
      bank = λ j h. let e : 0 + j ≡ j = omega arith in rw e at (cells_below m d.bank 0 16 r.0 j h);
      rank = λ j h. let e : 0 + j ≡ j = omega arith in rw e at (cells_below m d.rank 0 4 r.1 j h);
    }

from_words : (m : ℕ) (d : Head) → Words m d → All (λ c. c < m) (head_words d)
unfolding head_words
from_words m d w = (
  w.last,
  (
    w.next,
    below_append m (cells d.bank 0 16) (cells d.rank 0 4)
        (below_cells m d.bank 0 16 (λ j h. let e : 0 + j ≡ j = omega arith in rw e (w.bank j h)))
        (below_cells m d.rank 0 4 (λ j h. let e : 0 + j ≡ j = omega arith in rw e (w.rank j h))),
  ),
)

activated_words : (m h : ℕ) (d : Head) (b : ℕ) → Words m d → d.next < h → h ≤ m → d.last + 1 < m → Words m (activated_head h d b)
unfolding activated_head
activated_words m h d b w nh hm lm =
    record {
      last = w.last;
      next = omega (arith, next_lt h d.next nh);
      bank = λ j k. set_cell (λ x. x < m) d.bank b j (d.last + 1) lm (w.bank j k);
      rank = rank;
    }
  where
    rank : (j : ℕ) → j < 4 → get_or ((d.last + 1) ∷ cells d.rank 0 3) j 0 < m
    rank zero k = lm
    rank (suc j) k = rw (get_or_first d.rank 3 j (omega arith)) (w.rank j (omega arith))

-- ---- one call

turned_stored : (w t : ℕ) (s : Setting) (st : State) → t < 2 ^ 62 → Stored w st → Stored w (turned s st t)
unfolding turned turned_counters turned_threads moved_head
turned_stored w t s st early f =
    let d = words (2 ^ 64) st.head f.head in
    record {
      head = from_words (2 ^ 64) (moved_head st.head t) (record { last = omega arith; next = d.next; bank = d.bank; rank = d.rank });
      counters = below_clear (2 ^ w) (λ i. ltb i (counters_used s) && clears (epoch s st.head.last) (epoch s t) (i / 1024 % 2)) st.counters f.counters;
      ticks = f.ticks;
      rows = f.rows;
      threads = below_clear (2 ^ 32) (λ i. ltb i (threads_used s) && (ltb (i % 3) 2 && clears (epoch s st.head.last) (epoch s t) (i % 3))) st.threads f.threads;
    }

activated_threads_fit : (s : Setting) (ts : List ℕ) (b th : ℕ) (black : Bool) → index_scale s < 2 ^ 32 → get_or ts (thread_cell s b th 2) 0 < 255
    → Fits 32 ts → Fits 32 (activated_threads s ts b th black)
unfolding activated_threads
activated_threads_fit s ts b th black scale few f = pick black
  where
    flying : List ℕ
    flying = set ts (thread_cell s b th 2) (get_or ts (thread_cell s b th 2) 0 + 1)

    flies : Fits 32 flying
    flies = below_set (2 ^ 32) ts (thread_cell s b th 2) (get_or ts (thread_cell s b th 2) 0 + 1) (omega arith) f

    up : (k : ℕ) → raised (index_scale s) (get_or ts (thread_cell s b th k) 0) < 2 ^ 32
    up k = raised_lt (index_scale s) (get_or ts (thread_cell s b th k) 0) (2 ^ 32) scale (below_at (2 ^ 32) ts (thread_cell s b th k) (lit< tt) f)

    first : List ℕ
    first = set flying (thread_cell s b th 0) (raised (index_scale s) (get_or ts (thread_cell s b th 0) 0))

    pick : (q : Bool) → Fits 32 (cond q (set first (thread_cell s b th 1) (raised (index_scale s) (get_or ts (thread_cell s b th 1) 0))) flying)
    pick true = below_set (2 ^ 32) first (thread_cell s b th 1) _ (up 1) (below_set (2 ^ 32) flying (thread_cell s b th 0) _ (up 0) flies)
    pick false = flies

-- an activation on the turned state, where fewer than 255 are in flight
activated_stored : (w : ℕ) (s : Setting) (at : ℕ → List ℕ) (st : State) (b th r : ℕ) → s.n < 2 ^ w → st.head.last < 2 ^ 62
    → st.head.next < history_length s → history_length s ≤ 2 ^ 32 → b < 16 → r < 65536 → s.l ≤ 2 ^ 24
    → get_or st.threads (thread_cell s b th 2) 0 < 255 → Stored w st → Stored w (activated s at st b th r)
unfolding activated
activated_stored w s at st b th r nw early in_ring short b16 r16 l24 few f =
    record {
      head = from_words (2 ^ 64) (activated_head (history_length s) st.head b)
          (activated_words (2 ^ 64) (history_length s) st.head b (words (2 ^ 64) st.head f.head) in_ring (omega arith) (omega arith));
      counters = counted_fits (2 ^ w) s.n b at st.counters nw f.counters;
      ticks = below_set (2 ^ 64) st.ticks st.head.next (st.head.last + 1) (omega arith) f.ticks;
      rows = below_set (2 ^ 32) st.rows st.head.next (row_word b r) (omega arith) f.rows;
      threads = activated_threads_fit s st.threads b th _ (omega arith) few f.threads;
    }

-- H is small under any limits, by the ranges of tD and tFAW
history_small : {m : Limits} {s : Setting} → Ranges m s → history_length s ≤ 2 ^ 32
unfolding history_length
history_small {s = s} k = omega (arith, div-le_self (s.td + (s.tfaw - 1)) s.tfaw, k.td_high, k.tfaw_high)

-- the quota lets a request pass only where the bank has fewer than 255 in flight
pub few_flying : (p : Policy) → Regular p → (s : Setting) (seeds : List ℕ) (st : State) (b th : ℕ) → Accepted p.limits s seeds
    → b < s.banks → th < s.threads → T (quota_rule p s st b th) → get_or st.threads (thread_cell s b th 2) 0 < 255
few_flying p reg s seeds st b th ok bh thh q =
    let c = index_counter s st.threads b th (active_filter s st.head.last) in
    omega (
      arith,
      ltb→lt (p.in_flight s st.threads b th) (p.quota s c) q,
      reg.quota_most s seeds ok c,
      reg.own_flying s st.threads b th bh thh,
    )

opened_fits : (p : Policy) → Regular p → (w : ℕ) (s : Setting) (seeds : List ℕ) (at : ℕ → List ℕ) (st : State) (t b th r : ℕ)
    → s.n < 2 ^ w → r < 65536 → Taken p.limits s seeds st t b th
    → decide p s at (turned s st t) b th r ≡ Open → Stored w (turned s st t) → Stored w (activated s at (turned s st t) b th r)
unfolding turned moved_head
opened_fits p reg w s seeds at st t b th r nw r16 k e g =
    activated_stored w s at (turned s st t) b th r nw k.early (memory s st k.memory).in_ring (history_small k.setting.ranges)
    (omega (arith, k.bank_in, k.setting.ranges.banks_high)) r16 k.setting.ranges.l_high
    (few_flying p reg s seeds (turned s st t) b th k.setting k.bank_in k.thread_in (opened_rules p s at (turned s st t) b th r e).0) g

done_fits : (w : ℕ) (s : Setting) (st : State) (b th : ℕ) → Stored w st → Stored w (reported s st b th).state
unfolding reported
done_fits w s st b th f =
    record {
      head = f.head;
      counters = f.counters;
      ticks = f.ticks;
      rows = f.rows;
      threads = below_set (2 ^ 32) st.threads (thread_cell s b th 2) (get_or st.threads (thread_cell s b th 2) 0 - 1)
          (omega (arith, below_at (2 ^ 32) st.threads (thread_cell s b th 2) (lit< tt) f.threads)) f.threads;
    }

performed_fits : (p : Policy) → Regular p → (w : ℕ) (s : Setting) (seeds : List ℕ) (st : State) (c : Call) → s.n < 2 ^ w → RowFits c
    → Taken p.limits s seeds st (call_tick c) (call_bank c) (call_thread c) → Stored w st → Stored w (performed p s (λ f. seeds) st c).state
unfolding requested index_shown
performed_fits p reg w s seeds st (request t b th r) nw r16 k f = go (decide p s at (turned s st t) b th r) refl
  where
    at : ℕ → List ℕ
    at i = places seeds r

    g : Stored w (turned s st t)
    g = turned_stored w t s st k.early f

    go : (a : Decision) → decide p s at (turned s st t) b th r ≡ a → Stored w (after_decision a (turned s st t) (activated s at (turned s st t) b th r))
    go Open e = opened_fits p reg w s seeds at st t b th r nw r16 k e g
    go (Hold c u) e = g
    go OverQuota e = g
performed_fits p reg w s seeds st (done t b th) nw r16 k f = done_fits w s (turned s st t) b th (turned_stored w t s st k.early f)
performed_fits p reg w s seeds st (index t b th) nw r16 k f = turned_stored w t s st k.early f

pub step_fits : (p : Policy) → Regular p → StepFits p
unfolding step
step_fits p reg w s seeds st c nw f r16 =
    by_refusal (λ o. Stored w o.state) (refusal_of p.limits s seeds st c) st (performed p s (λ i. seeds) st c)
    (λ e. performed_fits p reg w s seeds st c nw r16 (call_taken p.limits s seeds st c e) f) f

-- ---- a list of calls

fresh_stored : (w : ℕ) (s : Setting) (st : State) → Stored w st → Stored w (fresh s st)
unfolding fresh fresh_head head_words
fresh_stored w s st f =
    record {
      head = below_zeros 22;
      counters = below_clear (2 ^ w) (λ i. ltb i (counters_used s)) st.counters f.counters;
      ticks = below_clear (2 ^ 64) (λ i. ltb i (history_length s)) st.ticks f.ticks;
      rows = below_clear (2 ^ 32) (λ i. ltb i (history_length s)) st.rows f.rows;
      threads = below_clear (2 ^ 32) (λ i. ltb i (threads_used s)) st.threads f.threads;
    }
  where
    below_zeros : (n : ℕ) → All (λ c. c < 2 ^ 64) (replicate n 0)
    below_zeros zero = tt
    below_zeros (suc n) = (lit< tt, below_zeros n)

pub run_fits : (p : Policy) → Regular p → RunFits p
run_fits p reg w s seeds before cs nw f rs = go cs (fresh s before) rs (fresh_stored w s before f)
  where
    go : (cs : List Call) (st : State) → All RowFits cs → Stored w st → Stored w (after p s seeds st cs)
    go [] st rs g = g
    go (c ∷ cs) st rs g = go cs (step p s seeds st c).state rs.1 (step_fits p reg w s seeds st c nw g rs.0)
