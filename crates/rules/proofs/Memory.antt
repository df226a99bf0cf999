-- A state that passes refusals 6 and 7 passes them after every call, reachable or not.
use mathlib.Core.Path.{◌≡◌, ap, ◌∙◌}
use mathlib.Core.Logic.{◌⊎◌, inl, inr}
use mathlib.Core.List.{List, ◌∷◌}
use mathlib.Core.Bool.{Bool, true, false, ◌&&◌}
use Prim.Native.Nat.{ℕ, zero, suc, ◌+◌, ◌-◌, ◌≤◌, ◌<◌}
use native.Mathlib.Omega.{arith}
use native.Mathlib.Nat.{le_refl}
use lib.Dec.{T, leb, ltb, eqb, leb→le, le→leb, ltb→lt, lt→ltb, eqb→eq}
use lib.ListN.{length, get_or, set, length-set, get_or-replicate}
use lib.Seq.{get_or-set_same, get_or-set_other}
use Rattle.head.specs.Head.{moved_head, next_place, cells, activated_head}
use Rattle.rules.specs.declared.Setting.{Setting}
use Rattle.rules.specs.declared.Limits.{Limits}
use Rattle.rules.specs.Cells.{every, clear_cells}
use Rattle.rules.specs.Setting.{history_length}
use Rattle.rules.specs.State.{State, counters_used, threads_used, fresh_head, fresh}
use Rattle.rules.specs.Clock.{turned}
use Rattle.rules.specs.History.{back, not_after, never_rises, memory_ok}
use Rattle.rules.specs.Decision.{activated_threads, activated}
use Rattle.rules.specs.Calls.{reported}
use Rattle.rules.proofs.Tests.{and_i, and_l, and_r, or_r, or_e, every_at, every_all}
use Rattle.rules.proofs.Cells.{set_cell, get_or_first}
use Rattle.rules.proofs.Clearing.{length_clear, clear_zero}
use Rattle.rules.specs.Tested.{Memory, Long, Taken}
use Rattle.rules.proofs.Ring.{next_lt, back_lt, back_first, back_next, back_other, falls_one}
use Rattle.rules.proofs.Filter.{length_counted}
use Rattle.rules.proofs.Clock.{length_turned, length_turned_threads}

-- ---- the test of the memory, as facts

pub not_after_lem : (last stored : ℕ) → T (not_after last stored) → stored ≤ last + 1
not_after_lem last stored h = go (or_e (eqb stored 0) (leb (stored - 1) last) h)
  where
    go : T (eqb stored 0) ⊎ T (leb (stored - 1) last) → stored ≤ last + 1
    go (inl q) = omega (arith, eqb→eq stored 0 q)
    go (inr q) = omega (arith, leb→le (stored - 1) last q)

pub after_not : (last stored : ℕ) → stored ≤ last + 1 → T (not_after last stored)
after_not last stored h = or_r (eqb stored 0) (leb (stored - 1) last) (le→leb (stored - 1) last (omega arith))

module _ (s : Setting) (st : State) where
  abbrev in_ring_test : Bool
  in_ring_test = ltb st.head.next (history_length s)

  abbrev bank_test : Bool
  bank_test = every s.banks (λ b. not_after st.head.last (get_or st.head.bank b 0))

  abbrev rank_test : Bool
  rank_test = every 4 (λ k. not_after st.head.last (get_or st.head.rank k 0))

  abbrev history_test : Bool
  history_test = every (history_length s) (λ p. not_after st.head.last (get_or st.ticks p 0))

  abbrev steady_test : Bool
  steady_test = never_rises (history_length s) st.head.next st.ticks

  pub memory : T (memory_ok s st) → Memory s st.head st.ticks
  unfolding memory_ok
  memory h =
      let h4 = and_l (in_ring_test && bank_test && rank_test && history_test) steady_test h in
      let h3 = and_l (in_ring_test && bank_test && rank_test) history_test h4 in
      let h2 = and_l (in_ring_test && bank_test) rank_test h3 in
      record {
        in_ring = ltb→lt st.head.next (history_length s) (and_l in_ring_test bank_test h2);
        bank = λ b k. not_after_lem st.head.last (get_or st.head.bank b 0)
            (every_at s.banks (λ b. not_after st.head.last (get_or st.head.bank b 0)) (and_r in_ring_test bank_test h2) b k);
        rank = λ j k. not_after_lem st.head.last (get_or st.head.rank j 0)
            (every_at 4 (λ k. not_after st.head.last (get_or st.head.rank k 0)) (and_r (in_ring_test && bank_test) rank_test h3) j k);
        history = λ p k. not_after_lem st.head.last (get_or st.ticks p 0)
            (every_at (history_length s) (λ p. not_after st.head.last (get_or st.ticks p 0)) (and_r (in_ring_test && bank_test && rank_test) history_test h4) p k);
        steady = and_r (in_ring_test && bank_test && rank_test && history_test) steady_test h;
      }

  pub memory_ok_lem : Memory s st.head st.ticks → T (memory_ok s st)
  unfolding memory_ok
  memory_ok_lem m =
      and_i (in_ring_test && bank_test && rank_test && history_test) steady_test
      (and_i (in_ring_test && bank_test && rank_test) history_test
      (and_i (in_ring_test && bank_test) rank_test
      (and_i in_ring_test bank_test (lt→ltb st.head.next (history_length s) m.in_ring)
      (every_all s.banks (λ b. not_after st.head.last (get_or st.head.bank b 0)) (λ b k. after_not st.head.last (get_or st.head.bank b 0) (m.bank b k))))
      (every_all 4 (λ j. not_after st.head.last (get_or st.head.rank j 0)) (λ j k. after_not st.head.last (get_or st.head.rank j 0) (m.rank j k))))
      (every_all (history_length s) (λ p. not_after st.head.last (get_or st.ticks p 0)) (λ p k. after_not st.head.last (get_or st.ticks p 0) (m.history p k))))
      m.steady

-- ---- set-up

zeros_steady : (h : ℕ) (ticks : List ℕ) → 0 < h → ((p : ℕ) → p < h → get_or ticks p 0 ≡ 0) → T (never_rises h 0 ticks)
unfolding never_rises
zeros_steady h ticks pos z =
    every_all (h - 1) (λ i. leb (get_or ticks (back h 0 (suc i)) 0) (get_or ticks (back h 0 i) 0))
    (λ i k. le→leb (get_or ticks (back h 0 (suc i)) 0) (get_or ticks (back h 0 i) 0)
    (omega (arith, z (back h 0 (suc i)) (back_lt h 0 pos (suc i) (omega arith)))))

pub fresh_memory : (s : Setting) (st : State) → 0 < history_length s → s.banks ≤ 16 → Memory s (fresh s st).head (fresh s st).ticks
unfolding fresh fresh_head
fresh_memory s st pos b16 =
    record {
      in_ring = pos;
      bank = λ b k. rw (get_or-replicate {A = ℕ} 16 b 0 0 (omega arith)) (omega arith);
      rank = λ j k. rw (get_or-replicate {A = ℕ} 4 j 0 0 k) (omega arith);
      history = λ p k. rw (zero_at p k) (omega arith);
      steady = zeros_steady (history_length s) (clear_cells (λ i. ltb i (history_length s)) st.ticks) pos zero_at;
    }
  where
    zero_at : (p : ℕ) → p < history_length s → get_or (clear_cells (λ i. ltb i (history_length s)) st.ticks) p 0 ≡ 0
    zero_at p k = clear_zero (λ i. ltb i (history_length s)) p st.ticks (lt→ltb p (history_length s) k)

pub fresh_long : (s : Setting) (st : State) → Long s st → Long s (fresh s st)
unfolding fresh
fresh_long s st l =
    record {
      counters = rw (length_clear (λ i. ltb i (counters_used s)) st.counters) l.counters;
      ticks = rw (length_clear (λ i. ltb i (history_length s)) st.ticks) l.ticks;
      rows = rw (length_clear (λ i. ltb i (history_length s)) st.rows) l.rows;
      threads = rw (length_clear (λ i. ltb i (threads_used s)) st.threads) l.threads;
    }

-- ---- the clock

pub turned_memory : (s : Setting) (st : State) (t : ℕ) → st.head.last ≤ t → Memory s st.head st.ticks → Memory s (turned s st t).head (turned s st t).ticks
unfolding turned moved_head
turned_memory s st t h m =
    record {
      in_ring = m.in_ring;
      bank = λ b k. omega (arith, m.bank b k);
      rank = λ j k. omega (arith, m.rank j k);
      history = λ p k. omega (arith, m.history p k);
      steady = m.steady;
    }

-- the state on which a call that is not refused decides
pub taken_memory : {m : Limits} {s : Setting} {seeds : List ℕ} {st : State} {t bank thread : ℕ}
    → Taken m s seeds st t bank thread → Memory s (turned s st t).head (turned s st t).ticks
taken_memory {s = s} {st = st} {t = t} ok = turned_memory s st t ok.later (memory s st ok.memory)

pub turned_long : (s : Setting) (st : State) (t : ℕ) → Long s st → Long s (turned s st t)
unfolding turned
turned_long s st t l =
    record {
      counters = rw length_turned l.counters;
      ticks = l.ticks;
      rows = l.rows;
      threads = rw length_turned_threads l.threads;
    }

-- ---- an activation

-- the ring with a newest stored tick that is no less than the others still never rises
pub push_steady : (h p v : ℕ) (ticks : List ℕ) → p < h → h ≤ length ticks → ((q : ℕ) → q < h → get_or ticks q 0 ≤ v)
    → T (never_rises h p ticks) → T (never_rises h (next_place h p) (set ticks p v))
unfolding never_rises
push_steady h p v ticks ph len below steady = all_pairs (λ i k. pair i k)
  where
    cell : ℕ → ℕ
    cell i = get_or (set ticks p v) (back h (next_place h p) i) 0

    older : (i : ℕ) → suc i < h → cell (suc i) ≡ get_or ticks (back h p i) 0
    older i k =
        ap (λ x. get_or (set ticks p v) x 0) (back_next h p ph i k) ∙ get_or-set_other ticks p (back h p i) v 0 (back_other h p ph i k)

    pair : (i : ℕ) → suc i < h → cell (suc i) ≤ cell i
    pair zero k =
        let newest : cell zero ≡ v = ap (λ x. get_or (set ticks p v) x 0) (back_first h p ph) ∙ get_or-set_same ticks p v 0 (omega arith) in
        omega (arith, newest, older zero k, below (back h p 0) (back_lt h p ph 0 (omega arith)))
    pair (suc i) k = omega (arith, older (suc i) k, older i (omega arith), falls_one h p ticks steady i (omega arith))

    all_pairs : ((i : ℕ) → suc i < h → cell (suc i) ≤ cell i) → T (never_rises h (next_place h p) (set ticks p v))
    all_pairs f = every_all (h - 1) (λ i. leb (cell (suc i)) (cell i)) (λ i k. le→leb (cell (suc i)) (cell i) (f i (omega arith)))

pub activated_memory : (s : Setting) (at : ℕ → List ℕ) (st : State) (b th r : ℕ) → Long s st → Memory s st.head st.ticks
    → Memory s (activated s at st b th r).head (activated s at st b th r).ticks
unfolding activated activated_head
activated_memory s at st b th r l m =
    record {
      in_ring = next_lt (history_length s) st.head.next m.in_ring;
      bank = λ b' k. set_cell (λ x. x ≤ st.head.last + 1) st.head.bank b b' (st.head.last + 1) (le_refl (st.head.last + 1)) (m.bank b' k);
      rank = rank;
      history = λ p k. set_cell (λ x. x ≤ st.head.last + 1) st.ticks st.head.next p (st.head.last + 1) (le_refl (st.head.last + 1)) (m.history p k);
      steady = push_steady (history_length s) st.head.next (st.head.last + 1) st.ticks m.in_ring l.ticks m.history m.steady;
    }
  where
    rank : (k : ℕ) → k < 4 → get_or ((st.head.last + 1) ∷ cells st.head.rank 0 3) k 0 ≤ st.head.last + 1
    rank zero h = le_refl (st.head.last + 1)
    rank (suc k) h = rw (get_or_first st.head.rank 3 k (omega arith)) (m.rank k (omega arith))

length_activated_threads : (s : Setting) (ts : List ℕ) (b th : ℕ) (black : Bool) → length (activated_threads s ts b th black) ≡ length ts
unfolding activated_threads
length_activated_threads s ts b th true = simp length-set
length_activated_threads s ts b th false = simp length-set

pub activated_long : (s : Setting) (at : ℕ → List ℕ) (st : State) (b th r : ℕ) → Long s st → Long s (activated s at st b th r)
unfolding activated
activated_long s at st b th r l =
    record {
      counters = rw length_counted l.counters;
      ticks = rw length-set l.ticks;
      rows = rw length-set l.rows;
      threads = rw length_activated_threads l.threads;
    }

-- ---- a done

pub reported_long : (s : Setting) (st : State) (b th : ℕ) → Long s st → Long s (reported s st b th).state
unfolding reported
reported_long s st b th l = record { counters = l.counters; ticks = l.ticks; rows = l.rows; threads = rw length-set l.threads }
