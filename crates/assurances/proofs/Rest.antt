-- No call and no set-up changes a buffer's length or a cell past its used part.
use mathlib.Core.Path.{◌≡◌, refl, sym, ◌∙◌}
use mathlib.Core.Logic.{◌⊎◌, inl, inr}
use mathlib.Core.List.{List, [], ◌∷◌, map}
use mathlib.Core.Bool.{Bool, true, false, ◌&&◌, cond}
use Prim.Native.Nat.{ℕ, ◌+◌, ◌*◌, ◌/◌, ◌%◌, ◌≤◌, ◌<◌}
use native.Mathlib.Omega.{arith}
use native.Mathlib.Decide.{dec_lt}
use lib.ListN.{get_or-eq_default, length, get_or, set, length-set}
use lib.Dec.{T, ltb, eqb, eqb→eq, eqb_refl, ltb→lt, not_T}
use lib.Seq.{get_or-set_other}
use Rattle.head.specs.Head.{moved_head}
use Rattle.rules.specs.declared.Setting.{Setting}
use Rattle.rules.specs.declared.Decision.{Decision}
use Rattle.rules.specs.declared.Decision.TheVariants.{Open, Hold, OverQuota}
use Rattle.rules.specs.Cells.{member, clear_cells}
use Rattle.rules.specs.Setting.{history_length, index_scale}
use Rattle.rules.specs.State.{State, counters_used, threads_used, counter_cell, thread_cell, fresh}
use Rattle.rules.specs.Clock.{epoch, clears, turned_counters, turned_threads, turned}
use Rattle.rules.specs.Hash.{places}
use Rattle.rules.specs.Filter.{blacklisted, raised, named, counted}
use Rattle.rules.specs.Policy.{Policy}
use Rattle.rules.specs.Decision.{active_estimate, decide, activated_threads, activated}
use Rattle.rules.specs.Tested.{Taken}
use Rattle.rules.specs.Calls.{Call, request, done, index, finished, outcome, setup, setup_refusal, call_tick, call_bank, call_thread, refusal_of, after_decision, requested, reported, index_shown, performed, step}
use Rattle.assurances.specs.Claims.{SameFrom, SameRest, RestKept}
use Rattle.rules.proofs.Tests.{and_l, or_l, or_r, or_e, cond_no}
use Rattle.rules.proofs.Cells.{thread_in}
use Rattle.rules.proofs.Clearing.{length_clear, clear_kept}
use Rattle.rules.proofs.Places.{place_lt}
use Rattle.rules.proofs.Accept.{call_taken}
use Rattle.rules.proofs.Filter.{length_counted, counted_cell}
use Rattle.rules.proofs.Memory.{memory}
use Rattle.rules.proofs.Step.{by_refusal}

-- ---- one buffer

same_from : (n : ℕ) (l : List ℕ) → SameFrom n l l
same_from n l = (refl, λ i h. refl)

pub then_from : (n : ℕ) (a b c : List ℕ) → SameFrom n a b → SameFrom n b c → SameFrom n a c
then_from n a b c x y = (y.0 ∙ x.0, λ i h. y.1 i h ∙ x.1 i h)

clear_from : (n : ℕ) (p : ℕ → Bool) (l : List ℕ) → ((i : ℕ) → T (p i) → i < n) → SameFrom n l (clear_cells p l)
clear_from n p l low = (length_clear p l, λ i h. clear_kept p i l (not_T (p i) (λ q. omega (arith, low i q))))

set_from : (n j v : ℕ) (l : List ℕ) → j < n → SameFrom n l (set l j v)
set_from n j v l low = (length-set l j v, λ i h. get_or-set_other l j i v 0 (λ e. omega arith))

-- ---- counters

member_of : (g : ℕ → ℕ) (x : ℕ) (l : List ℕ) → T (member x (map g l)) → (h : ℕ) × T (member h l) × (x ≡ g h)
member_of g x [] m = absurd m
member_of g x (y ∷ ys) m = go (or_e (eqb x (g y)) (member x (map g ys)) m) (member_of g x ys)
  where
    go : T (eqb x (g y)) ⊎ T (member x (map g ys)) → (T (member x (map g ys)) → (h : ℕ) × T (member h ys) × (x ≡ g h)) → (h : ℕ) × T (member h (y ∷ ys)) × (x ≡ g h)
    go (inl k) ih = (y, or_l (eqb y y) (member y ys) (eqb_refl y), eqb→eq x (g y) k)
    go (inr k) ih = let r = ih k in (r.0, or_r (eqb r.0 y) (member r.0 ys) r.1, r.2)

-- the counters of a row lie in the used part
named_used : (banks b : ℕ) (at : ℕ → List ℕ) (i : ℕ) → b < banks → ((f h : ℕ) → T (member h (at f)) → h < 1024) → T (named b at i) → i < banks * 2048
unfolding named
named_used banks b at i bh low q =
    go (or_e (member i (map (counter_cell b 0) (at 0))) (member i (map (counter_cell b 1) (at 1))) q)
  where
    go : T (member i (map (counter_cell b 0) (at 0))) ⊎ T (member i (map (counter_cell b 1) (at 1))) → i < banks * 2048
    go (inl k) = let r = member_of (counter_cell b 0) i (at 0) k in omega (arith, low 0 r.0 r.1, r.2)
    go (inr k) = let r = member_of (counter_cell b 1) i (at 1) k in omega (arith, low 1 r.0 r.1, r.2)

counted_from : (n banks b : ℕ) (at : ℕ → List ℕ) (cs : List ℕ) → b < banks → ((f h : ℕ) → T (member h (at f)) → h < 1024)
    → SameFrom (banks * 2048) cs (counted n b at cs)
counted_from n banks b at cs bh low = (length_counted n b at cs, λ i h. go i h (dec_lt i (length cs)))
  where
    go : (i : ℕ) → banks * 2048 ≤ i → Dec (i < length cs) → get_or (counted n b at cs) i 0 ≡ get_or cs i 0
    go i h (yes k) =
        counted_cell n b at cs i k
        ∙ cond_no (named b at i) (raised n (get_or cs i 0)) (get_or cs i 0) (not_T (named b at i) (λ q. omega (arith, named_used banks b at i bh low q)))
    go i h (no k) =
        let z : length cs ≤ i = omega arith in
        let y : length (counted n b at cs) ≤ i = omega (arith, length_counted n b at cs) in
        get_or-eq_default (counted n b at cs) 0 y ∙ sym (get_or-eq_default cs 0 z)

-- ---- the state

then_rest : (s : Setting) (a b c : State) → SameRest s a b → SameRest s b c → SameRest s a c
then_rest s a b c x y =
    record {
      counters = then_from (counters_used s) a.counters b.counters c.counters x.counters y.counters;
      ticks = then_from (history_length s) a.ticks b.ticks c.ticks x.ticks y.ticks;
      rows = then_from (history_length s) a.rows b.rows c.rows x.rows y.rows;
      threads = then_from (threads_used s) a.threads b.threads c.threads x.threads y.threads;
    }

same_rest : (s : Setting) (st : State) → SameRest s st st
same_rest s st =
    record {
      counters = same_from (counters_used s) st.counters;
      ticks = same_from (history_length s) st.ticks;
      rows = same_from (history_length s) st.rows;
      threads = same_from (threads_used s) st.threads;
    }

turned_rest : (s : Setting) (st : State) (t : ℕ) → SameRest s st (turned s st t)
unfolding turned turned_counters turned_threads
turned_rest s st t =
    record {
      counters = clear_from (counters_used s) (λ i. ltb i (counters_used s) && clears (epoch s st.head.last) (epoch s t) (i / 1024 % 2)) st.counters
          (λ i q. ltb→lt i (counters_used s) (and_l (ltb i (counters_used s)) _ q));
      ticks = same_from (history_length s) st.ticks;
      rows = same_from (history_length s) st.rows;
      threads = clear_from (threads_used s) (λ i. ltb i (threads_used s) && (ltb (i % 3) 2 && clears (epoch s st.head.last) (epoch s t) (i % 3))) st.threads
          (λ i q. ltb→lt i (threads_used s) (and_l (ltb i (threads_used s)) _ q));
    }

activated_rest : (s : Setting) (at : ℕ → List ℕ) (st : State) (b th r : ℕ) → b < s.banks → th < s.threads → st.head.next < history_length s
    → ((f h : ℕ) → T (member h (at f)) → h < 1024) → SameRest s st (activated s at st b th r)
unfolding activated activated_threads
activated_rest s at st b th r bh thh in_ring low =
    record {
      counters = counted_from s.n s.banks b at st.counters bh low;
      ticks = set_from (history_length s) st.head.next (st.head.last + 1) st.ticks in_ring;
      rows = set_from (history_length s) st.head.next _ st.rows in_ring;
      threads = go (blacklisted s.n (active_estimate s at st b));
    }
  where
    used : (k : ℕ) → k < 3 → thread_cell s b th k < threads_used s
    used k k3 = thread_in s b th k bh thh k3

    flying : List ℕ
    flying = set st.threads (thread_cell s b th 2) (get_or st.threads (thread_cell s b th 2) 0 + 1)

    flies : SameFrom (threads_used s) st.threads flying
    flies = set_from (threads_used s) (thread_cell s b th 2) (get_or st.threads (thread_cell s b th 2) 0 + 1) st.threads (used 2 (omega arith))

    first : List ℕ
    first = set flying (thread_cell s b th 0) (raised (index_scale s) (get_or st.threads (thread_cell s b th 0) 0))

    firsts : SameFrom (threads_used s) st.threads first
    firsts = then_from (threads_used s) st.threads flying first flies (set_from (threads_used s) (thread_cell s b th 0) (raised (index_scale s) (get_or st.threads (thread_cell s b th 0) 0)) flying (used 0 (omega arith)))

    second : List ℕ
    second = set first (thread_cell s b th 1) (raised (index_scale s) (get_or st.threads (thread_cell s b th 1) 0))

    go : (q : Bool) → SameFrom (threads_used s) st.threads (cond q second flying)
    go true = then_from (threads_used s) st.threads first second firsts (set_from (threads_used s) (thread_cell s b th 1) (raised (index_scale s) (get_or st.threads (thread_cell s b th 1) 0)) first (used 1 (omega arith)))
    go false = flies

reported_rest : (s : Setting) (st : State) (b th : ℕ) → b < s.banks → th < s.threads → SameRest s st (reported s st b th).state
unfolding reported
reported_rest s st b th bh thh =
    record {
      counters = same_from (counters_used s) st.counters;
      ticks = same_from (history_length s) st.ticks;
      rows = same_from (history_length s) st.rows;
      threads = set_from (threads_used s) (thread_cell s b th 2) _ st.threads (thread_in s b th 2 bh thh (omega arith));
    }

fresh_rest : (s : Setting) (st : State) → SameRest s st (fresh s st)
unfolding fresh
fresh_rest s st =
    record {
      counters = clear_from (counters_used s) (λ i. ltb i (counters_used s)) st.counters (λ i q. ltb→lt i (counters_used s) q);
      ticks = clear_from (history_length s) (λ i. ltb i (history_length s)) st.ticks (λ i q. ltb→lt i (history_length s) q);
      rows = clear_from (history_length s) (λ i. ltb i (history_length s)) st.rows (λ i q. ltb→lt i (history_length s) q);
      threads = clear_from (threads_used s) (λ i. ltb i (threads_used s)) st.threads (λ i q. ltb→lt i (threads_used s) q);
    }

-- ---- the calls

performed_rest : (p : Policy) (s : Setting) (seeds : List ℕ) (st : State) (c : Call) → Taken p.limits s seeds st (call_tick c) (call_bank c) (call_thread c)
    → SameRest s st (performed p s (λ f. seeds) st c).state
unfolding requested index_shown turned moved_head
performed_rest p s seeds st (request t b th r) k = go (decide p s (λ f. places seeds r) (turned s st t) b th r)
  where
    go : (a : Decision) → SameRest s st (after_decision a (turned s st t) (activated s (λ f. places seeds r) (turned s st t) b th r))
    go Open =
        then_rest s st (turned s st t) (activated s (λ f. places seeds r) (turned s st t) b th r) (turned_rest s st t)
        (activated_rest s (λ f. places seeds r) (turned s st t) b th r k.bank_in k.thread_in (memory s st k.memory).in_ring (λ f h q. place_lt seeds k.setting.seeds_ok r h q))
    go (Hold c u) = turned_rest s st t
    go OverQuota = turned_rest s st t
performed_rest p s seeds st (done t b th) k =
    then_rest s st (turned s st t) (reported s (turned s st t) b th).state (turned_rest s st t) (reported_rest s (turned s st t) b th k.bank_in k.thread_in)
performed_rest p s seeds st (index t b th) k = turned_rest s st t

pub rest_kept : (p : Policy) → RestKept p
unfolding step setup
rest_kept p =
    record {
      call = λ s seeds st c. by_refusal (λ o. SameRest s st o.state) (refusal_of p.limits s seeds st c) st (performed p s (λ f. seeds) st c)
          (λ e. performed_rest p s seeds st c (call_taken p.limits s seeds st c e)) (same_rest s st);
      setup = λ s seeds st. by_refusal (λ o. SameRest s st o.state) (setup_refusal p.limits s seeds st) st (outcome finished (fresh s st))
          (λ e. fresh_rest s st) (same_rest s st);
    }
