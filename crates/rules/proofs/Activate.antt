-- An activation that the bank, rank and row rules let pass keeps the invariant. The state's clock stands at its tick.
use mathlib.Core.Path.{◌≡◌, refl, ap, subst, sym, ◌∙◌}
use mathlib.Core.Logic.{◌⊎◌, inl, inr}
use mathlib.Core.List.{List, ◌∷◌, map}
use mathlib.Core.Bool.{Bool, true, false, not, ◌&&◌}
use Prim.Native.Nat.{ℕ, zero, suc, ◌+◌, ◌-◌, ◌*◌, ◌%◌, ◌≤◌, ◌<◌, min}
use native.Mathlib.Omega.{arith}
use native.Mathlib.Decide.{dec_lt, ℕ_discrete}
use native.Mathlib.Nat.{le_refl, le_trans}
use lib.Dec.{T, leb, eqb, leb→le, nleb→lt, eqb→eq, T_not}
use lib.ListN.{get_or, set, drop, length-set}
use lib.Seq.{get_or-set_same, get_or-set_other}
use Rattle.head.specs.Head.{next_place, cells, activated_head}
use Rattle.rules.specs.declared.Setting.{Setting}
use Rattle.rules.specs.declared.Limits.{Limits}
use Rattle.rules.specs.Cells.{ceil_div, more, All}
use Rattle.rules.specs.Setting.{history_length}
use Rattle.rules.specs.State.{State, counter_cell, row_word}
use Rattle.rules.specs.Clock.{epoch, active_filter}
use Rattle.rules.specs.Hash.{places}
use Rattle.rules.specs.Filter.{blacklisted, counted}
use Rattle.rules.specs.History.{back, row_free}
use Rattle.rules.specs.Decision.{passed, bank_rule, rank_rule, active_estimate, row_rule, activated}
use Rattle.rules.specs.Calls.{Activation, of_row}
use Rattle.rules.proofs.Tests.{or_e, holds}
use Rattle.rules.proofs.Cells.{get_or_first}
use Rattle.rules.proofs.Counting.{all_map}
use Rattle.rules.proofs.Places.{place_lt}
use Rattle.rules.proofs.Accept.{ceil_cover}
use Rattle.rules.specs.Tested.{Accepted}
use Rattle.rules.proofs.Ring.{next_lt, back_first, back_next, back_other, match_make, hit, free_none}
use Rattle.rules.proofs.Trace.{since, row_bank, row_row}
use Rattle.rules.proofs.Filter.{length_counted, counted_le, counted_adds, estimate_least}
use Rattle.rules.proofs.Old.{At, at_map, all_at, all_split, ranked_old}
use Rattle.rules.proofs.Invariant.{CountedBy, Counted, Holds, stored, word_of}

-- a rule that passes keeps the gap to every activation whose stored tick is at most the one it looks at
passed_gap : (gap kept t u : ℕ) → T (passed gap kept t) → u + 1 ≤ kept → u + gap ≤ t
passed_gap gap kept t u p h = go (or_e (eqb kept 0) (leb (kept - 1 + gap) t) p)
  where
    go : T (eqb kept 0) ⊎ T (leb (kept - 1 + gap) t) → u + gap ≤ t
    go (inl q) = absurd (omega (arith, eqb→eq kept 0 q))
    go (inr q) = omega (arith, leb→le (kept - 1 + gap) t q)

more_and : (a c : Bool) (n : ℕ) → more (a && c) n ≤ more a n
more_and true true n = omega arith
more_and true false n = omega arith
more_and false c n = omega arith

module _ (m : Limits) (s : Setting) (seeds : List ℕ) (ok : Accepted m s seeds) (own : ℕ → List ℕ) (st : State) (tr : List Activation)
    (i : Holds s own st tr) (b th r : ℕ) (bh : b < s.banks) where
  abbrev t : ℕ
  t = st.head.last

  abbrev H : ℕ
  H = history_length s

  abbrev at : ℕ → List ℕ
  at f = places (own f) r

  abbrev new : Activation
  new = record { tick = t; bank = b; thread = th; row = r }

  -- ---- what the rules give

  bank_gap : T (bank_rule s st b) → All (λ x. x.bank ≡ b → x.tick + s.trc ≤ t) tr
  bank_gap p = all_map (λ x f e. passed_gap s.trc (get_or st.head.bank b 0) t x.tick p (f e)) tr (i.bank_last b bh)

  rank_gap : T (rank_rule s st) → All (λ x. x.tick + s.tfaw ≤ t) (drop 3 tr)
  rank_gap p = all_map (λ x f. passed_gap s.tfaw (get_or st.head.rank 3 0) t x.tick p f) (drop 3 tr) (i.rank_last 3 (omega arith))

  few : T (not (blacklisted s.n (active_estimate s at st b))) → since s (epoch s t) b r tr < s.n
  few p =
      omega (
        arith,
        nleb→lt s.n (active_estimate s at st b) p,
        estimate_least (own (active_filter s t)) st.counters b (active_filter s t) r (min s.n (since s (epoch s t) b r tr)) (λ h q. i.active b r h bh q),
      )

  spaced : T (row_free H s.td st.ticks st.rows (row_word b r) t) → All (λ x. T (of_row b r x) → x.tick + s.td ≤ t) tr
  unfolding history_length
  spaced free = all_split (λ x. T (of_row b r x) → x.tick + s.td ≤ t) H tr young old
    where
      far : All (λ x. x.tick + ceil_div s.td s.tfaw * s.tfaw ≤ t) (drop (4 * ceil_div s.td s.tfaw) tr)
      far = ranked_old s.tfaw t (ceil_div s.td s.tfaw) tr i.ranked i.latest

      old : All (λ x. T (of_row b r x) → x.tick + s.td ≤ t) (drop H tr)
      old = all_map (λ x k q. omega (arith, ceil_cover s.td s.tfaw ok.ranges.tfaw_low)) (drop H tr) far

      young : (j : ℕ) (x : Activation) → j < H → At tr j x → T (of_row b r x) → x.tick + s.td ≤ t
      young j x jH a q = go (dec_lt t (x.tick + s.td))
        where
          kept : get_or st.ticks (back H st.head.next j) 0 ≡ x.tick + 1
          kept = (i.ring j jH).0 ∙ at_map stored tr j x a

          word : get_or st.rows (back H st.head.next j) 0 ≡ row_word b r
          word = (i.ring j jH).1 ∙ at_map word_of tr j x a ∙ rw (row_bank b r x q, row_row b r x q)

          go : Dec (t < x.tick + s.td) → x.tick + s.td ≤ t
          go (no k) = omega arith
          go (yes k) =
              absurd (T_not (hit H s.td st.head.next st.ticks st.rows (row_word b r) t i.in_ring j)
              (free_none H s.td st.head.next st.ticks st.rows (row_word b r) t i.in_ring free j jH)
              (match_make s.td (row_word b r) t (get_or st.ticks (back H st.head.next j) 0) (get_or st.rows (back H st.head.next j) 0)
              (record {
                some = omega (arith, kept);
                same = word;
                past = omega (arith, kept, all_at (λ x. x.tick ≤ t) tr j x i.latest a);
                young = omega (arith, kept);
              })))

  -- ---- the filters count it

  pub counts_by : (f : ℕ) (n n' : ℕ → ℕ → ℕ) → f < 2 → ((b' r' : ℕ) → n' b' r' ≤ more (of_row b' r' new) (n b' r'))
      → CountedBy s (own f) st.counters f n → CountedBy s (own f) (counted s.n b at st.counters) f n'
  counts_by f n n' f2 grow old b' r' h bh' q = go (of_row b' r' new) refl (grow b' r')
    where
      cs : List ℕ
      cs = st.counters

      go : (x : Bool) → of_row b' r' new ≡ x → n' b' r' ≤ more x (n b' r') → min s.n (n' b' r') ≤ get_or (counted s.n b at cs) (counter_cell b' f h) 0
      go false e g = le_trans (omega (arith, old b' r' h bh' q)) (counted_le s.n b at cs (counter_cell b' f h))
      go true e g =
          let mine : T (of_row b' r' new) = holds (of_row b' r' new) e in
          let eb : b ≡ b' = row_bank b' r' new mine in
          let er : r ≡ r' = row_row b' r' new mine in
          let small : h < 1024 = place_lt (own f) (i.seeds_in f f2) r' h q in
          let adds : min s.n (get_or cs (counter_cell b' f h) 0 + 1) ≤ get_or (counted s.n b at cs) (counter_cell b' f h) 0 =
          rw (← eb) (counted_adds s.n b at cs f h f2 (rw er q) (omega (arith, i.counters_long))) in
          le_trans (omega (arith, old b' r' h bh' q)) adds

  counts : (f k : ℕ) → f < 2 → Counted s (own f) st.counters f k tr → Counted s (own f) (counted s.n b at st.counters) f k (new ∷ tr)
  counts f k f2 old =
      counts_by f (λ b' r'. since s k b' r' tr) (λ b' r'. since s k b' r' (new ∷ tr)) f2
      (λ b' r'. more_and (of_row b' r' new) (leb k (epoch s t + 1)) (since s k b' r' tr)) old

  -- ---- the whole

  pub activated_holds : T (bank_rule s st b) → T (rank_rule s st) → T (row_rule s at st b r) → Holds s own (activated s at st b th r) (new ∷ tr)
  unfolding activated activated_head
  activated_holds bk rk ro =
      record {
        lawful = (i.lawful, i.latest, bank_gap bk, row_law (or_e (not (blacklisted s.n (active_estimate s at st b))) (row_free H s.td st.ticks st.rows (row_word b r) t) ro));
        ranked = (i.ranked, rank_gap rk);
        latest = (le_refl t, i.latest);
        in_ring = next_lt H st.head.next i.in_ring;
        banks_long = rw length-set i.banks_long;
        counters_long = rw (length_counted s.n b at st.counters) i.counters_long;
        ticks_long = rw length-set i.ticks_long;
        rows_long = rw length-set i.rows_long;
        bank_last = λ b' h. bank_last b' h (ℕ_discrete b' b);
        rank_last = rank_last;
        bank_past = λ b' h. bank_past b' h (ℕ_discrete b' b);
        rank_past = rank_past_lem;
        ring = shifted;
        seeds_in = i.seeds_in;
        active = counts (epoch s t % 2) (epoch s t) (omega arith) i.active;
        passive = counts ((epoch s t + 1) % 2) (epoch s t + 1) (omega arith) i.passive;
      }
    where
      row_law : T (not (blacklisted s.n (active_estimate s at st b))) ⊎ T (row_free H s.td st.ticks st.rows (row_word b r) t)
          → (since s (epoch s t) b r tr < s.n) ⊎ All (λ x. T (of_row b r x) → x.tick + s.td ≤ t) tr
      row_law (inl q) = inl (few q)
      row_law (inr q) = inr (spaced q)

      here : get_or (set st.head.bank b (t + 1)) b 0 ≡ t + 1
      here = get_or-set_same st.head.bank b (t + 1) 0 (omega (arith, i.banks_long))

      bank_last : (b' : ℕ) → b' < s.banks → Dec (b' ≡ b) → All (λ x. x.bank ≡ b' → stored x ≤ get_or (set st.head.bank b (t + 1)) b' 0) (new ∷ tr)
      bank_last b' h (yes e) =
          subst (λ w. All (λ x. x.bank ≡ b' → stored x ≤ w) (new ∷ tr)) (sym (ap (λ y. get_or (set st.head.bank b (t + 1)) y 0) e ∙ here))
          ((λ _. le_refl (t + 1)), all_map (λ x k _. omega arith) tr i.latest)
      bank_last b' h (no e) =
          subst (λ w. All (λ x. x.bank ≡ b' → stored x ≤ w) (new ∷ tr)) (sym (get_or-set_other st.head.bank b b' (t + 1) 0 e))
          ((λ k. absurd (e (sym k))), i.bank_last b' h)

      bank_past : (b' : ℕ) → b' < s.banks → Dec (b' ≡ b) → get_or (set st.head.bank b (t + 1)) b' 0 ≤ t + 1
      bank_past b' h (yes e) = rw (e, here) (le_refl (t + 1))
      bank_past b' h (no e) = rw (get_or-set_other st.head.bank b b' (t + 1) 0 e) (i.bank_past b' h)

      rank_last : (j : ℕ) → j < 4 → All (λ x. stored x ≤ get_or ((t + 1) ∷ cells st.head.rank 0 3) j 0) (drop j (new ∷ tr))
      rank_last zero h = (le_refl (t + 1), all_map (λ x k. omega arith) tr i.latest)
      rank_last (suc j) h = rw (get_or_first st.head.rank 3 j (omega arith)) (i.rank_last j (omega arith))

      rank_past_lem : (j : ℕ) → j < 4 → get_or ((t + 1) ∷ cells st.head.rank 0 3) j 0 ≤ t + 1
      rank_past_lem zero h = le_refl (t + 1)
      rank_past_lem (suc j) h = rw (get_or_first st.head.rank 3 j (omega arith)) (i.rank_past j (omega arith))

      shifted : (j : ℕ) → j < H
          → (get_or (set st.ticks st.head.next (t + 1)) (back H (next_place H st.head.next) j) 0 ≡ get_or (map stored (new ∷ tr)) j 0)
          × (get_or (set st.rows st.head.next (row_word b r)) (back H (next_place H st.head.next) j) 0 ≡ get_or (map word_of (new ∷ tr)) j 0)
      shifted zero h =
          rw (back_first H st.head.next i.in_ring) (
            get_or-set_same st.ticks st.head.next (t + 1) 0 (omega (arith, i.in_ring, i.ticks_long)),
            get_or-set_same st.rows st.head.next (row_word b r) 0 (omega (arith, i.in_ring, i.rows_long)),
          )
      shifted (suc j) h =
          rw (back_next H st.head.next i.in_ring j h) (
            get_or-set_other st.ticks st.head.next (back H st.head.next j) (t + 1) 0 (back_other H st.head.next i.in_ring j h) ∙ (i.ring j (omega arith)).0,
            get_or-set_other st.rows st.head.next (back H st.head.next j) (row_word b r) 0 (back_other H st.head.next i.in_ring j h) ∙ (i.ring j (omega arith)).1,
          )
