-- A move of the clock keeps the invariant: what is cleared is of no epoch that still counts.
use mathlib.Core.Path.{◌≡◌, refl, ◌∙◌, subst}
use mathlib.Core.List.{List, [], ◌∷◌}
use mathlib.Core.Bool.{Bool, true, false, not, ◌&&◌, cond}
use Prim.Native.Nat.{ℕ, ◌+◌, ◌/◌, ◌%◌, ◌≤◌, ◌<◌}
use native.Mathlib.Omega.{arith}
use native.Mathlib.Decide.{ℕ_discrete}
use native.Mathlib.Nat.{le_trans, le-div_iff_mul-le, div-mul-le_self}
use lib.Dec.{T, leb, leb→le, not_T}
use Rattle.head.specs.Head.{moved_head}
use Rattle.rules.specs.declared.Setting.{Setting}
use Rattle.rules.specs.Cells.{member, count, All}
use Rattle.rules.specs.Setting.{epoch_length, seeds_in_range}
use Rattle.rules.specs.declared.Limits.{Limits}
use Rattle.rules.specs.State.{State, counters_used}
use Rattle.rules.specs.Clock.{epoch, clears, turned_counters, turned}
use Rattle.rules.specs.Hash.{places}
use Rattle.rules.specs.Calls.{Activation, of_row}
use Rattle.rules.proofs.Tests.{and_r, fails}
use Rattle.rules.proofs.Counting.{more_no, all_map}
use Rattle.rules.proofs.Places.{place_lt}
use Rattle.rules.proofs.Accept.{epoch_long}
use Rattle.rules.specs.Tested.{Accepted}
use Rattle.rules.proofs.Clock.{same_clears, next_clears, length_turned, turned_kept}
use Rattle.rules.proofs.Trace.{since}
use Rattle.rules.proofs.Invariant.{CountedBy, Counted, Holds}
use Rattle.rules.specs.Moves.{Reseeds}

pub div_mono : (d a b : ℕ) → 1 ≤ d → a ≤ b → a / d ≤ b / d
div_mono d a b d1 h = (le-div_iff_mul-le d1).1 (omega (arith, div-mul-le_self a d))

module _ (m : Limits) (s : Setting) (seeds : List ℕ) (ok : Accepted m s seeds) where
  -- activations up to tick l are of no epoch that a window from epoch l/E + 1 on counts
  since_none : (l k b r : ℕ) (tr : List Activation) → All (λ x. x.tick ≤ l) tr → epoch s l + 2 ≤ k → since s k b r tr ≡ 0
  since_none l k b r [] a h = refl
  since_none l k b r (o ∷ os) a h =
      more_no (of_row b r o && leb k (epoch s o.tick + 1)) (since s k b r os)
      (not_T (of_row b r o && leb k (epoch s o.tick + 1))
      (λ q. omega (arith, leb→le k (epoch s o.tick + 1) (and_r (of_row b r o) (leb k (epoch s o.tick + 1)) q), epoch_long ok, div_mono (epoch_length s) o.tick l (omega (arith, epoch_long ok)) a.0)))
      ∙ since_none l k b r os a.1 h

  none_counted_lem : (own cs : List ℕ) (f l k : ℕ) (tr : List Activation) → All (λ x. x.tick ≤ l) tr → epoch s l + 2 ≤ k → Counted s own cs f k tr
  none_counted_lem own cs f l k tr a h b r p bh q = rw (since_none l k b r tr a h) (omega arith)

  -- a filter that is not cleared keeps its seeds and its counts
  kept_counted : (own own' cs : List ℕ) (e e' f : ℕ) (n : ℕ → ℕ → ℕ) → f < 2 → T (not (clears e e' f)) → own' ≡ own → T (seeds_in_range own)
      → CountedBy s own cs f n → CountedBy s own' (turned_counters (counters_used s) e e' cs) f n
  kept_counted own own' cs e e' f n f2 nc same fit old b r h bh q =
      let q' : T (member h (places own r)) = subst (λ z. T (member h (places z r))) same q in
      rw (turned_kept (counters_used s) e e' b f h cs f2 (place_lt own fit r h q') nc) (old b r h bh q')

  -- what a filter has counted since it was last cleared
  pub turned_counted : (own own' : ℕ → List ℕ) (cs : List ℕ) (e e' f : ℕ) (l : List Activation) → f < 2 → Reseeds e e' own own' → T (seeds_in_range (own f))
      → CountedBy s (own f) cs f (λ b r. count (of_row b r) l)
      → CountedBy s (own' f) (turned_counters (counters_used s) e e' cs) f (λ b r. count (of_row b r) (cond (clears e e' f) [] l))
  turned_counted own own' cs e e' f l f2 w fit old = go (clears e e' f) refl
    where
      go : (q : Bool) → clears e e' f ≡ q → CountedBy s (own' f) (turned_counters (counters_used s) e e' cs) f (λ b r. count (of_row b r) (cond q [] l))
      go true c = λ b r h bh m. omega arith
      go false c =
          let n = fails (clears e e' f) c in
          kept_counted (own f) (own' f) cs e e' f (λ b r. count (of_row b r) l) f2 n (w.same f f2 n) fit old

  -- a cleared filter may take any seeds
  pub turned_holds : (st : State) (tr : List Activation) (t : ℕ) (own own' : ℕ → List ℕ) → st.head.last ≤ t
      → Reseeds (epoch s st.head.last) (epoch s t) own own' → Holds s own st tr → Holds s own' (turned s st t) tr
  unfolding turned moved_head
  turned_holds st tr t own own' h w i =
      record {
        lawful = i.lawful;
        ranked = i.ranked;
        latest = all_map (λ x k. le_trans k h) tr i.latest;
        in_ring = i.in_ring;
        banks_long = i.banks_long;
        counters_long = rw (length_turned (counters_used s) e (epoch s t) st.counters) i.counters_long;
        ticks_long = i.ticks_long;
        rows_long = i.rows_long;
        bank_last = i.bank_last;
        rank_last = i.rank_last;
        bank_past = λ b bh. omega (arith, i.bank_past b bh);
        rank_past = λ j jh. omega (arith, i.rank_past j jh);
        ring = i.ring;
        seeds_in = w.fit;
        active = to_active (ℕ_discrete (epoch s t) e) (ℕ_discrete (epoch s t) (e + 1));
        passive = to_passive (ℕ_discrete (epoch s t) e);
      }
    where
      e : ℕ
      e = epoch s st.head.last

      up : e ≤ epoch s t
      up = div_mono (epoch_length s) st.head.last t (omega (arith, epoch_long ok)) h

      cs : ℕ → List ℕ
      cs e' = turned_counters (counters_used s) e e' st.counters

      stays : (f k : ℕ) → f < 2 → T (not (clears e (epoch s t) f)) → Counted s (own f) st.counters f k tr → Counted s (own' f) (cs (epoch s t)) f k tr
      stays f k f2 nc old = kept_counted (own f) (own' f) st.counters e (epoch s t) f (λ b r. since s k b r tr) f2 nc (w.same f f2 nc) (i.seeds_in f f2) old

      to_active : Dec (epoch s t ≡ e) → Dec (epoch s t ≡ e + 1) → Counted s (own' (epoch s t % 2)) (cs (epoch s t)) (epoch s t % 2) (epoch s t) tr
      to_active (yes q) d = stays (epoch s t % 2) (epoch s t) (omega arith) (rw q (same_clears e (e % 2))) (rw q i.active)
      to_active (no q) (yes n) = stays (epoch s t % 2) (epoch s t) (omega arith) (rw n (next_clears e)) (rw n i.passive)
      to_active (no q) (no n) =
          none_counted_lem (own' (epoch s t % 2)) (cs (epoch s t)) (epoch s t % 2) st.head.last (epoch s t) tr i.latest (omega (arith, up))

      to_passive : Dec (epoch s t ≡ e) → Counted s (own' ((epoch s t + 1) % 2)) (cs (epoch s t)) ((epoch s t + 1) % 2) (epoch s t + 1) tr
      to_passive (yes q) = stays ((epoch s t + 1) % 2) (epoch s t + 1) (omega arith) (rw q (same_clears e ((e + 1) % 2))) (rw q i.passive)
      to_passive (no q) =
          none_counted_lem (own' ((epoch s t + 1) % 2)) (cs (epoch s t)) ((epoch s t + 1) % 2) st.head.last (epoch s t + 1) tr i.latest (omega (arith, up))
