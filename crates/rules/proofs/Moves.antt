-- Moves keep the invariant; so the activations of any list of moves after a set-up are lawful, and few of a row lie in a span.
use mathlib.Core.Path.{◌≡◌, ◌∙◌}
use mathlib.Core.List.{List, [], ◌∷◌, ◌++◌}
use mathlib.Core.Bool.{Bool, ◌&&◌}
use Prim.Native.Nat.{ℕ, zero, suc, ◌+◌, ◌%◌, ◌≤◌, ◌<◌}
use native.Mathlib.Omega.{arith}
use lib.Dec.{T, ltb, lt→ltb}
use lib.ListN.{get_or, drop, replicate, get_or-replicate}
use Rattle.rules.specs.declared.Setting.{Setting}
use Rattle.rules.specs.declared.Limits.{Limits}
use Rattle.rules.specs.Cells.{count, clear_cells, All}
use Rattle.rules.specs.Setting.{history_length, seeds_in_range}
use Rattle.rules.specs.State.{State, counters_used, counter_cell, fresh_head, fresh}
use Rattle.rules.specs.Clock.{epoch}
use Rattle.rules.specs.History.{back}
use Rattle.rules.specs.Tested.{Accepted, SetUp}
use Rattle.rules.specs.Calls.{Activation, of_row, in_span}
use Rattle.rules.specs.Moves.{Owned, Move, clock, activate, renew, SameParts, Allowed, moved, made, AllAllowed, moved_by, made_by}
use Rattle.rules.specs.Claims.{SpansOfMoves}
use Rattle.rules.proofs.Clearing.{length_clear, clear_zero}
use Rattle.rules.proofs.Counting.{count_append}
use Rattle.rules.proofs.Places.{place_lt}
use Rattle.rules.proofs.Accept.{history_pos, epoch_long, set_up_lem}
use Rattle.rules.proofs.Ring.{back_lt}
use Rattle.rules.proofs.Trace.{lawful_span}
use Rattle.rules.proofs.Invariant.{Counted, Holds, stored}
use Rattle.rules.proofs.Turn.{turned_holds}
use Rattle.rules.proofs.Activate.{activated_holds}

-- ---- set-up

-- with any seeds in range
pub fresh_holds : (m : Limits) (s : Setting) (seeds : List ℕ) (own : ℕ → List ℕ) → ((f : ℕ) → f < 2 → T (seeds_in_range (own f)))
    → (st : State) → SetUp m s seeds st → Holds s own (fresh s st) []
unfolding fresh fresh_head
fresh_holds m s seeds own fit st up =
    record {
      lawful = tt;
      ranked = tt;
      latest = tt;
      in_ring = pos;
      banks_long = up.setting.ranges.banks_high;
      counters_long = rw (length_clear (λ i. ltb i (counters_used s)) st.counters) up.long.counters;
      ticks_long = rw (length_clear (λ i. ltb i (history_length s)) st.ticks) up.long.ticks;
      rows_long = rw (length_clear (λ i. ltb i (history_length s)) st.rows) up.long.rows;
      bank_last = λ b h. tt;
      rank_last = rank;
      bank_past = λ b h. rw (get_or-replicate {A = ℕ} 16 b 0 0 (omega (arith, up.setting.ranges.banks_high))) (omega arith);
      rank_past = λ j h. rw (get_or-replicate {A = ℕ} 4 j 0 0 h) (omega arith);
      ring = λ j h. (empty st.ticks j h, empty st.rows j h);
      seeds_in = fit;
      active = λ b r h bh q. omega arith;
      passive = λ b r h bh q. omega arith;
    }
  where
    pos : 0 < history_length s
    pos = history_pos up.setting

    rank : (j : ℕ) → j < 4 → All (λ x. stored x ≤ get_or (replicate 4 0) j 0) (drop {A = Activation} j [])
    rank zero h = tt
    rank (suc j) h = tt

    empty : (l : List ℕ) (j : ℕ) → j < history_length s → get_or (clear_cells (λ i. ltb i (history_length s)) l) (back (history_length s) 0 j) 0 ≡ 0
    empty l j h =
        clear_zero (λ i. ltb i (history_length s)) (back (history_length s) 0 j) l
        (lt→ltb (back (history_length s) 0 j) (history_length s) (back_lt (history_length s) 0 pos j h))

-- ---- renewed memory

renew_holds : (s : Setting) (own : ℕ → List ℕ) (st st' : State) (tr : List Activation) → SameParts s st st' → Holds s own st tr → Holds s own st' tr
renew_holds s own st st' tr p i =
    rw p.head
    (record {
      lawful = i.lawful;
      ranked = i.ranked;
      latest = i.latest;
      in_ring = i.in_ring;
      banks_long = i.banks_long;
      counters_long = p.counters_long;
      ticks_long = p.ticks_long;
      rows_long = p.rows_long;
      bank_last = i.bank_last;
      rank_last = i.rank_last;
      bank_past = i.bank_past;
      rank_past = i.rank_past;
      ring = λ j h.
          let b = back (history_length s) st.head.next j in
          let bh : b < history_length s = back_lt (history_length s) st.head.next i.in_ring j h in
          (p.ticks b bh ∙ (i.ring j h).0, p.rows b bh ∙ (i.ring j h).1);
      seeds_in = i.seeds_in;
      active = counts (epoch s st.head.last % 2) (epoch s st.head.last) (omega arith) i.active;
      passive = counts ((epoch s st.head.last + 1) % 2) (epoch s st.head.last + 1) (omega arith) i.passive;
    })
  where
    counts : (f k : ℕ) → f < 2 → Counted s (own f) st.counters f k tr → Counted s (own f) st'.counters f k tr
    counts f k f2 old b r h bh q =
        rw (p.counters (counter_cell b f h) (omega (arith, place_lt (own f) (i.seeds_in f f2) r h q))) (old b r h bh q)

-- ---- any move

module _ (m : Limits) (s : Setting) (seeds : List ℕ) (ok : Accepted m s seeds) where
  abbrev pub Held : Owned → List Activation → Type 0
  Held x tr = Holds s x.own x.state tr

  move_holds : (x : Owned) (tr : List Activation) (v : Move) → Allowed s x v → Held x tr → Held (moved s x v) (made x v ++ tr)
  move_holds x tr (clock t own) a i = turned_holds m s seeds ok x.state tr t x.own own a.0 a.1 i
  move_holds x tr (activate b th r) a i = activated_holds m s seeds ok x.own x.state tr i b th r a.0 a.1 a.2 a.3
  move_holds x tr (renew st) a i = renew_holds s x.own x.state st tr a i

  -- the activations of the moves in another order, newest first, on top of the earlier ones
  pub moves_hold : (vs : List Move) (x : Owned) (tr : List Activation) → AllAllowed s x vs → Held x tr
      → (tr' : List Activation) × Held (moved_by s x vs) tr' × ((q : Activation → Bool) → count q tr' ≡ count q (made_by s x vs) + count q tr)
  moves_hold [] x tr a i = (tr, i, λ q. omega arith)
  moves_hold (v ∷ vs) x tr a i =
      let rest = moves_hold vs (moved s x v) (made x v ++ tr) a.1 (move_holds x tr v a.0 i) in
      (rest.0, rest.1, λ q. omega (arith, rest.2 q, count_append q (made x v) tr, count_append q (made x v) (made_by s (moved s x v) vs)))

pub spans_of_moves : (m : Limits) → SpansOfMoves m
spans_of_moves m s seeds before e own fit vs a bank row start x x1 =
    let up = set_up_lem m s seeds before e in
    let ok = up.setting in
    let run = moves_hold m s seeds ok vs (record { state = fresh s before; own = own }) [] a (fresh_holds m s seeds own fit before up) in
    omega (
      arith,
      run.2 (λ o. of_row bank row o && in_span start x o.tick),
      lawful_span s (omega (arith, epoch_long ok)) ok.ranges.trc_low ok.gaps run.0 run.1.lawful bank row start x x1,
    )
