-- The decision of the rules is the decision from what the code reads of the state.
use Prim.Native.Nat.{ℕ, ◌+◌, ◌*◌, ◌≤◌, ◌<◌}
use mathlib.Core.Path.{◌≡◌, refl, sym, ap, ◌∙◌, subst}
use mathlib.Core.List.{List}
use mathlib.Core.Bool.{Bool, true, false, not, ◌&&◌, ◌||◌, cond}
use native.Mathlib.Omega.{arith}
use native.Mathlib.Decide.{dec_le}
use lib.Dec.{T, leb, ltb, ltb→lt}
use borrow.Author.Tests.{lt-ltb, le-ltb, le-leb, lt-leb}
use Rattle.rules.specs.declared.Setting.{Setting}
use Rattle.rules.specs.Setting.{epoch_length, history_length}
use Rattle.rules.specs.State.{State, row_word}
use Rattle.rules.specs.Clock.{epoch}
use Rattle.rules.specs.Filter.{Within}
use Rattle.rules.specs.History.{row_free}
use Rattle.rules.specs.Policy.{Policy}
use Rattle.rules.specs.Decision.{quota_rule, bank_rule, rank_rule, active_estimate, row_rule, wait_tick, first_failing, decide}
use Rattle.rules.specs.Claims.{closed_tick, closed_wait}
use Rattle.rules.proofs.Tests.{is_true, is_false}
use Rattle.rules.specs.Tested.{Memory}
use Rattle.rules.proofs.Wait.{wait_closed}
use Rattle.rules.proofs.WaitRow.{Delayed, delayed}
use Rattle.decision.specs.declared.View.{View}
use Rattle.decision.specs.Numbers.{gaps_end, wait_from, decide_from, delay_end, passive_filter, passive_estimate, view_of}

-- a row that neither filter blacklists waits for the gaps only, whatever the history holds
no_delay_lem : (n end m d active other : ℕ) → active < n → other < n → closed_tick n end m d active other ≡ m
unfolding closed_tick
no_delay_lem n end m d active other a o = rw (lt-ltb active n a, lt-ltb other n o) (go (leb d m) (ltb m end))
  where
    go : (x y : Bool) → cond x m (cond y m m) ≡ m
    go true y = refl
    go false true = refl
    go false false = refl

-- the wait tick, where the history is searched only for a row that a filter blacklists
pub skipped_delay : (n end m d active other : ℕ)
    → closed_tick n end m (cond (ltb active n && ltb other n) 0 d) active other ≡ closed_tick n end m d active other
skipped_delay n end m d active other = go (ltb active n) refl (ltb other n) refl
  where
    go : (x : Bool) → ltb active n ≡ x → (y : Bool) → ltb other n ≡ y
        → closed_tick n end m (cond (x && y) 0 d) active other ≡ closed_tick n end m d active other
    go true ex true ey =
        let a : active < n = ltb→lt active n (subst T (sym ex) tt) in
        let o : other < n = ltb→lt other n (subst T (sym ey) tt) in
        no_delay_lem n end m 0 active other a o ∙ sym (no_delay_lem n end m d active other a o)
    go true ex false ey = refl
    go false ex y ey = refl

-- the row rule by the threshold and the tick from which the history is free of the row
row_by_delay : (n t d active other : ℕ) (free : Bool) → free ≡ leb d t
    → (not (leb n active) || free) ≡ (ltb active n || leb (cond (ltb active n && ltb other n) 0 d) t)
row_by_delay n t d active other free e = go (dec_le n active)
  where
    go : Dec (n ≤ active) → (not (leb n active) || free) ≡ (ltb active n || leb (cond (ltb active n && ltb other n) 0 d) t)
    go (yes h) = rw (le-leb n active h, le-ltb active n h) e
    go (no h) =
        let l : active < n = omega arith in
        rw (lt-leb n active l, lt-ltb active n l)

-- the history is free of the row from the delay's end on
free_by_delay : (h td p : ℕ) (ticks rows : List ℕ) (word t d : ℕ) → Delayed h td ticks rows word t d → row_free h td ticks rows word t ≡ leb d t
free_by_delay h td p ticks rows word t d delay = go (dec_le d t)
  where
    go : Dec (d ≤ t) → row_free h td ticks rows word t ≡ leb d t
    go (yes k) = is_true (row_free h td ticks rows word t) (delay.free t (omega arith) k) ∙ sym (le-leb d t k)
    go (no k) =
        let l : t < d = omega arith in
        is_false (row_free h td ticks rows word t) (delay.held t (omega arith) l) ∙ sym (lt-leb d t l)

module _ (p : Policy) (s : Setting) (at : ℕ → List ℕ) (st : State) (bank thread row : ℕ) (kept : Memory s st.head st.ticks) where
  abbrev t : ℕ
  t = st.head.last

  abbrev active : ℕ
  active = active_estimate s at st bank

  abbrev other : ℕ
  other = passive_estimate s at st bank

  abbrev d : ℕ
  d = delay_end s st.head st.ticks st.rows bank row

  -- what the code reads of the state
  abbrev pub view : View
  view = view_of p s active other st.head st.ticks st.rows st.threads bank thread row

  row_equal : row_rule s at st bank row ≡ (ltb active s.n || leb (cond (ltb active s.n && ltb other s.n) 0 d) t)
  unfolding delay_end
  row_equal =
      row_by_delay s.n t d active other (row_free (history_length s) s.td st.ticks st.rows (row_word bank row) t)
      (free_by_delay (history_length s) s.td st.head.next st.ticks st.rows (row_word bank row) t d
      (delayed (history_length s) s.td st.head.next st.ticks st.rows (row_word bank row) t kept.in_ring kept.steady (λ q k. omega (arith, kept.history q k))))

  wait_equal : bank < s.banks → 1 ≤ epoch_length s → s.td ≤ epoch_length s → Within (at (passive_filter s t)) → wait_tick s at st bank row ≡ wait_from s t view
  unfolding closed_wait wait_from gaps_end view_of delay_end
  wait_equal bank_in long short w =
      wait_closed s at st bank row kept bank_in long short w
      ∙ sym (skipped_delay s.n ((epoch s t + 1) * epoch_length s) (gaps_end s t view) d active other)

  -- the rules' decision is the one from the view
  pub decide_view : bank < s.banks → 1 ≤ epoch_length s → s.td ≤ epoch_length s → Within (at (passive_filter s t))
      → decide p s at st bank thread row ≡ decide_from s t view
  unfolding decide decide_from view_of
  decide_view bank_in long short w =
      ap (λ x. first_failing (quota_rule p s st bank thread) (bank_rule s st bank) (rank_rule s st) x (wait_tick s at st bank row)) row_equal
      ∙ ap (λ x. first_failing (quota_rule p s st bank thread) (bank_rule s st bank) (rank_rule s st) (ltb active s.n || leb (cond (ltb active s.n && ltb other s.n) 0 d) t) x)
      (wait_equal bank_in long short w)
