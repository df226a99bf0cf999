-- The decision from numbers alone: what the code reads of a state, and what it decides from that.
use Rattle.std.specs.Prelude.{ℕ, ◌+◌, ◌-◌, ◌*◌, ◌%◌, max, List, ◌&&◌, ◌||◌, cond, ltb, leb, eqb, get_or}
use Rattle.head.specs.declared.Head.{Head}
use Rattle.rules.specs.declared.Setting.{Setting}
use Rattle.rules.specs.declared.Decision.{Decision}
use Rattle.rules.specs.Setting.{epoch_length, history_length}
use Rattle.rules.specs.State.{State, row_word}
use Rattle.rules.specs.Clock.{epoch, active_filter}
use Rattle.rules.specs.Filter.{estimate}
use Rattle.rules.specs.History.{find}
use Rattle.rules.specs.Quota.{index_counter}
use Rattle.rules.specs.Policy.{Policy}
use Rattle.rules.specs.Decision.{passed, first_failing}
use Rattle.rules.specs.Claims.{gap_end, closed_tick}
use Rattle.decision.specs.declared.View.{View}

-- the first tick from t on that bank and rank rules allow
unfoldable pub gaps_end : Setting → ℕ → View → ℕ
gaps_end s t v = max t (max (gap_end s.trc v.bank) (gap_end s.tfaw v.rank))

-- the wait tick, by its closed form
unfoldable pub wait_from : Setting → ℕ → View → ℕ
wait_from s t v = closed_tick s.n v.end (gaps_end s t v) v.delay v.active v.other

-- the decision at tick t
unfoldable pub decide_from : Setting → ℕ → View → Decision
decide_from s t v =
    first_failing (ltb v.flying v.quota) (passed s.trc v.bank t) (passed s.tfaw v.rank t)
    (ltb v.active s.n || leb v.delay t) (wait_from s t v)

-- the tick from which the history is free of the row, 0 where no place matches
unfoldable pub delay_end : Setting → Head → List ℕ → List ℕ → ℕ → ℕ → ℕ
delay_end s h ticks rows bank row =
    let place = find (history_length s) s.td h.next ticks rows (row_word bank row) h.last in
    cond (eqb place (history_length s)) 0 (get_or ticks place 0 - 1 + s.td)

-- the filter that the next epoch tests
abbrev pub passive_filter : Setting → ℕ → ℕ
passive_filter s t = (epoch s t + 1) % 2

-- the row's estimate in that filter; at f gives the row's places in filter f
abbrev pub passive_estimate : Setting → (ℕ → List ℕ) → State → ℕ → ℕ
passive_estimate s at st bank =
    estimate st.counters bank (passive_filter s st.head.last) (at (passive_filter s st.head.last))

-- What the decision looks at, with the row's estimates in the active and in the other filter. The history is searched only for a row that
-- one of them blacklists.
unfoldable pub view_of : Policy → Setting → ℕ → ℕ → Head → List ℕ → List ℕ → List ℕ → ℕ → ℕ → ℕ → View
view_of p s active other h ticks rows threads bank thread row =
    record {
      flying = p.in_flight s threads bank thread;
      quota = p.quota s (index_counter s threads bank thread (active_filter s h.last));
      bank = get_or h.bank bank 0;
      rank = get_or h.rank 3 0;
      active = active;
      other = other;
      delay = cond (ltb active s.n && ltb other s.n) 0 (delay_end s h ticks rows bank row);
      end = (epoch s h.last + 1) * epoch_length s;
    }
