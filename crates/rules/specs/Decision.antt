-- The decision on a request, the wait tick, and what an activation changes. The state's clock stands at the request's tick.
use Rattle.std.specs.Prelude.{List, Bool, true, false, not, ◌&&◌, ◌||◌, cond, ℕ, ◌+◌, ◌-◌, leb, ltb, eqb, get_or, set}
use Rattle.head.specs.Head.{activated_head}
use Rattle.rules.specs.declared.Setting.{Setting}
use Rattle.rules.specs.declared.Cause.TheVariants.{Bank, Rank, Row}
use Rattle.rules.specs.declared.Decision.{Decision}
use Rattle.rules.specs.declared.Decision.TheVariants.{Open, Hold, OverQuota}
use Rattle.rules.specs.declared.Answer.{Answer}
use Rattle.rules.specs.declared.Answer.TheVariants.{Opened, Wait, Quota}
use Rattle.rules.specs.Cells.{least_from}
use Rattle.rules.specs.Setting.{history_length, index_scale}
use Rattle.rules.specs.State.{State, thread_cell, row_word}
use Rattle.rules.specs.Clock.{active_filter, turned}
use Rattle.rules.specs.Filter.{estimate, blacklisted, raised, counted}
use Rattle.rules.specs.History.{row_free}
use Rattle.rules.specs.Quota.{index_counter}
use Rattle.rules.specs.Policy.{Policy}

-- "Quota if in flight is not below the quota." The rule passes where it is below.
abbrev pub quota_rule : Policy → Setting → State → ℕ → ℕ → Bool
quota_rule p s st bank thread =
    ltb (p.in_flight s st.threads bank thread) (p.quota s (index_counter s st.threads bank thread (active_filter s st.head.last)))

-- t is the gap or more after an activation with this stored tick, 0 for none
abbrev pub passed : ℕ → ℕ → ℕ → Bool
passed gap stored t = eqb stored 0 || leb (stored - 1 + gap) t

-- "bank: t ≥ its last opening + tRC"
abbrev pub bank_rule : Setting → State → ℕ → Bool
bank_rule s st bank = passed s.trc (get_or st.head.bank bank 0) st.head.last

-- "rank: t ≥ the fourth last opening + tFAW"
abbrev pub rank_rule : Setting → State → Bool
rank_rule s st = passed s.tfaw (get_or st.head.rank 3 0) st.head.last

-- the estimate of a row, as the active filter reports it; at f gives the row's places in filter f
abbrev pub active_estimate : Setting → (ℕ → List ℕ) → State → ℕ → ℕ
active_estimate s at st bank =
    estimate st.counters bank (active_filter s st.head.last) (at (active_filter s st.head.last))

-- "row: not blacklisted, or no opening of that row in the history that is at most t and under tD ticks old"
abbrev pub row_rule : Setting → (ℕ → List ℕ) → State → ℕ → ℕ → Bool
row_rule s at st bank row =
    not (blacklisted s.n (active_estimate s at st bank))
    || row_free (history_length s) s.td st.ticks st.rows (row_word bank row) st.head.last

-- bank, rank and row rules pass at tick u "if no call came between, epoch turns included"
unfoldable pub passes_at : Setting → (ℕ → List ℕ) → State → ℕ → ℕ → ℕ → Bool
passes_at s at st bank row u =
    bank_rule s (turned s st u) bank && (rank_rule s (turned s st u) && row_rule s at (turned s st u) bank row)

-- "the least tick u ≥ t at which bank, rank and row rules would all pass"; none of them holds a row longer than these ticks together
unfoldable pub wait_tick : Setting → (ℕ → List ℕ) → State → ℕ → ℕ → ℕ
wait_tick s at st bank row = least_from (passes_at s at st bank row) st.head.last (s.trc + s.tfaw + s.td)

-- "The first rule that fails names the cause. If all pass: opened."
abbrev pub first_failing : Bool → Bool → Bool → Bool → ℕ → Decision
first_failing false bank rank row u = OverQuota
first_failing true false rank row u = Hold Bank u
first_failing true true false row u = Hold Rank u
first_failing true true true false u = Hold Row u
first_failing true true true true u = Open

unfoldable pub decide : Policy → Setting → (ℕ → List ℕ) → State → ℕ → ℕ → ℕ → Decision
decide p s at st bank thread row =
    first_failing (quota_rule p s st bank thread) (bank_rule s st bank) (rank_rule s st) (row_rule s at st bank row) (wait_tick s at st bank row)

-- One more in flight; both index counters "count openings of rows blacklisted when opened, up to D".
unfoldable pub activated_threads : Setting → List ℕ → ℕ → ℕ → Bool → List ℕ
activated_threads s ts bank thread black =
    let flying = set ts (thread_cell s bank thread 2) (get_or ts (thread_cell s bank thread 2) 0 + 1) in
    let first = set flying (thread_cell s bank thread 0) (raised (index_scale s) (get_or ts (thread_cell s bank thread 0) 0)) in
    cond black (set first (thread_cell s bank thread 1) (raised (index_scale s) (get_or ts (thread_cell s bank thread 1) 0))) flying

-- "Only an opening adds to counters, history and in flight."
unfoldable pub activated : Setting → (ℕ → List ℕ) → State → ℕ → ℕ → ℕ → State
activated s at st bank thread row =
    record {
      head = activated_head (history_length s) st.head bank;
      counters = counted s.n bank at st.counters;
      ticks = set st.ticks st.head.next (st.head.last + 1);
      rows = set st.rows st.head.next (row_word bank row);
      threads = activated_threads s st.threads bank thread (blacklisted s.n (active_estimate s at st bank));
    }

-- "N minus the estimate after the opening, never below 0" (document 02, e), of the state after the activation: a difference of natural
-- numbers is never below 0.
abbrev pub openings_left : Setting → (ℕ → List ℕ) → State → ℕ → ℕ
openings_left s at st bank = s.n - active_estimate s at st bank

-- whether a decision opens the row
abbrev pub opens : Decision → Bool
opens Open = true
opens (Hold c u) = false
opens OverQuota = false

-- the answer to a request with this decision, with the openings left where it opens the row
abbrev pub answer_of : Decision → ℕ → Answer
answer_of Open left = Opened left
answer_of (Hold c u) left = Wait c u
answer_of OverQuota left = Quota
