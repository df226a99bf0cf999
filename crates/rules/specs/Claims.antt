-- What is proved about the rules: the statements, as types. Their proofs are in proofs/. More of them are in the crate `assurances`.
use Rattle.std.specs.Prelude.{◌≡◌, ◌≢◌, List, [], Bool, not, cond, ℕ, ◌+◌, ◌-◌, ◌*◌, ◌/◌, ◌%◌, ◌≤◌, ◌<◌, min, max, T, leb, ltb, eqb, length, get_or}
use Rattle.rules.specs.declared.Setting.{Setting}
use Rattle.rules.specs.declared.Limits.{Limits}
use Rattle.rules.specs.declared.Answer.TheVariants.{Opened}
use Rattle.rules.specs.Cells.{ceil_div, sum_below, All}
use Rattle.rules.specs.Answers.{none, short_buffer, bad_memory}
use Rattle.rules.specs.Setting.{epoch_length, history_length, row_bound, index_scale, seeds_in_range}
use Rattle.rules.specs.State.{State, counters_used, threads_used, row_word, fresh}
use Rattle.rules.specs.Clock.{epoch, turned}
use Rattle.rules.specs.Hash.{places}
use Rattle.rules.specs.Filter.{Within, estimate}
use Rattle.rules.specs.History.{find}
use Rattle.rules.specs.Quota.{half_even, in_flight_here}
use Rattle.rules.specs.Policy.{Policy, in_force}
use Rattle.rules.specs.Tested.{Accepted}
use Rattle.rules.specs.Decision.{active_estimate, row_rule, passes_at, wait_tick, activated, openings_left}
use Rattle.rules.specs.Calls.{Call, request, refused, answered, setup_refusal, call_refusal, step, replies, activation_of, activations, times_activated}
use Rattle.rules.specs.Moves.{Move, AllAllowed, made_by, Moves}

-- ---- demand 3 and spans of every length

-- The most activations that the row rule lets pass without a delay in x ticks: "m = ceil((X − 1)/E) + 1 and F = N × ceil(m/2)".
abbrev pub free_most : Setting → ℕ → ℕ
free_most s x = s.n * ceil_div (ceil_div (x - 1) (epoch_length s) + 1) 2

-- "F + 1 + floor((X − 1 − F × tRC)/tD) times if X − 1 ≥ F × tRC, else at most 1 + floor((X − 1)/tRC)"
unfoldable pub span_bound : Setting → ℕ → ℕ
span_bound s x =
    cond (leb (free_most s x * s.trc) (x - 1)) (free_most s x + 1 + (x - 1 - free_most s x * s.trc) / s.td) (1 + (x - 1) / s.trc)

-- A row's activations in x successive ticks, for every list of moves after a set-up that is not refused, whatever seeds the filters start
-- with. Every list of calls is such a list of moves (`StepMoves`); a call that a later request adds has only to be shown to be moves.
abbrev pub SpansOfMoves : Limits → Type 0
SpansOfMoves m =
    (s : Setting) (seeds : List ℕ) (before : State) → setup_refusal m s seeds before ≡ none
    → (own : ℕ → List ℕ) → ((f : ℕ) → f < 2 → T (seeds_in_range (own f)))
    → (vs : List Move) → AllAllowed s (record { state = fresh s before; own = own }) vs
    → (bank row start x : ℕ) → 1 ≤ x
    → times_activated bank row start x (made_by s (record { state = fresh s before; own = own }) vs) ≤ span_bound s x

-- A call is moves: from the state with the setting's seeds in both filters to the state that it leaves, with the activations that its
-- reply tells.
abbrev pub StepMoves : Policy → Type 0
StepMoves p =
    (s : Setting) (seeds : List ℕ) (st : State) (c : Call)
    → Moves s (record { state = st; own = λ f. seeds }) (record { state = (step p s seeds st c).state; own = λ f. seeds })
    (activation_of c (step p s seeds st c).reply)

-- A row's activations in x successive ticks, for every list of calls after a set-up that is not refused, with any seeds and any contents before.
abbrev pub Spans : Policy → Type 0
Spans p =
    (s : Setting) (seeds : List ℕ) (before : State) → setup_refusal p.limits s seeds before ≡ none
    → (cs : List Call) (bank row start x : ℕ) → 1 ≤ x
    → times_activated bank row start x (activations cs (replies p s seeds (fresh s before) cs)) ≤ span_bound s x

-- Demand 3: "no row of any bank is opened more than L times in any W successive ticks".
abbrev pub Demand3 : Policy → Type 0
Demand3 p =
    (s : Setting) (seeds : List ℕ) (before : State) → setup_refusal p.limits s seeds before ≡ none
    → (cs : List Call) (bank row start : ℕ)
    → times_activated bank row start s.w (activations cs (replies p s seeds (fresh s before) cs)) ≤ s.l

-- The same with the row bound: at most B, which refusal 5 keeps at most L.
abbrev pub WithinBound : Policy → Type 0
WithinBound p =
    (s : Setting) (seeds : List ℕ) (before : State) → setup_refusal p.limits s seeds before ≡ none
    → (cs : List Call) (bank row start : ℕ)
    → times_activated bank row start s.w (activations cs (replies p s seeds (fresh s before) cs)) ≤ row_bound s

-- ---- the wait tick

-- u is the least number from v on that passes the test
pub record Least (p : ℕ → Bool) (v u : ℕ) : Type 0 where
  pub later : v ≤ u
  pub passes : T (p u)
  pub first : (x : ℕ) → v ≤ x → x < u → T (not (p x))

-- For every state on which a call is not refused, reachable or not, and any places of the row: the wait tick is the least passing tick.
abbrev pub WaitIsLeast : Limits → Type 0
WaitIsLeast m =
    (s : Setting) (seeds : List ℕ) (st : State) (t bank thread : ℕ) → call_refusal m s seeds st t bank thread ≡ none
    → (at : ℕ → List ℕ) (row : ℕ) → Least (passes_at s at (turned s st t) bank row) t (wait_tick s at (turned s st t) bank row)

-- The closed form, from numbers: the end of the epoch, the first tick m that bank and rank rules allow, the tick d at which the newest
-- match is tD old (0 for none), and the row's estimates in the active and in the other filter.
unfoldable pub closed_tick : ℕ → ℕ → ℕ → ℕ → ℕ → ℕ → ℕ
closed_tick n end m d active other =
    cond (leb d m) m
    (cond (ltb m end)
    (cond (ltb active n) m (cond (ltb other n) (min d end) d))
    (cond (ltb other n) m d))

-- the first tick at which a gap after a stored tick is past, 0 for none
abbrev pub gap_end : ℕ → ℕ → ℕ
gap_end gap stored = cond (eqb stored 0) 0 (stored - 1 + gap)

unfoldable pub closed_wait : Setting → (ℕ → List ℕ) → State → ℕ → ℕ → ℕ
closed_wait s at st bank row =
    let t = st.head.last in
    let f = (epoch s t + 1) % 2 in
    let place = find (history_length s) s.td st.head.next st.ticks st.rows (row_word bank row) t in
    closed_tick s.n ((epoch s t + 1) * epoch_length s)
    (max t (max (gap_end s.trc (get_or st.head.bank bank 0)) (gap_end s.tfaw (get_or st.head.rank 3 0))))
    (cond (eqb place (history_length s)) 0 (get_or st.ticks place 0 - 1 + s.td))
    (active_estimate s at st bank)
    (estimate st.counters bank f (at f))

-- For every such state and places within a filter. A place of 1,024 or more would name a counter of another filter, cleared at another turn.
abbrev pub WaitIsClosed : Limits → Type 0
WaitIsClosed m =
    (s : Setting) (seeds : List ℕ) (st : State) (t bank thread : ℕ) → call_refusal m s seeds st t bank thread ≡ none
    → (at : ℕ → List ℕ) (row : ℕ) → Within (at 0) → Within (at 1) → wait_tick s at (turned s st t) bank row ≡ closed_wait s at (turned s st t) bank row

-- ---- what is never held or refused

-- "A row whose estimate is below the threshold is never held by the row rule."
abbrev pub BelowThreshold : Type 0
BelowThreshold = (s : Setting) (at : ℕ → List ℕ) (st : State) (bank row : ℕ) → active_estimate s at st bank < s.n → T (row_rule s at st bank row)

-- the distance of two numbers
abbrev pub distance : ℕ → ℕ → ℕ
distance a b = (a - b) + (b - a)

-- q is a whole number nearest to x/d, and even where another one is as near: 2 × |q × d − x| ≤ d, and q is even where the two are equal
pub record Nearest (x d q : ℕ) : Type 0 where
  pub near : 2 * distance (q * d) x ≤ d
  pub even : 2 * distance (q * d) x ≡ d → q % 2 ≡ 0

-- "rounding to the nearest whole request, with an exact half going to the even one" gives such a number, and there is no other.
abbrev pub Rounds : Type 0
Rounds = (x d : ℕ) → 1 ≤ d → Nearest x d (half_even x d) × ((q : ℕ) → Nearest x d q → q ≡ half_even x d)

-- The quota of a policy is that number for "Q × (D − min(c, D))/D", under every setting that its limits accept and every counter.
abbrev pub QuotaRounds : Policy → Type 0
QuotaRounds p =
    (s : Setting) (seeds : List ℕ) → Accepted p.limits s seeds
    → (c : ℕ) → Nearest (s.q * (index_scale s - min c (index_scale s))) (index_scale s) (p.quota s c)

-- What in flight means to a policy is the thread's total: "the sum of the per-bank counts" over the banks of the setting, whatever bank is named.
abbrev pub SumsBanks : Policy → Type 0
SumsBanks p =
    (s : Setting) (threads : List ℕ) (bank thread : ℕ) → p.in_flight s threads bank thread ≡ sum_below s.banks (λ b. in_flight_here s threads b thread)

-- What in flight means to a policy depends on the used thread counters alone.
abbrev pub UsedFlying : Policy → Type 0
UsedFlying p =
    (s : Setting) (threads other : List ℕ) (bank thread : ℕ) → bank < s.banks → thread < s.threads
    → ((i : ℕ) → i < threads_used s → get_or other i 0 ≡ get_or threads i 0) → p.in_flight s other bank thread ≡ p.in_flight s threads bank thread

-- ---- openings left (document 02, e)

-- After an activation they are N less (the estimate before it + 1), for any contents of the counters, those above N included, and any
-- seeds in range of each filter, so that places may coincide.
abbrev pub LeftAfter : Type 0
LeftAfter =
    (s : Setting) (own : ℕ → List ℕ) → ((f : ℕ) → f < 2 → T (seeds_in_range (own f)))
    → (st : State) (bank thread row : ℕ) → bank < s.banks → counters_used s ≤ length st.counters
    → let at : ℕ → List ℕ = λ f. places (own f) row in
    openings_left s at (activated s at st bank thread row) bank ≡ s.n - (active_estimate s at st bank + 1)

-- So are those that an opened answer of any call carries.
abbrev pub LeftOfOpened : Policy → Type 0
LeftOfOpened p =
    (s : Setting) (seeds : List ℕ) (st : State) (t bank thread row left : ℕ)
    → (step p s seeds st (request t bank thread row)).reply ≡ answered (Opened left)
    → left ≡ s.n - (active_estimate s (λ f. places seeds row) (turned s st t) bank + 1)

-- ---- what memory is never refused

-- No call of a list after set-up is refused with 6 or 7.
abbrev pub NeverMemory : Policy → Type 0
NeverMemory p =
    (s : Setting) (seeds : List ℕ) (before : State) → setup_refusal p.limits s seeds before ≡ none
    → (cs : List Call) → All (λ r. (r ≢ refused short_buffer) × (r ≢ refused bad_memory)) (replies p s seeds (fresh s before) cs)

-- ---- all of it

pub record Theorems : Type 0 where
  pub spans_of_moves : (m : Limits) → SpansOfMoves m
  pub step_moves : (p : Policy) → StepMoves p
  pub spans : (p : Policy) → Spans p
  pub demand3 : (p : Policy) → Demand3 p
  pub within_bound : (p : Policy) → WithinBound p
  pub wait_is_least : (m : Limits) → WaitIsLeast m
  pub wait_is_closed : (m : Limits) → WaitIsClosed m
  pub below_threshold : BelowThreshold
  pub never_memory : (p : Policy) → NeverMemory p
  pub left_after : LeftAfter
  pub left_of_opened : (p : Policy) → LeftOfOpened p
  pub rounds : Rounds
  pub in_force_rounds : (m : Limits) → QuotaRounds (in_force m)
  pub in_force_sums : (m : Limits) → SumsBanks (in_force m)
  pub in_force_used_flying : (m : Limits) → UsedFlying (in_force m)
