-- Moves of the state that decides: what any call, of document 01 or of a later request, may do to it as far as demand 3 is concerned.
use Rattle.std.specs.Prelude.{◌≡◌, List, [], ◌∷◌, ◌++◌, not, ℕ, ◌≤◌, ◌<◌, T, length, get_or}
use Rattle.rules.specs.declared.Setting.{Setting}
use Rattle.rules.specs.Setting.{history_length, seeds_in_range}
use Rattle.rules.specs.State.{State, counters_used}
use Rattle.rules.specs.Clock.{epoch, clears, turned}
use Rattle.rules.specs.Hash.{places}
use Rattle.rules.specs.Decision.{bank_rule, rank_rule, row_rule, activated}
use Rattle.rules.specs.Calls.{Activation}

-- the state, with the seeds of each filter
pub record Owned : Type 0 where
  pub state : State
  pub own : ℕ → List ℕ

-- The clock goes to a tick, and own are the seeds of each filter from then on; a row is activated; or the memory is given anew, with
-- other thread counters and other cells past the used parts.
pub data Move : Type 0 where
  clock : (tick : ℕ) (own : ℕ → List ℕ) → Move
  activate : (bank thread row : ℕ) → Move
  renew : State → Move

-- the seeds that a move of the clock from epoch e to epoch e' leaves: in range, and a filter that is not cleared keeps its own
pub record Reseeds (e e' : ℕ) (own own' : ℕ → List ℕ) : Type 0 where
  pub fit : (f : ℕ) → f < 2 → T (seeds_in_range (own' f))
  pub same : (f : ℕ) → f < 2 → T (not (clears e e' f)) → own' f ≡ own f

-- equal heads, and equal used parts of counters and history
pub record SameParts (s : Setting) (a b : State) : Type 0 where
  pub head : b.head ≡ a.head
  pub counters_long : counters_used s ≤ length b.counters
  pub ticks_long : history_length s ≤ length b.ticks
  pub rows_long : history_length s ≤ length b.rows
  pub counters : (i : ℕ) → i < counters_used s → get_or b.counters i 0 ≡ get_or a.counters i 0
  pub ticks : (i : ℕ) → i < history_length s → get_or b.ticks i 0 ≡ get_or a.ticks i 0
  pub rows : (i : ℕ) → i < history_length s → get_or b.rows i 0 ≡ get_or a.rows i 0

-- The clock goes forward; an activation passes bank, rank and row rules; renewed memory decides alike.
abbrev pub Allowed : Setting → Owned → Move → Type 0
Allowed s x (clock t own) = (x.state.head.last ≤ t) × Reseeds (epoch s x.state.head.last) (epoch s t) x.own own
Allowed s x (activate b th r) =
    (b < s.banks) × T (bank_rule s x.state b) × T (rank_rule s x.state) × T (row_rule s (λ f. places (x.own f) r) x.state b r)
Allowed s x (renew st) = SameParts s x.state st

-- what a move leaves
abbrev pub moved : Setting → Owned → Move → Owned
moved s x (clock t own) = record { state = turned s x.state t; own = own }
moved s x (activate b th r) = record { state = activated s (λ f. places (x.own f) r) x.state b th r; own = x.own }
moved s x (renew st) = record { state = st; own = x.own }

-- the activations that it makes, at the last tick
abbrev pub made : Owned → Move → List Activation
made x (clock t own) = []
made x (activate b th r) = record { tick = x.state.head.last; bank = b; thread = th; row = r } ∷ []
made x (renew st) = []

-- lists of moves
abbrev pub AllAllowed : Setting → Owned → List Move → Type 0
AllAllowed s x [] = Unit {0}
AllAllowed s x (m ∷ ms) = Allowed s x m × AllAllowed s (moved s x m) ms

abbrev pub moved_by : Setting → Owned → List Move → Owned
moved_by s x [] = x
moved_by s x (m ∷ ms) = moved_by s (moved s x m) ms

abbrev pub made_by : Setting → Owned → List Move → List Activation
made_by s x [] = []
made_by s x (m ∷ ms) = made x m ++ made_by s (moved s x m) ms

-- from x to y by moves that make these activations
pub record Moves (s : Setting) (x y : Owned) (new : List Activation) : Type 0 where
  pub moves : List Move
  pub allowed : AllAllowed s x moves
  pub end : moved_by s x moves ≡ y
  pub makes : made_by s x moves ≡ new
