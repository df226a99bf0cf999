-- What is proved about requests in flight (document 02, b): the statements, as types. Their proofs are in proofs/. That the rules in force take the
-- total for in flight is `SumsBanks` of the crate `rules`.
use Rattle.std.specs.Prelude.{◌≡◌, List, [], ◌∷◌, Bool, false, ℕ, ◌+◌, ◌≤◌, ◌<◌, eqb}
use Rattle.rules.specs.declared.Setting.{Setting}
use Rattle.rules.specs.declared.Limits.{Limits}
use Rattle.rules.specs.Cells.{more, count}
use Rattle.rules.specs.Answers.{none, none_in_flight}
use Rattle.rules.specs.State.{State, fresh}
use Rattle.rules.specs.Quota.{in_flight_here, in_flight_total}
use Rattle.rules.specs.Policy.{Policy, limits01, in_force, narrow, wide}
use Rattle.rules.specs.Calls.{Call, request, done, index, Reply, refused, answered, finished, shown, setup_refusal, call_refusal, step, replies, after, Activation, activations}
use Rattle.widths.specs.ChangeOver.{change_over_refusal, changed_state}
use Rattle.widths.specs.Claims.{activations_over}

-- ---- read off the replies

-- the call is a done of this thread, in any bank, that was not refused
abbrev pub is_done_of : ℕ → Call → Reply → Bool
is_done_of thread (request t b th r) reply = false
is_done_of thread (index t b th) reply = false
is_done_of thread (done t b th) (refused n) = false
is_done_of thread (done t b th) (answered a) = false
is_done_of thread (done t b th) finished = eqb th thread
is_done_of thread (done t b th) (shown c d q) = false

-- "its dones, refused ones apart": how many a run has
abbrev pub dones_of : ℕ → List Call → List Reply → ℕ
dones_of thread [] rs = 0
dones_of thread (c ∷ cs) [] = 0
dones_of thread (c ∷ cs) (r ∷ rs) = more (is_done_of thread c r) (dones_of thread cs rs)

-- "the thread's openings": how many there are among these activations, in any bank
abbrev pub openings_of : ℕ → List Activation → ℕ
openings_of thread os = count (λ o. eqb o.thread thread) os

-- ---- the total in a list

-- From any state on, with any list of calls: what the total gains is the thread's openings less its dones, refused ones apart.
abbrev pub TotalMoves : Policy → Type 0
TotalMoves p =
    (s : Setting) (seeds : List ℕ) (st : State) (cs : List Call) (bank thread : ℕ) → thread < s.threads
    → let rs = replies p s seeds st cs in
    in_flight_total s (after p s seeds st cs).threads bank thread + dones_of thread cs rs
    ≡ in_flight_total s st.threads bank thread + openings_of thread (activations cs rs)

-- "in a list as in demand 3 it equals the thread's openings less its dones, refused ones apart": the dones stand on the other side, so that nothing
-- is taken from a smaller number
abbrev pub TotalCounts : Policy → Type 0
TotalCounts p =
    (s : Setting) (seeds : List ℕ) (before : State) → setup_refusal p.limits s seeds before ≡ none
    → (cs : List Call) (bank thread : ℕ) → thread < s.threads
    → let rs = replies p s seeds (fresh s before) cs in
    in_flight_total s (after p s seeds (fresh s before) cs).threads bank thread + dones_of thread cs rs ≡ openings_of thread (activations cs rs)

-- Under the rules in force no thread of the setting has more than Q in flight after any list of calls, whichever banks they are in.
abbrev pub AtMostQ : Policy → Type 0
AtMostQ p =
    (s : Setting) (seeds : List ℕ) (before : State) → setup_refusal p.limits s seeds before ≡ none
    → (cs : List Call) (bank thread : ℕ) → thread < s.threads
    → in_flight_total s (after p s seeds (fresh s before) cs).threads bank thread ≤ s.q

-- ---- the total in a list with a change-over

-- "in a list as in demand 3 it equals the thread's openings less its dones, refused ones apart", also where the list has a change-over, which "only
-- old-width calls precede" (document 02, a): old-width calls after an old-width set-up that is not refused, a change-over that is not refused, and
-- new-width calls. Openings and dones are those before and after it together.
abbrev pub TotalCountsOver : Type 0
TotalCountsOver =
    (s : Setting) (seeds : List ℕ) (before : State) → setup_refusal limits01 s seeds before ≡ none
    → (earlier : List Call) (new : List ℕ) → change_over_refusal s seeds (after narrow s seeds (fresh s before) earlier) new ≡ none
    → (later : List Call) (bank thread : ℕ) → thread < s.threads
    → let taken = changed_state s seeds (after narrow s seeds (fresh s before) earlier) new in
    in_flight_total s (after wide s seeds taken later).threads bank thread
    + dones_of thread earlier (replies narrow s seeds (fresh s before) earlier) + dones_of thread later (replies wide s seeds taken later)
    ≡ openings_of thread (activations_over s seeds (fresh s before) earlier new later)

-- No thread of the setting has more than Q in flight after such a list, whichever banks they are in.
abbrev pub AtMostQOver : Type 0
AtMostQOver =
    (s : Setting) (seeds : List ℕ) (before : State) → setup_refusal limits01 s seeds before ≡ none
    → (earlier : List Call) (new : List ℕ) → change_over_refusal s seeds (after narrow s seeds (fresh s before) earlier) new ≡ none
    → (later : List Call) (bank thread : ℕ) → thread < s.threads
    → let taken = changed_state s seeds (after narrow s seeds (fresh s before) earlier) new in
    in_flight_total s (after wide s seeds taken later).threads bank thread ≤ s.q

-- ---- a done

-- "Done for a bank lowers the total and is refused with 10 exactly if that bank has none of the thread's requests.": of a done on any state that passes
-- refusals 1 to 9 and 16, whatever the total is
pub record DoneInBank (p : Policy) (s : Setting) (seeds : List ℕ) (st : State) (t bank thread : ℕ) : Type 0 where
  pub none_here : in_flight_here s st.threads bank thread ≡ 0 → (step p s seeds st (done t bank thread)).reply ≡ refused none_in_flight
  pub only_then : (step p s seeds st (done t bank thread)).reply ≡ refused none_in_flight → in_flight_here s st.threads bank thread ≡ 0
  pub some_here : 0 < in_flight_here s st.threads bank thread → (step p s seeds st (done t bank thread)).reply ≡ finished
  pub lowers : (step p s seeds st (done t bank thread)).reply ≡ finished
      → in_flight_total s (step p s seeds st (done t bank thread)).state.threads bank thread + 1 ≡ in_flight_total s st.threads bank thread

abbrev pub DoneByBank : Policy → Type 0
DoneByBank p =
    (s : Setting) (seeds : List ℕ) (st : State) (t bank thread : ℕ) → call_refusal p.limits s seeds st t bank thread ≡ none
    → DoneInBank p s seeds st t bank thread

-- ---- all of it

pub record Theorems : Type 0 where
  pub total_moves : (p : Policy) → TotalMoves p
  pub total_counts : (p : Policy) → TotalCounts p
  pub at_most_q : (m : Limits) → AtMostQ (in_force m)
  pub total_counts_over : TotalCountsOver
  pub at_most_q_over : AtMostQOver
  pub done_by_bank : (p : Policy) → DoneByBank p
