-- What is proved of the order of openings: "while the seeds stay the same: .. within one epoch a filter's contents after a group of openings depend on
-- what it held before and on the group, and not on the order" (document 02, m). The statements, as types. Their proofs are in proofs/.
use Rattle.std.specs.Prelude.{◌≡◌, List, [], ◌∷◌, map, cond, ℕ, ◌+◌, ◌*◌, ◌≤◌, ◌<◌, T, eqb, length}
use Rattle.rules.specs.declared.Setting.{Setting}
use Rattle.rules.specs.Cells.{All}
use Rattle.rules.specs.Answers.{none}
use Rattle.rules.specs.Setting.{seeds_in_range, setting_of}
use Rattle.rules.specs.State.{State}
use Rattle.rules.specs.Clock.{epoch, turned}
use Rattle.rules.specs.Hash.{places}
use Rattle.rules.specs.Filter.{estimate, counted, Within}
use Rattle.rules.specs.Policy.{Policy, narrow, wide}
use Rattle.rules.specs.Calls.{Call, call_tick, refusal_of, step, replies, after, Activation, activations}
use Rattle.widths.specs.ChangeOver.{change_over_refusal, changed_state}
use Rattle.widths.specs.Claims.{activations_over}
use Rattle.interface.specs.Claims.{Lent, Asked, call_of, found_in, left_by_all, lent_after_all, openings}
use Rattle.consequences.specs.order.Filled.{filter_of, least_at, counted_in, filled, SameGroup, Permuted}

-- ---- a filter by itself

-- Every contents, of any length and with counters above N too, any places of the rows, and every two lists of openings that are the same group.
abbrev pub OrderPlaysNoPart : Type 0
OrderPlaysNoPart =
    (n bank : ℕ) (at : ℕ → List ℕ) (os ps : List Activation) → SameGroup bank os ps → (filter : List ℕ) → filled n bank at os filter ≡ filled n bank at ps filter

-- So the estimate of every row is the same, whatever its places.
abbrev pub EstimatesAlike : Type 0
EstimatesAlike =
    (n bank : ℕ) (at : ℕ → List ℕ) (os ps : List Activation) → SameGroup bank os ps
    → (filter : List ℕ) (row : ℕ) → least_at (filled n bank at os filter) (at row) ≡ least_at (filled n bank at ps filter) (at row)

-- Every permutation of a list is the same group, for every bank, and so makes the same of every contents.
abbrev pub PermutedIsSame : Type 0
PermutedIsSame = (os ps : List Activation) → Permuted os ps → (bank : ℕ) → SameGroup bank os ps

abbrev pub PermutedAlike : Type 0
PermutedAlike =
    (n bank : ℕ) (at : ℕ → List ℕ) (os ps : List Activation) → Permuted os ps → (filter : List ℕ) → filled n bank at os filter ≡ filled n bank at ps filter

-- ---- the rules' counters are filters

-- An opening of the rules counts in its bank's two filters and leaves every other filter as it is: for places within a filter, and counters that have
-- the bank's own.
abbrev pub CountedInFilters : Type 0
CountedInFilters =
    (n b : ℕ) (at : ℕ → List ℕ) → All (λ h. h < 1024) (at 0) → All (λ h. h < 1024) (at 1)
    → (counters : List ℕ) → b * 2048 + 2048 ≤ length counters → (bank f : ℕ) → f < 2
    → filter_of (counted n b at counters) bank f ≡ cond (eqb b bank) (counted_in n (at f) (filter_of counters bank f)) (filter_of counters bank f)

-- The estimate of the rules is the filter's own: equal contents give equal estimates of every row.
abbrev pub EstimateOfFilter : Type 0
EstimateOfFilter =
    (counters : List ℕ) (bank f : ℕ) (at : List ℕ) → Within at → estimate counters bank f at ≡ least_at (filter_of counters bank f) at

-- ---- lists of calls

-- "within one epoch": each call of the list that is not refused has its tick in epoch e; a refused one may have any
abbrev pub InEpoch : Policy → Setting → List ℕ → ℕ → State → List Call → Type 0
InEpoch p s seeds e st [] = Unit {0}
InEpoch p s seeds e st (c ∷ cs) =
    (refusal_of p.limits s seeds st c ≡ none → epoch s (call_tick c) ≡ e) × InEpoch p s seeds e (step p s seeds st c).state cs

-- After any calls within the epoch of the state's last tick, refused ones among them, from any state: each filter holds what the openings, read off
-- the replies, make of what it held before.
abbrev pub FilledByCalls : Policy → Type 0
FilledByCalls p =
    (s : Setting) (seeds : List ℕ) (st : State) (cs : List Call) → InEpoch p s seeds (epoch s st.head.last) st cs
    → (bank f : ℕ) → f < 2
    → filter_of (after p s seeds st cs).counters bank f
    ≡ filled s.n bank (places seeds) (activations cs (replies p s seeds st cs)) (filter_of st.counters bank f)

-- The same where the first call, not refused, enters the epoch: what the filter held before is what the turn of the clock left in it.
abbrev pub FilledFromTurn : Policy → Type 0
FilledFromTurn p =
    (s : Setting) (seeds : List ℕ) (st : State) (c : Call) (cs : List Call) → refusal_of p.limits s seeds st c ≡ none
    → InEpoch p s seeds (epoch s (call_tick c)) (step p s seeds st c).state cs
    → (bank f : ℕ) → f < 2
    → filter_of (after p s seeds st (c ∷ cs)).counters bank f
    ≡ filled s.n bank (places seeds) (activations (c ∷ cs) (replies p s seeds st (c ∷ cs))) (filter_of (turned s st (call_tick c)).counters bank f)

-- The same with a change-over that is not refused, for the banks of the setting.
abbrev pub FilledOver : Type 0
FilledOver =
    (s : Setting) (seeds : List ℕ) (st : State) (earlier : List Call) (new : List ℕ) (later : List Call)
    → change_over_refusal s seeds (after narrow s seeds st earlier) new ≡ none
    → InEpoch narrow s seeds (epoch s st.head.last) st earlier
    → InEpoch wide s seeds (epoch s st.head.last) (changed_state s seeds (after narrow s seeds st earlier) new) later
    → (bank f : ℕ) → bank < s.banks → f < 2
    → filter_of (after wide s seeds (changed_state s seeds (after narrow s seeds st earlier) new) later).counters bank f
    ≡ filled s.n bank (places seeds) (activations_over s seeds st earlier new later) (filter_of st.counters bank f)

-- The same of what a C program sees: its openings, and the counters in the memory that its calls leave.
abbrev pub FilledForC : Policy → Type 0
FilledForC p =
    (setting seeds : List ℕ) (m : Lent) (cs : List Asked)
    → InEpoch p (setting_of setting) seeds (epoch (setting_of setting) (found_in m).head.last) (found_in m) (map call_of cs)
    → (bank f : ℕ) → f < 2
    → filter_of (lent_after_all p setting seeds m cs).counters bank f
    ≡ filled (setting_of setting).n bank (places seeds) (openings cs (left_by_all p setting seeds m cs)) (filter_of m.counters bank f)

-- Two states, each with calls within the epoch of its last tick that open the same group: a filter that held the same before holds the same after ..
abbrev pub SameContents : Policy → Type 0
SameContents p =
    (s : Setting) (seeds : List ℕ) (st su : State) (cs ds : List Call)
    → InEpoch p s seeds (epoch s st.head.last) st cs → InEpoch p s seeds (epoch s su.head.last) su ds
    → (bank f : ℕ) → f < 2 → SameGroup bank (activations cs (replies p s seeds st cs)) (activations ds (replies p s seeds su ds))
    → filter_of st.counters bank f ≡ filter_of su.counters bank f
    → filter_of (after p s seeds st cs).counters bank f ≡ filter_of (after p s seeds su ds).counters bank f

-- .. and so it has the same estimate of every row, with seeds in range.
abbrev pub SameEstimates : Policy → Type 0
SameEstimates p =
    (s : Setting) (seeds : List ℕ) → T (seeds_in_range seeds)
    → (st su : State) (cs ds : List Call)
    → InEpoch p s seeds (epoch s st.head.last) st cs → InEpoch p s seeds (epoch s su.head.last) su ds
    → (bank f : ℕ) → f < 2 → SameGroup bank (activations cs (replies p s seeds st cs)) (activations ds (replies p s seeds su ds))
    → filter_of st.counters bank f ≡ filter_of su.counters bank f
    → (row : ℕ) → estimate (after p s seeds st cs).counters bank f (places seeds row) ≡ estimate (after p s seeds su ds).counters bank f (places seeds row)

-- ---- all of it

pub record Theorems : Type 0 where
  pub order_plays_no_part : OrderPlaysNoPart
  pub estimates_alike : EstimatesAlike
  pub permuted_is_same : PermutedIsSame
  pub permuted_alike : PermutedAlike
  pub counted_in_filters : CountedInFilters
  pub estimate_of_filter : EstimateOfFilter
  pub filled_by_calls : (p : Policy) → FilledByCalls p
  pub filled_from_turn : (p : Policy) → FilledFromTurn p
  pub filled_over : FilledOver
  pub filled_for_c : (p : Policy) → FilledForC p
  pub same_contents : (p : Policy) → SameContents p
  pub same_estimates : (p : Policy) → SameEstimates p
