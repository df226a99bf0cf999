-- What is proved of the two widths (document 02, a): the statements, as types. Their proofs are in proofs/. `narrow` are the rules in force at the
-- old width, with 16-bit counters, `wide` those at the new one, with 32-bit counters; `limits01` and `limits02` are their limits.
use Rattle.std.specs.Prelude.{◌≡◌, ◌≢◌, List, [], ◌∷◌, ◌++◌, ℕ, ◌+◌, ◌^◌, ◌≤◌, ◌<◌, T, length, get_or}
use Rattle.rules.specs.declared.Setting.{Setting}
use Rattle.rules.specs.Cells.{All}
use Rattle.rules.specs.Answers.{none, out_of_range, short_window, bad_delay, long_history, above_limit, short_buffer, bad_memory, refusal_number}
use Rattle.rules.specs.Setting.{setting_of, history_length, row_bound, setting_refusal}
use Rattle.rules.specs.State.{State, counters_used, too_short, fresh}
use Rattle.rules.specs.History.{memory_ok}
use Rattle.rules.specs.Policy.{limits01, limits02, narrow, wide}
use Rattle.rules.specs.Tested.{Long}
use Rattle.rules.specs.Calls.{Call, refused, finished, setup, setup_refusal, replies, after, Activation, activations, times_activated}
use Rattle.rules.specs.Claims.{span_bound, Spans, Demand3}
use Rattle.assurances.specs.Claims.{SameFrom, Fits}
use Rattle.rules.specs.Samples.{house, table_one}
use Rattle.widths.specs.ChangeOver.{change_over_refusal, change_over, changed_state}

-- ---- the setting

-- The refusals about a setting at the old and at the new limits, with any seeds. An N above the old limit is 1 at the old width, whatever else is
-- wrong. An H above the old limit is 4 there, where the new width finds none of 1, 2 and 3. Within both old limits the two widths refuse alike.
pub record TwoLimits (s : Setting) (seeds : List ℕ) : Type 0 where
  pub above_threshold : 32768 < s.n → setting_refusal limits01 s seeds ≡ out_of_range
  pub above_history : s.n ≤ 32768 → 4096 < history_length s
      → setting_refusal limits02 s seeds ≢ out_of_range → setting_refusal limits02 s seeds ≢ short_window → setting_refusal limits02 s seeds ≢ bad_delay
      → setting_refusal limits01 s seeds ≡ long_history
  pub within : s.n ≤ 32768 → history_length s ≤ 4096 → setting_refusal limits02 s seeds ≡ setting_refusal limits01 s seeds

-- What the old width accepts, the new one accepts.
abbrev pub OldAccepted : Type 0
OldAccepted = (s : Setting) (seeds : List ℕ) → setting_refusal limits01 s seeds ≡ none → setting_refusal limits02 s seeds ≡ none

-- "Chips with a limit near 1,000 need tens of thousands of history places. The history may reach 32,768 places, N may reach 2^20": BlockHammer's
-- Table 1 for a chip with L 1,024, with the least delay for N 400 and with the longest history, and a setting with the greatest N. The old width
-- refuses them with 4, 4 and 1. The new width accepts them, and refuses one tick less of delay with 5, one tick more with 4, and N + 1 with 1.
abbrev pub greatest_n : ℕ → Setting
greatest_n n = setting_of (2 ^ 30 ∷ 1 ∷ 4 ∷ n ∷ 74 ∷ 2 ^ 24 ∷ 4 ∷ 1 ∷ 1 ∷ 0 ∷ [])

pub record NewSettings : Type 0 where
  pub weak_bound : row_bound (table_one 400 1142197 1024) ≡ 1024
  pub weak_history : history_length (table_one 400 1142197 1024) ≡ 32636
  pub weak : setting_refusal limits02 (table_one 400 1142197 1024) house ≡ none
  pub weak_less : setting_refusal limits02 (table_one 400 1142196 1024) house ≡ above_limit
  pub weak_old : setting_refusal limits01 (table_one 400 1142197 1024) house ≡ long_history
  pub longest : history_length (table_one 400 1146880 1024) ≡ 32768
  pub longest_new : setting_refusal limits02 (table_one 400 1146880 1024) house ≡ none
  pub longest_old : setting_refusal limits01 (table_one 400 1146880 1024) house ≡ long_history
  pub longer : setting_refusal limits02 (table_one 400 1146881 1024) house ≡ long_history
  pub greatest : setting_refusal limits02 (greatest_n (2 ^ 20)) house ≡ none
  pub greatest_old : setting_refusal limits01 (greatest_n (2 ^ 20)) house ≡ out_of_range
  pub greater : setting_refusal limits02 (greatest_n (2 ^ 20 + 1)) house ≡ out_of_range

-- ---- the change-over

-- Its refusals, for any contents: "every refusal about the setting, 1 and 4 at the old limits, and 6 and 7", in their order, and no other.
pub record Refuses (s : Setting) (seeds : List ℕ) (old : State) (new : List ℕ) : Type 0 where
  pub setting : setting_refusal limits01 s seeds ≢ none → change_over_refusal s seeds old new ≡ setting_refusal limits01 s seeds
  pub old_short : setting_refusal limits01 s seeds ≡ none → T (too_short s old) → change_over_refusal s seeds old new ≡ short_buffer
  pub new_short : setting_refusal limits01 s seeds ≡ none → length new < counters_used s → change_over_refusal s seeds old new ≡ short_buffer
  pub memory : setting_refusal limits01 s seeds ≡ none → Long s old → counters_used s ≤ length new → (T (memory_ok s old) → ⊥)
      → change_over_refusal s seeds old new ≡ bad_memory
  pub taken : setting_refusal limits01 s seeds ≡ none → Long s old → counters_used s ≤ length new → T (memory_ok s old)
      → change_over_refusal s seeds old new ≡ none

-- What it leaves, for any contents: refused, its number and the new counters as they were; else 0, and in the used part the old counters. Length
-- and rest of the new counters are as they were in either case.
pub record Leaves (s : Setting) (seeds : List ℕ) (old : State) (new : List ℕ) : Type 0 where
  pub code : (change_over s seeds old new).code ≡ refusal_number (change_over_refusal s seeds old new)
  pub refused : (change_over s seeds old new).code ≢ 0 → (change_over s seeds old new).counters ≡ new
  pub used : (change_over s seeds old new).code ≡ 0
      → (i : ℕ) → i < counters_used s → get_or (change_over s seeds old new).counters i 0 ≡ get_or old.counters i 0
  pub rest : SameFrom (counters_used s) new (change_over s seeds old new).counters

-- Counters of 16 bits and new ones of 32 bits give counters of 32 bits.
abbrev pub FitsOver : Type 0
FitsOver =
    (s : Setting) (seeds : List ℕ) (old : State) (new : List ℕ) → Fits 16 old.counters → Fits 32 new → Fits 32 (change_over s seeds old new).counters

-- A state that an old-width set-up and any list of old-width calls left is taken over into every buffer that is long enough.
abbrev pub TakenInList : Type 0
TakenInList =
    (s : Setting) (seeds : List ℕ) (before : State) → setup_refusal limits01 s seeds before ≡ none
    → (cs : List Call) (new : List ℕ) → counters_used s ≤ length new
    → change_over_refusal s seeds (after narrow s seeds (fresh s before) cs) new ≡ none

-- ---- answers as before

-- The state b of new-width calls after the change-over, beside the state a of the same old-width calls without it: equal heads, history and thread
-- counters, whole buffers, and equal used counters; the rest of the new counters is as it was.
pub record SameLeft (s : Setting) (new : List ℕ) (a b : State) : Type 0 where
  pub head : b.head ≡ a.head
  pub ticks : b.ticks ≡ a.ticks
  pub rows : b.rows ≡ a.rows
  pub threads : b.threads ≡ a.threads
  pub counters : (i : ℕ) → i < counters_used s → get_or b.counters i 0 ≡ get_or a.counters i 0
  pub rest : SameFrom (counters_used s) new b.counters

-- "after the change-over it answers every later call under the change-over's setting as it would have before": of every state that the change-over
-- does not refuse, whether calls can leave it or not, and every list of calls, the replies are equal and what they leave is the same ..
abbrev pub AnswersAsBefore : Type 0
AnswersAsBefore =
    (s : Setting) (seeds : List ℕ) (old : State) (new : List ℕ) → change_over_refusal s seeds old new ≡ none → (cs : List Call)
    → let taken = changed_state s seeds old new in
    (replies wide s seeds taken cs ≡ replies narrow s seeds old cs) × SameLeft s new (after narrow s seeds old cs) (after wide s seeds taken cs)

-- .. and so of set-up, which is a call too, after every such list: neither width refuses it, and what it leaves is the same.
abbrev pub SetUpAsBefore : Type 0
SetUpAsBefore =
    (s : Setting) (seeds : List ℕ) (old : State) (new : List ℕ) → change_over_refusal s seeds old new ≡ none
    → (cs : List Call)
    → let a = setup limits01 s seeds (after narrow s seeds old cs) in
    let b = setup limits02 s seeds (after wide s seeds (changed_state s seeds old new) cs) in
    (a.reply ≡ finished) × (b.reply ≡ finished) × SameLeft s new a.state b.state

-- ---- demand 3 and spans of every length

-- "In a list as in demand 3 only old-width calls precede it": the activations of old-width calls from st on, and of new-width calls after the
-- change-over of the state that these leave. It is one list: a span may begin before the change-over and end after it. Setting and seeds are the
-- same for all of it.
abbrev pub activations_over : Setting → List ℕ → State → List Call → List ℕ → List Call → List Activation
activations_over s seeds st earlier new later =
    activations earlier (replies narrow s seeds st earlier)
    ++ activations later (replies wide s seeds (changed_state s seeds (after narrow s seeds st earlier) new) later)

-- A row's activations in x successive ticks, for every list with a change-over that is not refused, after an old-width set-up that is not refused ..
abbrev pub SpansOver : Type 0
SpansOver =
    (s : Setting) (seeds : List ℕ) (before : State) → setup_refusal limits01 s seeds before ≡ none
    → (earlier : List Call) (new : List ℕ) → change_over_refusal s seeds (after narrow s seeds (fresh s before) earlier) new ≡ none
    → (later : List Call) (bank row start x : ℕ) → 1 ≤ x
    → times_activated bank row start x (activations_over s seeds (fresh s before) earlier new later) ≤ span_bound s x

-- .. and demand 3.
abbrev pub Demand3Over : Type 0
Demand3Over =
    (s : Setting) (seeds : List ℕ) (before : State) → setup_refusal limits01 s seeds before ≡ none
    → (earlier : List Call) (new : List ℕ) → change_over_refusal s seeds (after narrow s seeds (fresh s before) earlier) new ≡ none
    → (later : List Call) (bank row start : ℕ)
    → times_activated bank row start s.w (activations_over s seeds (fresh s before) earlier new later) ≤ s.l

-- ---- what memory is never refused

-- No call of such a list is refused with 6 or 7: of those before the change-over `NeverMemory` of the rules says it, this of those after it.
abbrev pub NeverMemoryOver : Type 0
NeverMemoryOver =
    (s : Setting) (seeds : List ℕ) (before : State) → setup_refusal limits01 s seeds before ≡ none
    → (earlier : List Call) (new : List ℕ) → change_over_refusal s seeds (after narrow s seeds (fresh s before) earlier) new ≡ none
    → (later : List Call) → let taken = changed_state s seeds (after narrow s seeds (fresh s before) earlier) new in
    All (λ r. (r ≢ refused short_buffer) × (r ≢ refused bad_memory)) (replies wide s seeds taken later)

-- ---- all of it

pub record Theorems : Type 0 where
  pub two_limits : (s : Setting) (seeds : List ℕ) → TwoLimits s seeds
  pub old_accepted : OldAccepted
  pub new_settings : NewSettings
  pub refuses : (s : Setting) (seeds : List ℕ) (old : State) (new : List ℕ) → Refuses s seeds old new
  pub leaves : (s : Setting) (seeds : List ℕ) (old : State) (new : List ℕ) → Leaves s seeds old new
  pub fits_over : FitsOver
  pub taken_in_list : TakenInList
  pub answers_as_before : AnswersAsBefore
  pub set_up_as_before : SetUpAsBefore
  -- lists after a new-width set-up, and lists with a change-over
  pub spans_wide : Spans wide
  pub demand3_wide : Demand3 wide
  pub spans_over : SpansOver
  pub demand3_over : Demand3Over
  pub never_memory_over : NeverMemoryOver
