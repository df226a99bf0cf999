-- What is proved about the rules beside demand 3, the wait tick and the quota, of calls and of what they leave: the statements, as types. Their proofs are in
-- proofs/.
use Rattle.std.specs.Prelude.{◌≡◌, ◌≢◌, List, [], ℕ, ◌+◌, ◌-◌, ◌^◌, ◌≤◌, ◌<◌, T, length, get_or}
use Rattle.rules.specs.declared.Setting.{Setting}
use Rattle.rules.specs.declared.Limits.{Limits}
use Rattle.rules.specs.declared.Cause.{Cause}
use Rattle.rules.specs.declared.Cause.TheVariants.{Row}
use Rattle.rules.specs.declared.Answer.TheVariants.{Opened, Wait}
use Rattle.rules.specs.Cells.{All}
use Rattle.rules.specs.Answers.{none}
use Rattle.rules.specs.Setting.{history_length, setting_refusal}
use Rattle.rules.specs.State.{State, counters_used, threads_used, thread_cell, fresh, head_words}
use Rattle.rules.specs.Clock.{turned}
use Rattle.rules.specs.Policy.{Policy, in_force}
use Rattle.rules.specs.Tested.{Accepted, Long}
use Rattle.rules.specs.Decision.{quota_rule, active_estimate}
use Rattle.rules.specs.Calls.{Call, request, done, index, answered, setup, setup_refusal, requested, step, replies, after, activations}
use Rattle.rules.specs.Claims.{UsedFlying}

-- ---- the clock

-- Turning the clock in two steps equals turning it in one.
abbrev pub TurnsAdd : Limits → Type 0
TurnsAdd m =
    (s : Setting) (seeds : List ℕ) → setting_refusal m s seeds ≡ none
    → (st : State) (t u : ℕ) → st.head.last ≤ t → t ≤ u → turned s (turned s st t) u ≡ turned s st u

-- ---- the wait tick

-- A wait tick is later than its request's tick.
abbrev pub WaitIsLater : Policy → Type 0
WaitIsLater p =
    (s : Setting) (seeds : List ℕ) (st : State) (t bank thread row : ℕ) (c : Cause) (u : ℕ)
    → (step p s seeds st (request t bank thread row)).reply ≡ answered (Wait c u) → t < u

-- A request at the wait tick is opened if no activation came between and the quota allows it: other calls may have come.
abbrev pub OpenedAtWait : Policy → Type 0
OpenedAtWait p =
    (s : Setting) (seeds : List ℕ) (st : State) (t bank thread row : ℕ) (c : Cause) (u : ℕ)
    → (step p s seeds st (request t bank thread row)).reply ≡ answered (Wait c u) → u < 2 ^ 62
    → (cs : List Call) → let left = (step p s seeds st (request t bank thread row)).state in
    activations cs (replies p s seeds left cs) ≡ []
    → (after p s seeds left cs).head.last ≤ u → T (quota_rule p s (turned s (after p s seeds left cs) u) bank thread)
    → (n : ℕ) × ((step p s seeds (after p s seeds left cs) (request u bank thread row)).reply ≡ answered (Opened n))

-- ---- what is never held

-- A row whose estimate is below the threshold is never answered `Wait Row`: `BelowThreshold` of the rules says that the row rule never holds it.
abbrev pub NeverWaitRow : Policy → Type 0
NeverWaitRow p =
    (s : Setting) (at : ℕ → List ℕ) (st : State) (bank thread row u : ℕ) → active_estimate s at st bank < s.n
    → (requested p s at st bank thread row).reply ≢ answered (Wait Row u)

-- What the claims about every policy ask of its quota and of what in flight means to it: a quota of at most 255, and of 1 or more while
-- the index counter is 0, under a setting that its limits accept; none in flight where the thread counters are 0, and never fewer than the
-- named bank's own count.
pub record Regular (p : Policy) : Type 0 where
  pub quota_most : (s : Setting) (seeds : List ℕ) → Accepted p.limits s seeds → (c : ℕ) → p.quota s c ≤ 255
  pub quota_first : (s : Setting) (seeds : List ℕ) → Accepted p.limits s seeds → 1 ≤ p.quota s 0
  pub none_flying : (s : Setting) (threads : List ℕ) (bank thread : ℕ) → bank < s.banks → thread < s.threads
      → ((i : ℕ) → i < threads_used s → get_or threads i 0 ≡ 0) → p.in_flight s threads bank thread ≡ 0
  pub own_flying : (s : Setting) (threads : List ℕ) (bank thread : ℕ) → bank < s.banks → thread < s.threads
      → get_or threads (thread_cell s bank thread 2) 0 ≤ p.in_flight s threads bank thread

-- A first request after set-up, with bank and thread of the setting and a tick below 2^62, is opened, with N − 1 openings left.
abbrev pub FirstOpened : Policy → Type 0
FirstOpened p =
    (s : Setting) (seeds : List ℕ) (before : State) → setup_refusal p.limits s seeds before ≡ none
    → (t bank thread row : ℕ) → t < 2 ^ 62 → bank < s.banks → thread < s.threads
    → (step p s seeds (fresh s before) (request t bank thread row)).reply ≡ answered (Opened (s.n - 1))

-- ---- the used parts of longer buffers

-- equal heads, and equal used parts of the four buffers
pub record SameUsed (s : Setting) (a b : State) : Type 0 where
  pub long : Long s a
  pub long_too : Long s b
  pub head : b.head ≡ a.head
  pub counters : (i : ℕ) → i < counters_used s → get_or b.counters i 0 ≡ get_or a.counters i 0
  pub ticks : (i : ℕ) → i < history_length s → get_or b.ticks i 0 ≡ get_or a.ticks i 0
  pub rows : (i : ℕ) → i < history_length s → get_or b.rows i 0 ≡ get_or a.rows i 0
  pub threads : (i : ℕ) → i < threads_used s → get_or b.threads i 0 ≡ get_or a.threads i 0

-- a list that has the length of another, and its cells from place n on
abbrev pub SameFrom : ℕ → List ℕ → List ℕ → Type 0
SameFrom n old new = (length new ≡ length old) × ((i : ℕ) → n ≤ i → get_or new i 0 ≡ get_or old i 0)

-- "A buffer may be longer; its rest is never touched."
pub record SameRest (s : Setting) (a b : State) : Type 0 where
  pub counters : SameFrom (counters_used s) a.counters b.counters
  pub ticks : SameFrom (history_length s) a.ticks b.ticks
  pub rows : SameFrom (history_length s) a.rows b.rows
  pub threads : SameFrom (threads_used s) a.threads b.threads

-- No call changes a buffer's length or a cell past its used part, on any state; nor does set-up.
pub record RestKept (p : Policy) : Type 0 where
  pub call : (s : Setting) (seeds : List ℕ) (st : State) (c : Call) → SameRest s st (step p s seeds st c).state
  pub setup : (s : Setting) (seeds : List ℕ) (st : State) → SameRest s st (setup p.limits s seeds st).state

-- the policy with other limits
abbrev pub with_limits : Policy → Limits → Policy
with_limits p m = record { limits = m; quota = p.quota; in_flight = p.in_flight }

-- Two states with equal heads and equal used parts, under policies that differ only in limits and both accept the setting, give equal replies to
-- every list of calls, and leave equal heads and equal used parts again.
abbrev pub SameReplies : Policy → Type 0
SameReplies p =
    (m : Limits) (s : Setting) (seeds : List ℕ) → setting_refusal p.limits s seeds ≡ none → setting_refusal m s seeds ≡ none
    → (a b : State) → SameUsed s a b → (cs : List Call)
    → (replies (with_limits p m) s seeds b cs ≡ replies p s seeds a cs)
    × SameUsed s (after p s seeds a cs) (after (with_limits p m) s seeds b cs)

-- ---- widths

-- every cell is below 2^w
abbrev pub Fits : ℕ → List ℕ → Type 0
Fits w cs = All (λ c. c < 2 ^ w) cs

-- counters of w bits, 64-bit ticks, 32-bit rows and thread counters, a head of 64-bit words
pub record Stored (w : ℕ) (st : State) : Type 0 where
  pub head : Fits 64 (head_words st.head)
  pub counters : Fits w st.counters
  pub ticks : Fits 64 st.ticks
  pub rows : Fits 32 st.rows
  pub threads : Fits 32 st.threads

-- rows are given as 16-bit numbers
abbrev pub RowFits : Call → Type 0
RowFits (request t b th r) = r < 65536
RowFits (done t b th) = Unit {0}
RowFits (index t b th) = Unit {0}

-- Stored cells stay within their widths, for counters of any width w with N below 2^w: after a call on any contents ..
abbrev pub StepFits : Policy → Type 0
StepFits p =
    (w : ℕ) (s : Setting) (seeds : List ℕ) (st : State) (c : Call) → s.n < 2 ^ w → Stored w st → RowFits c
    → Stored w (step p s seeds st c).state

-- .. and after any list of calls.
abbrev pub RunFits : Policy → Type 0
RunFits p =
    (w : ℕ) (s : Setting) (seeds : List ℕ) (before : State) (cs : List Call) → s.n < 2 ^ w → Stored w before → All RowFits cs
    → Stored w (after p s seeds (fresh s before) cs)

-- ---- all of it

pub record Theorems : Type 0 where
  pub turns_add : (m : Limits) → TurnsAdd m
  pub wait_is_later : (p : Policy) → WaitIsLater p
  pub opened_at_wait : (p : Policy) → OpenedAtWait p
  pub never_wait_row : (p : Policy) → NeverWaitRow p
  pub rest_kept : (p : Policy) → RestKept p
  pub same_replies : (p : Policy) → UsedFlying p → SameReplies p
  pub first_opened : (p : Policy) → Regular p → FirstOpened p
  pub step_fits : (p : Policy) → Regular p → StepFits p
  pub run_fits : (p : Policy) → Regular p → RunFits p
  pub in_force_regular : (m : Limits) → Regular (in_force m)
