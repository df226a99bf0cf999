-- What a setting, a memory and a call that meet no refusal can count on, as facts: the words of the contracts above the rules.
use Rattle.std.specs.Prelude.{◌≡◌, List, ℕ, ◌+◌, ◌*◌, ◌-◌, ◌%◌, ◌^◌, ◌≤◌, ◌<◌, T, length, get_or}
use Rattle.head.specs.declared.Head.{Head}
use Rattle.rules.specs.declared.Setting.{Setting}
use Rattle.rules.specs.declared.Limits.{Limits}
use Rattle.rules.specs.Setting.{epoch_length, history_length, row_bound, known, profile_of, seeds_in_range}
use Rattle.rules.specs.State.{State, counters_used, threads_used}
use Rattle.rules.specs.History.{never_rises, memory_ok}

-- ---- the setting

-- the fields of the setting are in the ranges of the table
pub record Ranges (m : Limits) (s : Setting) : Type 0 where
  pub w_low : 2 ≤ s.w
  pub w_high : s.w ≤ 2 ^ 30
  pub even : s.w % 2 ≡ 0
  pub trc_low : 1 ≤ s.trc
  pub trc_high : s.trc ≤ 65535
  pub tfaw_low : 1 ≤ s.tfaw
  pub tfaw_high : s.tfaw ≤ 65535
  pub n_low : 1 ≤ s.n
  pub n_high : s.n ≤ m.threshold
  pub td_low : 1 ≤ s.td
  pub td_high : s.td ≤ 2 ^ 29
  pub l_low : 1 ≤ s.l
  pub l_high : s.l ≤ 2 ^ 24
  pub q_low : 1 ≤ s.q
  pub q_high : s.q ≤ 255
  pub banks_low : 1 ≤ s.banks
  pub banks_high : s.banks ≤ 16
  pub threads_low : 1 ≤ s.threads
  pub threads_high : s.threads ≤ 32
  pub mark : T (known s.profile)

-- "An accepted setting is one that meets none of the refusals about the setting"
pub record Accepted (m : Limits) (s : Setting) (seeds : List ℕ) : Type 0 where
  pub ranges : Ranges m s
  pub seeds_ok : T (seeds_in_range seeds)
  pub room : 2 * s.n * s.trc ≤ s.w - 1
  pub gaps : s.trc ≤ s.td
  pub delay : s.td ≤ epoch_length s
  pub short : history_length s ≤ m.history
  pub bound : row_bound s ≤ s.l
  pub banks_own : s.banks ≤ (profile_of s.profile).banks
  pub history_own : history_length s ≤ (profile_of s.profile).history

-- ---- the memory

-- 6 does not apply
pub record Long (s : Setting) (st : State) : Type 0 where
  pub counters : counters_used s ≤ length st.counters
  pub ticks : history_length s ≤ length st.ticks
  pub rows : history_length s ≤ length st.rows
  pub threads : threads_used s ≤ length st.threads

-- 7 does not apply
pub record Memory (s : Setting) (d : Head) (ticks : List ℕ) : Type 0 where
  pub in_ring : d.next < history_length s
  pub bank : (b : ℕ) → b < s.banks → get_or d.bank b 0 ≤ d.last + 1
  pub rank : (k : ℕ) → k < 4 → get_or d.rank k 0 ≤ d.last + 1
  pub history : (p : ℕ) → p < history_length s → get_or ticks p 0 ≤ d.last + 1
  pub steady : T (never_rises (history_length s) d.next ticks)

-- neither does
pub record Sound (s : Setting) (st : State) : Type 0 where
  pub long : Long s st
  pub ok : Memory s st.head st.ticks

-- ---- calls

-- set-up that is not refused
pub record SetUp (m : Limits) (s : Setting) (seeds : List ℕ) (before : State) : Type 0 where
  pub setting : Accepted m s seeds
  pub long : Long s before

-- a request, a done or an index reading that is not refused with 1 to 9 or 16
pub record Taken (m : Limits) (s : Setting) (seeds : List ℕ) (found : State) (t bank thread : ℕ) : Type 0 where
  pub setting : Accepted m s seeds
  pub long : Long s found
  pub memory : T (memory_ok s found)
  pub bank_in : bank < s.banks
  pub thread_in : thread < s.threads
  pub later : found.head.last ≤ t
  pub early : t < 2 ^ 62
