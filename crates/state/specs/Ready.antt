-- What the functions below the exported calls may count on: an accepted setting, and a state on which a call is not refused, with its clock at
-- the call's tick. None of them looks at the filters.
use Rattle.std.specs.Prelude.{ℕ, ◌^◌, ◌≤◌, ◌<◌, List, length}
use Rattle.head.specs.declared.Head.{Head}
use Rattle.rules.specs.declared.Setting.{Setting}
use Rattle.rules.specs.declared.Limits.{Limits}
use Rattle.rules.specs.Setting.{epoch_length, history_length}
use Rattle.rules.specs.State.{threads_used}
use Rattle.rules.specs.Policy.{limits02}
use Rattle.rules.specs.Tested.{Ranges, Memory}

-- the limits of a width are within those of the widest counters
pub record WithinWidest (m : Limits) : Type 0 where
  pub threshold : m.threshold ≤ limits02.threshold
  pub history : m.history ≤ limits02.history

-- what the arithmetic of the calls needs of an accepted setting: it is proved for the limits of the widest counters
pub record Bounds (s : Setting) : Type 0 where
  pub ranges : Ranges limits02 s
  pub epoch : 2 ≤ epoch_length s
  pub delay : s.td ≤ epoch_length s
  pub scale : s.n < s.l
  pub history : history_length s ≤ limits02.history

pub record Ready (s : Setting) (h : Head) (ticks rows threads : List ℕ) (bank thread : ℕ) : Type 0 where
  pub bounds : Bounds s
  pub ticks_long : history_length s ≤ length ticks
  pub rows_long : history_length s ≤ length rows
  pub threads_long : threads_used s ≤ length threads
  pub memory : Memory s h ticks
  pub bank_in : bank < s.banks
  pub thread_in : thread < s.threads
  pub early : h.last < 2 ^ 62
