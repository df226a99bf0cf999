-- Memory in which every setting of these limits can be set up.
use Rattle.std.specs.Prelude.{List, ℕ, ◌≤◌, length}
use Rattle.rules.specs.declared.Limits.{Limits}

-- counters, ticks, rows and thread counters of any contents, as many as those of `memory` (crate log_format) or more
pub record Roomy (m : Limits) (cs ts rs hs : List ℕ) : Type 0 where
  pub counters : 32768 ≤ length cs
  pub ticks : m.history ≤ length ts
  pub rows : m.history ≤ length rs
  pub threads : 1536 ≤ length hs
