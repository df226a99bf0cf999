-- The two widths, and what a delay costs at each.
use Rattle.std.specs.Prelude.{Bool, true, false, ℕ, ◌+◌, ◌*◌, ◌≤◌}
use Rattle.rules.specs.declared.Setting.{Setting}
use Rattle.rules.specs.Setting.{history_length, row_bound}
use Rattle.rules.specs.State.{counters_used, threads_used}
use Rattle.rules.specs.Policy.{limits01, limits02}
use Rattle.plan.specs.Served.{Served}
use Rattle.std.proofs.Common.{lit≤}
use Rattle.plan.specs.declared.width.Width.{Width}
use Rattle.plan.specs.declared.costs.Cost.{Cost}

-- "The history may reach 32,768 places, N may reach 2^20, and filter counters become 32 bits wide" (document 02, a); or the limits of document 01, with
-- its counters of 16 bits
abbrev pub width_of : Bool → Width
width_of true = record { limits = limits02; counter = 4; served = ((lit≤ tt, lit≤ tt), lit≤ tt) }
width_of false = record { limits = limits01; counter = 2; served = ((lit≤ tt, lit≤ tt), lit≤ tt) }

-- the limits that the code serves, and the bytes of a counter
abbrev pub ServedWidth : Width → Type 0
ServedWidth w = Served w.limits × (w.counter ≤ 4)

-- H, B, and the bytes of the lent buffers: counters of so many bytes each, history ticks of 8 and rows of 4, thread counters of 4
unfoldable pub cost_of : ℕ → Setting → Cost
cost_of counter s =
    record {
      history = history_length s;
      bound = row_bound s;
      bytes = counter * counters_used s + 12 * history_length s + 4 * threads_used s;
    }
