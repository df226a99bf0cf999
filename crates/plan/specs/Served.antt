-- The limits that the code serves.
use Rattle.std.specs.Prelude.{◌^◌, ◌≤◌}
use Rattle.rules.specs.declared.Limits.{Limits}

-- the greatest N and the greatest H of any width: the sums and products of the code stay within their words
abbrev pub Served : Limits → Type 0
Served m = (m.threshold ≤ 2 ^ 20) × (m.history ≤ 32768)
