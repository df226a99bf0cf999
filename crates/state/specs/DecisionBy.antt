-- The decision on a request from the estimates of its row.
use Rattle.std.specs.Prelude.{List, ℕ}
use Rattle.head.specs.declared.Head.{Head}
use Rattle.rules.specs.declared.Setting.{Setting}
use Rattle.rules.specs.declared.Decision.{Decision}
use Rattle.rules.specs.Policy.{narrow}
use Rattle.decision.specs.Numbers.{decide_from, view_of}

-- The decision at the last tick on a row with these estimates in the active and in the other filter. The limits of a width play no part in it, so
-- `narrow` stands for the rules in force at every width.
unfoldable pub decision_by : Setting → ℕ → ℕ → Head → List ℕ → List ℕ → List ℕ → ℕ → ℕ → ℕ → Decision
decision_by s active other h ticks rows threads bank thread row =
    decide_from s h.last (view_of narrow s active other h ticks rows threads bank thread row)
