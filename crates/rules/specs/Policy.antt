-- The policy: the parts of the rules that document 02 exchanges, document 01's own, and the rules in force.
use Rattle.std.specs.Prelude.{List, ℕ, ◌^◌}
use Rattle.rules.specs.declared.Setting.{Setting}
use Rattle.rules.specs.declared.Limits.{Limits}
use Rattle.rules.specs.Quota.{quota_down, quota_even, in_flight_here, in_flight_total}

-- The limits of the setting, the quota from the index counter in test, and what in flight means, from the thread counters, for a bank
-- and a thread.
pub record Policy : Type 0 where
  pub limits : Limits
  pub quota : Setting → ℕ → ℕ
  pub in_flight : Setting → List ℕ → ℕ → ℕ → ℕ

-- "N 1 to 32,768", "4 H above 4,096": the limits of the calls with 16-bit counters
abbrev pub limits01 : Limits
limits01 = record { threshold = 32768; history = 4096 }

-- "The history may reach 32,768 places, N may reach 2^20" (document 02, a): the limits of the calls with 32-bit counters
abbrev pub limits02 : Limits
limits02 = record { threshold = 2 ^ 20; history = 32768 }

-- document 01's own rules: of its table of cases, and of logs written before a rule changed
abbrev pub document01 : Policy
document01 = record { limits = limits01; quota = quota_down; in_flight = in_flight_here }

-- The rules in force, for the limits of a width. A request of document 02 that changes a rule changes it here; so far d, the
-- rounding of the quota, and b, the thread's total in flight.
abbrev pub in_force : Limits → Policy
in_force m = record { limits = m; quota = quota_even; in_flight = in_flight_total }

-- the rules in force at the width of document 01, with 16-bit counters: those of its four calls and of the log checker
abbrev pub narrow : Policy
narrow = in_force limits01

-- the rules in force at the width of document 02, a, with 32-bit counters
abbrev pub wide : Policy
wide = in_force limits02
