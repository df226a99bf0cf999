-- The planner's answer about a span of x successive ticks.
use Rattle.std.specs.Prelude.{ℕ, ◌-◌, ◌*◌, ◌^◌, ◌≤◌, eqb, Result, Ok}
use Rattle.std.specs.Result.{result_and}
use Rattle.rules.specs.declared.Setting.{Setting}
use Rattle.rules.specs.Answers.{Refusal, out_of_range, refuse}
use Rattle.rules.specs.Setting.{setting_refusal}
use Rattle.rules.specs.Policy.{limits02}
use Rattle.rules.specs.Claims.{span_bound}
use Rattle.refused.specs.declared.Refusal as refused
use Rattle.refused.specs.Passed.{passed}
use Rattle.plan_rules.specs.delays.Delays.{some_seeds}

-- "for a span of X successive ticks, X at least 1": 1 where X is 0, which is the first refusal; else the setting's, at the limits of the calls with
-- 32-bit counters. The seeds play no part (`SeedsPlayNoPart`).
unfoldable pub span_refusal : Setting → ℕ → Refusal
span_refusal s x = refuse (eqb x 0) out_of_range (setting_refusal limits02 s some_seeds)

-- the refusal where there is one, else the bound: no row is activated more often than so many times
unfoldable pub span_of : Setting → ℕ → Result ℕ refused.Refusal
span_of s x = result_and (passed (span_refusal s x)) (Ok (span_bound s x))

-- what the code uses of an accepted setting: the sums and products stay within 64 bits for every x that 64 bits hold
pub record Room (s : Setting) : Type 0 where
  pub low : 2 ≤ s.w
  pub high : s.w ≤ 2 ^ 30
  pub apart : 1 ≤ s.trc
  pub gaps : s.trc ≤ s.td
  pub bursts : 2 * s.n * s.trc ≤ s.w - 1
