-- The last threshold with a delay, and what the exported calls leave.
use Rattle.std.specs.Prelude.{◌≡◌, List, [], ◌∷◌, Bool, true, false, ℕ, ◌≤◌, ◌<◌, Result, Ok, Err, is_ok, cond, eqb}
use Rattle.rules.specs.declared.Setting.{Setting}
use Rattle.rules.specs.declared.Limits.{Limits}
use Rattle.rules.specs.Answers as rules
use Rattle.rules.specs.Answers.{refusal_number}
use Rattle.refused.specs.declared.Refusal.{Refusal}
use Rattle.refused.specs.declared.Refusal.TheVariants.{OutOfRange, ShortWindow}
use Rattle.refused.specs.Numbers.{number_of}
use Rattle.plan_rules.specs.delays.Delays.{Plan, with_threshold}
use Rattle.plan_rules.specs.delays.Answer.{delays_of}

-- ---- the last threshold

-- some delay is accepted
unfoldable pub has_delay : Limits → Setting → Bool
has_delay m s = is_ok (delays_of m s)

-- n is the last threshold of the table's range with a delay, or 0 where none has one
pub record Last (m : Limits) (s : Setting) (n : ℕ) : Type 0 where
  pub within : n ≤ m.threshold
  pub has : 1 ≤ n → has_delay m (with_threshold s n) ≡ true
  pub none_after : (more : ℕ) → n < more → more ≤ m.threshold → has_delay m (with_threshold s more) ≡ false

-- ---- the refusals that do not depend on the delay

-- 1 and 2, by their numbers
abbrev pub early : rules.Refusal → Result (Unit {0}) Refusal
early r = cond (eqb (refusal_number r) 1) (Err OutOfRange) (cond (eqb (refusal_number r) 2) (Err ShortWindow) (Ok tt))

-- ---- what an exported call leaves

-- the number that it returns, and the words of out
pub record Left : Type 0 where
  pub code : ℕ
  pub out : List ℕ

abbrev pub left : ℕ → List ℕ → Left
left n o = record { code = n; out = o }

-- 0 with the two ends, or the refusal's number with the words as they were
abbrev pub leaves : Plan → List ℕ → Left
leaves (Ok delays) before = left 0 (delays.least ∷ delays.greatest ∷ [])
leaves (Err why) before = left (number_of why) before

-- 0 with the bound, or the refusal's number with the word as it was
abbrev pub leaves_span : Result ℕ Refusal → List ℕ → Left
leaves_span (Ok times) before = left 0 (times ∷ [])
leaves_span (Err why) before = left (number_of why) before
