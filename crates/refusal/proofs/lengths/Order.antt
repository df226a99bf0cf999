-- The order of two refusals.
use Rattle.std.proofs.Common.{◌≡◌, ◌≢◌, eq-eqb, ne_eqb}
use Rattle.rules.specs.Answers.{Refusal, refusal_number, or_else}

-- the first refusal is given where there is one
pub or_else_first : (a b : Refusal) → refusal_number a ≢ 0 → or_else a b ≡ a
or_else_first a b h = rw (ne_eqb (refusal_number a) 0 h)

-- and else the second
pub or_else_second : (a b : Refusal) → refusal_number a ≡ 0 → or_else a b ≡ b
or_else_second a b h = rw (eq-eqb (refusal_number a) 0 h)
