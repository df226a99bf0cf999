-- What the result of a test says about the whole of which it is a part.
use Rattle.std.proofs.Common.{◌≡◌, Bool, true, false, T, sym, ◌∙◌, T_not}
use lib.Dec.{not_T}
use Rattle.rules.proofs.Tests.{is_false, holds, fails}

-- a test that does not hold, as an equation
pub rejected : (b : Bool) → (T b → ⊥) → false ≡ b
rejected b h = sym (is_false b (not_T b h))

-- a test whose part a, computed as r, does not hold
pub rejected_by : (r a b : Bool) → r ≡ a → r ≡ false → (T b → T a) → false ≡ b
rejected_by r a b e n f = rejected b (λ t. T_not a (fails a (sym e ∙ n)) (f t))

-- a test that was computed as r and holds
pub passed : (r a : Bool) → r ≡ a → r ≡ true → T a
passed r a e n = holds a (sym e ∙ n)
