-- A row whose estimate is below the threshold is never held by the row rule.
use mathlib.Core.Bool.{not}
use Prim.Native.Nat.{ℕ, ◌<◌}
use lib.Dec.{T, leb, leb→le, not_T}
use native.Mathlib.Omega.{arith}
use Rattle.rules.specs.Setting.{history_length}
use Rattle.rules.specs.State.{row_word}
use Rattle.rules.specs.Filter.{blacklisted}
use Rattle.rules.specs.History.{row_free}
use Rattle.rules.specs.Decision.{active_estimate}
use Rattle.rules.specs.Claims.{BelowThreshold}
use Rattle.rules.proofs.Tests.{or_l}

pub not_black : (n est : ℕ) → est < n → T (not (blacklisted n est))
not_black n est h = not_T (leb n est) (λ q. omega (arith, leb→le n est q))

pub below_threshold : BelowThreshold
below_threshold s at st bank row h =
    or_l (not (blacklisted s.n (active_estimate s at st bank))) (row_free (history_length s) s.td st.ticks st.rows (row_word bank row) st.head.last)
    (not_black s.n (active_estimate s at st bank) h)
