-- Laws over plain numbers: the size of products, and the row bound without a division.
use mathlib.Core.Path.{◌≡◌}
use mathlib.Core.Bool.{true}
use Prim.Native.Nat.{ℕ, ◌+◌, ◌-◌, ◌*◌, ◌/◌, ◌^◌, ◌≤◌, ◌<◌}
use native.Mathlib.Omega.{arith}
use native.Mathlib.Nat.{mul-le-mul, le-div_iff_mul-le}
use lib.Dec.{leb, ltb, leb→le, le→leb, ltb→lt, lt→ltb}
use borrow.Author.Tests.{lt-ltb}
use Rattle.rules.specs.declared.Setting.{Setting}
use Rattle.rules.specs.Setting.{row_bound}
use Rattle.rules.proofs.Tests.{same_test}

-- ---- products

-- the product of refusal 2 is small
pub gaps_small : (n trc : ℕ) → n ≤ 2 ^ 20 → trc ≤ 65535 → 2 * n * trc ≤ 2097152 * 65535
gaps_small n trc hn ht = mul-le-mul {n₂ = 2097152} {m₂ = 65535} (omega arith) ht

-- ---- the row bound without a division

-- the product of refusal 5 is small
pub span_small : (m td : ℕ) → m ≤ 2 ^ 24 → td ≤ 2 ^ 29 → m * td ≤ 16777216 * 536870912
span_small m td hm ht = mul-le-mul {n₂ = 16777216} {m₂ = 536870912} hm ht

-- L is not above the activations without a delay
pub bound_above : (s : Setting) → s.l ≤ 2 * s.n → ltb s.l (row_bound s) ≡ true
unfolding row_bound
bound_above s h = lt-ltb s.l (row_bound s) (omega arith)

bound_test : (free l rest td : ℕ) → 1 ≤ td → free < l → leb ((l - free) * td) rest ≡ ltb l (free + 1 + rest / td)
bound_test free l rest td ht hl =
    let iff = le-div_iff_mul-le {k = td} {x = l - free} {y = rest} ht in
    same_test (leb ((l - free) * td) rest) (ltb l (free + 1 + rest / td))
    (λ t.
    let q : l - free ≤ rest / td = iff.1 (leb→le ((l - free) * td) rest t) in
    lt→ltb l (free + 1 + rest / td) (omega arith))
    (λ t.
    let b : l < free + 1 + rest / td = ltb→lt l (free + 1 + rest / td) t in
    le→leb ((l - free) * td) rest (iff.0 (omega arith)))

-- L is above them
pub bound_product : (s : Setting) → 1 ≤ s.td → 2 * s.n < s.l
    → leb ((s.l - 2 * s.n) * s.td) (s.w - 1 - 2 * s.n * s.trc) ≡ ltb s.l (row_bound s)
unfolding row_bound
bound_product s ht hl = bound_test (2 * s.n) s.l (s.w - 1 - 2 * s.n * s.trc) s.td ht hl
