-- Arithmetic of delays, over plain numbers: when B ≤ L, when H is within its limit, and how B and the least delay change with N.
use mathlib.Core.Path.{◌≡◌, refl, sym, subst}
use mathlib.Core.Bool.{Bool, true, false}
use Prim.Native.Nat.{ℕ, ◌+◌, ◌-◌, ◌*◌, ◌/◌, ◌≤◌, ◌<◌}
use native.Mathlib.Omega.{arith}
use native.Mathlib.Nat.{mul_comm, mul-add, add-mul, one-mul, mul-sub, mul-le-mul_left, mul-le-mul_right, div-lt_iff_lt-mul, le-div_iff_mul-le, div-mul-le_self, lt-div-mul-add}
use lib.Dec.{ltb}
use borrow.Author.Tests.{ltb-true, ltb-false}
use Rattle.rules.specs.Cells.{ceil_div}

-- ---- B ≤ L: free is 2N, rest is W - 1 - 2 × N × tRC

pub bound_met : (free l rest td : ℕ) → 1 ≤ td → free < l → rest / (l - free) < td → free + 1 + rest / td ≤ l
bound_met free l rest td ht hl h =
    let p : rest < td * (l - free) = (div-lt_iff_lt-mul {k = l - free} {x = rest} {y = td} (omega arith)).0 h in
    let q : rest / td < l - free = (div-lt_iff_lt-mul {k = td} {x = rest} {y = l - free} ht).1 (subst (λ x. rest < x) (mul_comm td (l - free)) p) in
    omega arith

pub bound_missed : (free l rest td : ℕ) → 1 ≤ td → free < l → td ≤ rest / (l - free) → l < free + 1 + rest / td
bound_missed free l rest td ht hl h =
    let p : td * (l - free) ≤ rest = (le-div_iff_mul-le {k = l - free} {x = td} {y = rest} (omega arith)).0 h in
    let q : l - free ≤ rest / td = (le-div_iff_mul-le {k = td} {x = l - free} {y = rest} ht).1 (subst (λ x. x ≤ rest) (mul_comm td (l - free)) p) in
    omega arith

pub bound_least : (free l rest td : ℕ) → 1 ≤ td → free + 1 + rest / td ≤ l → rest / (l - free) < td
bound_least free l rest td ht h = go (ltb (rest / (l - free)) td) refl
  where
    go : (b : Bool) → ltb (rest / (l - free)) td ≡ b → rest / (l - free) < td
    go true e = ltb-true (rest / (l - free)) td e
    go false e =
        let m : l < free + 1 + rest / td = bound_missed free l rest td ht (omega arith) (ltb-false (rest / (l - free)) td e) in
        absurd (omega arith)

-- ---- H within its limit

one_more : (q tfaw : ℕ) → (q + 1) * tfaw ≡ q * tfaw + tfaw
one_more q tfaw = rw (add-mul q 1 tfaw, one-mul tfaw)

pub history_short : (td tfaw limit : ℕ) → 1 ≤ tfaw → td ≤ limit / 4 * tfaw → 4 * ceil_div td tfaw ≤ limit
history_short td tfaw limit hf h =
    let e = one_more (limit / 4) tfaw in
    let p : ceil_div td tfaw < limit / 4 + 1 = (div-lt_iff_lt-mul {k = tfaw} {x = td + (tfaw - 1)} {y = limit / 4 + 1} hf).1 (omega arith) in
    omega arith

pub history_limit : (td tfaw limit : ℕ) → 1 ≤ tfaw → 4 * ceil_div td tfaw ≤ limit → td ≤ limit / 4 * tfaw
history_limit td tfaw limit hf h =
    let e = one_more (limit / 4) tfaw in
    let p : td + (tfaw - 1) < (limit / 4 + 1) * tfaw = (div-lt_iff_lt-mul {k = tfaw} {x = td + (tfaw - 1)} {y = limit / 4 + 1} hf).0 (omega arith) in
    omega arith

-- ---- B grows with N, where tRC ≤ tD

-- the ticks of the free activations of N + k are those of N and those of k
split : (n k trc : ℕ) → 2 * (n + k) * trc ≡ 2 * n * trc + 2 * k * trc
split n k trc = rw (mul-add 2 n k, add-mul (2 * n) (2 * k) trc)

bound_step : (n k trc td x : ℕ) → trc ≤ td → 1 ≤ td → 2 * (n + k) * trc ≤ x
    → 2 * n + 1 + (x - 2 * n * trc) / td ≤ 2 * (n + k) + 1 + (x - 2 * (n + k) * trc) / td
bound_step n k trc td x ht h1 room =
    let q = (x - 2 * (n + k) * trc) / td in
    let e = split n k trc in
    let last : x - 2 * (n + k) * trc < q * td + td = lt-div-mul-add {a = x - 2 * (n + k) * trc} {b = td} h1 in
    let gaps : 2 * k * trc ≤ 2 * k * td = mul-le-mul_left (2 * k) ht in
    let sum : (2 * k + q + 1) * td ≡ 2 * k * td + q * td + td = rw (add-mul (2 * k + q) 1 td, add-mul (2 * k) q td, one-mul td) in
    let p : (x - 2 * n * trc) / td < 2 * k + q + 1 = (div-lt_iff_lt-mul {k = td} {x = x - 2 * n * trc} {y = 2 * k + q + 1} h1).1 (omega arith) in
    omega arith

pub bound_grows : (n m trc td x : ℕ) → n ≤ m → trc ≤ td → 1 ≤ td → 2 * m * trc ≤ x
    → 2 * n + 1 + (x - 2 * n * trc) / td ≤ 2 * m + 1 + (x - 2 * m * trc) / td
bound_grows n m trc td x h ht h1 room =
    let e : n + (m - n) ≡ m = omega arith in
    subst (λ y. 2 * n + 1 + (x - 2 * n * trc) / td ≤ 2 * y + 1 + (x - 2 * y * trc) / td) e
    (bound_step n (m - n) trc td x ht h1 (subst (λ y. 2 * y * trc ≤ x) (sym e) room))

pub room_kept : (n m trc x : ℕ) → n ≤ m → 2 * m * trc ≤ x → 2 * n * trc ≤ x
room_kept n m trc x h room =
    let e : n + (m - n) ≡ m = omega arith in
    let r : 2 * (n + (m - n)) * trc ≤ x = subst (λ y. 2 * y * trc ≤ x) (sym e) room in
    omega (arith, split n (m - n) trc)

-- ---- the smallest delay beside tRC

-- trc × (l - free), with free = 2N
gap_span : (n l trc : ℕ) → 2 * n < l → trc * (l - 2 * n) ≡ trc * l - 2 * n * trc
gap_span n l trc h = rw (mul-sub trc l (2 * n), mul_comm trc (2 * n))

pub smallest_below : (n l trc x : ℕ) → 2 * n < l → 2 * n * trc ≤ x → x < trc * l → (x - 2 * n * trc) / (l - 2 * n) < trc
smallest_below n l trc x h room k =
    (div-lt_iff_lt-mul {k = l - 2 * n} {x = x - 2 * n * trc} {y = trc} (omega arith)).1 (omega (arith, gap_span n l trc h))

pub smallest_above : (n l trc x : ℕ) → 2 * n < l → trc * l ≤ x → trc ≤ (x - 2 * n * trc) / (l - 2 * n)
smallest_above n l trc x h k =
    (le-div_iff_mul-le {k = l - 2 * n} {x = trc} {y = x - 2 * n * trc} (omega arith)).1 (omega (arith, gap_span n l trc h))

-- ---- the epoch holds a gap, where two bursts fit in the window

pub epoch_holds : (n trc w : ℕ) → 1 ≤ n → 2 * n * trc ≤ w - 1 → trc ≤ w / 2
epoch_holds n trc w h room =
    let p : 2 * trc ≤ 2 * n * trc = mul-le-mul_right trc (mul-le-mul_left 2 h) in
    omega arith

-- ---- a longer delay: B does not grow, H does not shrink

pub quotient_falls : (x a b : ℕ) → 1 ≤ a → a ≤ b → x / b ≤ x / a
quotient_falls x a b h k =
    let p : x / b * a ≤ x / b * b = mul-le-mul_left (x / b) k in
    (le-div_iff_mul-le {k = a} {x = x / b} {y = x} h).1 (omega (arith, div-mul-le_self x b))

pub ceil_grows : (a b k : ℕ) → 1 ≤ k → a ≤ b → ceil_div a k ≤ ceil_div b k
ceil_grows a b k h j =
    (le-div_iff_mul-le {k = k} {x = ceil_div a k} {y = b + (k - 1)} h).1 (omega (arith, div-mul-le_self (a + (k - 1)) k))
