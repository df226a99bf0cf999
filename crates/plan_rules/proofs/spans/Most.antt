-- The bound over plain numbers: f activations trc apart, then one every td ticks, in y ticks after the first. It grows with f and with y.
use mathlib.Core.Path.{◌≡◌, sym, subst}
use mathlib.Core.Bool.{Bool, cond}
use Prim.Native.Nat.{ℕ, ◌+◌, ◌-◌, ◌*◌, ◌/◌, ◌≤◌, ◌<◌}
use native.Mathlib.Omega.{arith}
use native.Mathlib.Decide.{dec_le}
use native.Mathlib.Nat.{add-mul, one-mul, mul-le-mul_left, mul-le-mul_right, le-div_iff_mul-le, div-lt_iff_lt-mul, div-mul-le_self, lt-div-mul-add, div-le_self}
use lib.Dec.{leb, le→leb}
use lib.Arith.{lt→nleb}
use Rattle.rules.proofs.Tests.{cond_yes, cond_no}

abbrev pub most : ℕ → ℕ → ℕ → ℕ → ℕ
most f trc td y = cond (leb (f * trc) y) (f + 1 + (y - f * trc) / td) (1 + y / trc)

-- by cases: all f fit in the span, or not
by_room : (P : ℕ → Type 0) (f trc td y : ℕ) → (f * trc ≤ y → P (f + 1 + (y - f * trc) / td)) → (y < f * trc → P (1 + y / trc)) → P (most f trc td y)
by_room P f trc td y a b = go (dec_le (f * trc) y)
  where
    room : Bool
    room = leb (f * trc) y

    long : ℕ
    long = f + 1 + (y - f * trc) / td

    short : ℕ
    short = 1 + y / trc

    go : Dec (f * trc ≤ y) → P (cond room long short)
    go (yes h) = subst P (sym (cond_yes room long short (le→leb (f * trc) y h))) (a h)
    go (no h) = subst P (sym (cond_no room long short (lt→nleb (f * trc) y (omega arith)))) (b (omega arith))

quotient_grows : (a b k : ℕ) → 1 ≤ k → a ≤ b → a / k ≤ b / k
quotient_grows a b k h j = (le-div_iff_mul-le {k = k} {x = a / k} {y = b} h).1 (omega (arith, div-mul-le_self a k))

-- ---- more ticks

pub more_ticks : (f trc td y z : ℕ) → 1 ≤ trc → 1 ≤ td → y ≤ z → most f trc td y ≤ most f trc td z
more_ticks f trc td y z r1 d1 h =
    by_room (λ v. v ≤ most f trc td z) f trc td y
    (λ a. by_room (λ v. f + 1 + (y - f * trc) / td ≤ v) f trc td z (λ b. omega (arith, quotient_grows (y - f * trc) (z - f * trc) td d1 (omega arith))) (λ b. absurd (omega arith)))
    (λ a. by_room (λ v. 1 + y / trc ≤ v) f trc td z (λ b. omega (arith, (div-lt_iff_lt-mul {k = trc} {x = y} {y = f} r1).1 a)) (λ b. omega (arith, quotient_grows y z trc r1 h)))

-- ---- more activations without a delay

-- k more of them, all in the span
more_all : (f k trc td y : ℕ) → trc ≤ td → 1 ≤ td → (f + k) * trc ≤ y → f + 1 + (y - f * trc) / td ≤ f + k + 1 + (y - (f + k) * trc) / td
more_all f k trc td y rd d1 room =
    let q = (y - (f + k) * trc) / td in
    let e : (f + k) * trc ≡ f * trc + k * trc = add-mul f k trc in
    let last : y - (f + k) * trc < q * td + td = lt-div-mul-add {a = y - (f + k) * trc} {b = td} d1 in
    let gaps : k * trc ≤ k * td = mul-le-mul_left k rd in
    let sum : (k + q + 1) * td ≡ k * td + q * td + td = rw (add-mul (k + q) 1 td, add-mul k q td, one-mul td) in
    let p : (y - f * trc) / td < k + q + 1 = (div-lt_iff_lt-mul {k = td} {x = y - f * trc} {y = k + q + 1} d1).1 (omega arith) in
    omega arith

-- so many that the span ends among them
more_some : (f trc td y : ℕ) → 1 ≤ trc → trc ≤ td → f * trc ≤ y → f + 1 + (y - f * trc) / td ≤ 1 + y / trc
more_some f trc td y r1 rd room =
    let q = (y - f * trc) / td in
    let gaps : q * trc ≤ q * td = mul-le-mul_left q rd in
    let e : (f + q) * trc ≡ f * trc + q * trc = add-mul f q trc in
    let p : f + q ≤ y / trc = (le-div_iff_mul-le {k = trc} {x = f + q} {y = y} r1).1 (omega (arith, div-mul-le_self (y - f * trc) td)) in
    omega arith

pub more_free : (f g trc td y : ℕ) → 1 ≤ trc → trc ≤ td → f ≤ g → most f trc td y ≤ most g trc td y
more_free f g trc td y r1 rd h =
    by_room (λ v. v ≤ most g trc td y) f trc td y
    (λ a. by_room (λ v. f + 1 + (y - f * trc) / td ≤ v) g trc td y (λ b. all b) (λ b. more_some f trc td y r1 rd a))
    (λ a. by_room (λ v. 1 + y / trc ≤ v) g trc td y (λ b. absurd (omega (arith, mul-le-mul_right trc h))) (λ b. omega arith))
  where
    e : f + (g - f) ≡ g
    e = omega arith

    all : g * trc ≤ y → f + 1 + (y - f * trc) / td ≤ g + 1 + (y - g * trc) / td
    all b =
        subst (λ n. f + 1 + (y - f * trc) / td ≤ n + 1 + (y - n * trc) / td) e
        (more_all f (g - f) trc td y rd (omega arith) (subst (λ n. n * trc ≤ y) (sym e) b))

-- ---- at most one a tick

pub one_each : (f trc td y : ℕ) → 1 ≤ trc → most f trc td y ≤ y + 1
one_each f trc td y r1 =
    by_room (λ v. v ≤ y + 1) f trc td y (λ a. omega (arith, mul-le-mul_left f r1, div-le_self (y - f * trc) td)) (λ a. omega (arith, div-le_self y trc))
