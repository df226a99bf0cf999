-- Rounding to the nearest whole number, an exact half to the even one: it gives that number, and there is only one.
use mathlib.Core.Path.{◌≡◌, refl, sym, ap, subst}
use mathlib.Core.Bool.{Bool, true, false, cond}
use Prim.Native.Nat.{ℕ, zero, suc, ◌+◌, ◌*◌, ◌/◌, ◌%◌, ◌≤◌, ◌<◌}
use native.Mathlib.Omega.{arith}
use native.Mathlib.Nat.{div-add-mod', mod-lt, le_dest, mul-le-mul_right}
use native.Mathlib.Decide.{dec_lt}
use lib.Dec.{ltb, eqb}
use borrow.Author.Tests.{ltb-true, ltb-false, eqb-true, eqb-false, lt-ltb, le-ltb, eq-eqb, ne_eqb}
use Rattle.rules.specs.Quota.{half_even}
use Rattle.rules.specs.Claims.{Nearest, Rounds}

-- the rest is more than half, less than half, or half
past : (q r d : ℕ) → r < d → d < 2 * r → Nearest (q * d + r) d (q + 1)
past q r d rd h = record { near = omega arith; even = λ e. absurd (omega arith) }

short : (q r d : ℕ) → 2 * r < d → Nearest (q * d + r) d q
short q r d h = record { near = omega arith; even = λ e. absurd (omega arith) }

half : (q r d : ℕ) → 1 ≤ d → 2 * r ≡ d → Nearest (q * d + r) d (q + q % 2)
half q r d pos h = go (q % 2) refl (mod-lt q (omega arith))
  where
    go : (k : ℕ) → q % 2 ≡ k → k < 2 → Nearest (q * d + r) d (q + k)
    go zero e k2 = record { near = omega arith; even = λ _. omega arith }
    go (suc zero) e k2 = record { near = omega arith; even = λ _. omega arith }
    go (suc (suc k)) e k2 = absurd (omega arith)

pub rounds_near : (x d : ℕ) → 1 ≤ d → Nearest x d (half_even x d)
unfolding half_even
rounds_near x d pos = subst (λ z. Nearest z d (half_even x d)) (div-add-mod' x d) (go (ltb d (2 * r)) refl (eqb (2 * r) d) refl)
  where
    q : ℕ
    q = x / d

    r : ℕ
    r = x % d

    go : (a : Bool) → ltb d (2 * r) ≡ a → (b : Bool) → eqb (2 * r) d ≡ b → Nearest (q * d + r) d (cond a (q + 1) (cond b (q + q % 2) q))
    go true e b e' = past q r d (mod-lt x pos) (ltb-true d (2 * r) e)
    go false e true e' = half q r d pos (eqb-true (2 * r) d e')
    go false e false e' =
        let n : 2 * r ≡ d → ⊥ = eqb-false (2 * r) d e' in
        short q r d (omega (arith, ltb-false d (2 * r) e))

-- of two such numbers neither is less
not_less : (x d y z : ℕ) → 1 ≤ d → Nearest x d y → Nearest x d z → y < z → ⊥
not_less x d y z pos a b h = go (le_dest h)
  where
    go : (k : ℕ) × (suc y + k ≡ z) → ⊥
    go (zero, e) =
        let m : z * d ≡ (suc y + zero) * d = ap (λ w. w * d) (sym e) in
        let na = a.near in
        let nb = b.near in
        omega (arith, a.even (omega arith), b.even (omega arith))
    go (suc k, e) =
        let m : z * d ≡ (suc y + suc k) * d = ap (λ w. w * d) (sym e) in
        omega (arith, a.near, b.near)

rounds_alone : (x d y : ℕ) → 1 ≤ d → Nearest x d y → y ≡ half_even x d
rounds_alone x d y pos n = go (dec_lt y (half_even x d)) (dec_lt (half_even x d) y)
  where
    h : Nearest x d (half_even x d)
    h = rounds_near x d pos

    go : Dec (y < half_even x d) → Dec (half_even x d < y) → y ≡ half_even x d
    go (yes l) m = absurd (not_less x d y (half_even x d) pos n h l)
    go (no l) (yes m) = absurd (not_less x d (half_even x d) y pos h n m)
    go (no l) (no m) = omega arith

pub rounds : Rounds
rounds x d pos = (rounds_near x d pos, λ q n. rounds_alone x d q pos n)

-- no more than a whole number that x/d does not pass
pub rounds_most : (x d q : ℕ) → 1 ≤ d → x ≤ q * d → half_even x d ≤ q
rounds_most x d q pos h = go (dec_lt q (half_even x d))
  where
    go : Dec (q < half_even x d) → half_even x d ≤ q
    go (no k) = omega arith
    go (yes k) = absurd (omega (arith, mul-le-mul_right d k, (rounds_near x d pos).near))

-- a whole number stays as it is
pub rounds_whole : (d q : ℕ) → 1 ≤ d → half_even (q * d) d ≡ q
rounds_whole d q pos = sym (rounds_alone (q * d) d q pos (record { near = omega arith; even = λ e. absurd (omega arith) }))

-- ---- for code that goes by quotient and rest

-- past the half, and short of it
pub rounds_past : (x d : ℕ) → d < 2 * (x % d) → x / d + 1 ≡ half_even x d
unfolding half_even
rounds_past x d h = rw (lt-ltb d (2 * (x % d)) h)

pub rounds_short : (x d : ℕ) → 2 * (x % d) < d → x / d ≡ half_even x d
unfolding half_even
rounds_short x d h =
    let le : 2 * (x % d) ≤ d = omega arith in
    let ne : 2 * (x % d) ≡ d → ⊥ = λ e. omega arith in
    rw (le-ltb d (2 * (x % d)) le, ne_eqb (2 * (x % d)) d ne)

-- at the half: the even one of the quotient and the number after it
pub rounds_half : (x d : ℕ) → 2 * (x % d) ≡ d → x / d + x / d % 2 ≡ half_even x d
unfolding half_even
rounds_half x d h =
    let le : 2 * (x % d) ≤ d = omega arith in
    rw (le-ltb d (2 * (x % d)) le, eq-eqb (2 * (x % d)) d h)
