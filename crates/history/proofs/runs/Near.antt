-- A block's test by or-ed differences: small differences wrap at most once, and then the last cell is below the first.
use Rattle.std.proofs.Common.{◌≡◌, ℕ, ◌+◌, ◌-◌, ◌*◌, ◌%◌, ◌^◌, ◌<◌, ◌≤◌, T, ◌⊎◌, List, get_or, Fits, w64, sym, ◌∙◌, inl, inr, lt_of_le_of_lt, mod-eq_of_lt, arith}
use native.Mathlib.Decide.{dec_lt}
use lib.Bits.{bit_or, or_add_and, and_le_r, or_comm}
use Rattle.history.specs.Runs.{never_falls}
use Rattle.history.proofs.runs.Runs.{run_none, run_more}

or_below : (a b : ℕ) → a ≤ bit_or a b
or_below a b = omega (arith, or_add_and a b, and_le_r a b)

-- both parts of an or are below a bound that the or is below
pub or_parts : (a b n : ℕ) → bit_or a b < n → (a < n) × (b < n)
or_parts a b n h = (lt_of_le_of_lt (or_below a b) h, lt_of_le_of_lt (or_below b a) (rw or_comm h))

-- k differences below 2^58, from the cell at i on: none wrapped, or the cell reached lies a whole word below the first cell plus k times 2^58
abbrev pub Near : List ℕ → ℕ → ℕ → Type 0
Near ticks i k = (T (never_falls ticks i k) × (get_or ticks (i + k) 0 ≤ get_or ticks i 0 + k * 2 ^ 58)) ⊎ (get_or ticks (i + k) 0 + 2 ^ 64 < get_or ticks i 0 + k * 2 ^ 58)

pub near_none : (ticks : List ℕ) (i : ℕ) → Near ticks i 0
near_none ticks i =
    let z : i + 0 ≡ i = omega arith in
    inl (run_none ticks i, rw z (omega arith))

-- one difference more
near_one : (ticks : List ℕ) (i k d : ℕ) → Near ticks i k → (d + get_or ticks (i + k) 0) % 2 ^ 64 ≡ get_or ticks (i + k + 1) 0 → d < 2 ^ 58 → Near ticks i (k + 1)
near_one ticks i k d n e h = go n (dec_lt (d + get_or ticks (i + k) 0) (2 ^ 64))
  where
    next : i + (k + 1) ≡ i + k + 1
    next = omega arith

    go : Near ticks i k → Dec (d + get_or ticks (i + k) 0 < 2 ^ 64) → Near ticks i (k + 1)
    go (inl (t, le)) (yes l) =
        let s : get_or ticks (i + k + 1) 0 ≡ d + get_or ticks (i + k) 0 = sym e ∙ mod-eq_of_lt l in
        inl (run_more ticks i k t (omega (arith, s)), rw next (omega (arith, s, le, h)))
    go (inl (t, le)) (no l) = inr (rw next (omega (arith, e, le, h)))
    go (inr lt) l = inr (rw next (omega (arith, e, lt, h)))

-- the difference of two words, added to the second, is the first
unwrapped : (x y : ℕ) → x < 2 ^ 64 → y < 2 ^ 64 → ((x + (2 ^ 64 - y)) % 2 ^ 64 + y) % 2 ^ 64 ≡ x
unwrapped x y h k = omega arith

-- the same where the difference is or-ed to those before
pub near_more : (ticks : List ℕ) (i k all : ℕ) → (all < 2 ^ 58 → Near ticks i k) → ((j : ℕ) → Fits w64 (get_or ticks j 0))
    → bit_or all ((get_or ticks (i + k + 1) 0 + (2 ^ 64 - get_or ticks (i + k) 0)) % 2 ^ 64) < 2 ^ 58 → Near ticks i (k + 1)
near_more ticks i k all f fits h =
    let new = get_or ticks (i + k + 1) 0 in
    let old = get_or ticks (i + k) 0 in
    let o = or_parts all ((new + (2 ^ 64 - old)) % 2 ^ 64) (2 ^ 58) h in
    near_one ticks i k ((new + (2 ^ 64 - old)) % 2 ^ 64) (f o.0) (unwrapped new old (omega (arith, fits (i + k + 1))) (omega (arith, fits (i + k)))) o.1

-- at most 64 differences that do not end below their first cell did not wrap
pub near_all : (ticks : List ℕ) (i m : ℕ) → m ≤ 64 → get_or ticks i 0 ≤ get_or ticks (i + m) 0 → Near ticks i m → T (never_falls ticks i m)
near_all ticks i m few h (inl (t, le)) = t
near_all ticks i m few h (inr lt) = absurd (omega (arith, few, h, lt))
