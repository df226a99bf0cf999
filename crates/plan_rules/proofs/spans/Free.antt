-- F, the activations that are free of the delay: it grows with the span, and F × tRC stays within 64 bits for every span that 64 bits hold.
use mathlib.Core.Path.{◌≡◌}
use Prim.Native.Nat.{ℕ, ◌+◌, ◌-◌, ◌*◌, ◌^◌, ◌≤◌, ◌<◌}
use native.Mathlib.Omega.{arith}
use native.Mathlib.Nat.{mul_assoc, mul_comm, add-mul, mul-le-mul_left, mul-le-mul_right, div-mul-le_self}
use Rattle.rules.specs.declared.Setting.{Setting}
use Rattle.rules.specs.Cells.{ceil_div}
use Rattle.rules.specs.Setting.{epoch_length}
use Rattle.rules.specs.Claims.{free_most, span_bound}
use Rattle.plan_rules.proofs.delays.Numbers.{ceil_grows}
use Rattle.plan_rules.specs.spans.Spans.{Room}
use Rattle.plan_rules.proofs.spans.Most.{one_each}

pub free_grows : (s : Setting) → 1 ≤ epoch_length s → (x y : ℕ) → x ≤ y → free_most s x ≤ free_most s y
free_grows s e1 x y h =
    let epochs = ceil_grows (x - 1) (y - 1) (epoch_length s) e1 (omega arith) in
    mul-le-mul_left s.n (ceil_grows (ceil_div (x - 1) (epoch_length s) + 1) (ceil_div (y - 1) (epoch_length s) + 1) 2 (omega arith) (omega arith))

-- a burst of N activations fits in an epoch; c bursts take at most half of the span plus one and a half epochs
bursts_fit : (n trc e c q y : ℕ) → n * trc ≤ e → 2 * c ≤ q + 2 → q * e ≤ y + e → 2 * (n * c * trc) ≤ y + 3 * e
bursts_fit n trc e c q y h k l =
    let each : c * (n * trc) ≤ c * e = mul-le-mul_left c h in
    let named : n * c * trc ≡ c * (n * trc) = rw (mul_comm n c, mul_assoc c n trc) in
    let twice : 2 * c * e ≡ 2 * (c * e) = mul_assoc 2 c e in
    let all : 2 * c * e ≤ (q + 2) * e = mul-le-mul_right e k in
    let sum : (q + 2) * e ≡ q * e + 2 * e = add-mul q 2 e in
    omega arith

free_small : (s : Setting) (x : ℕ) → Room s → 2 * (free_most s x * s.trc) ≤ x - 1 + 3 * epoch_length s
free_small s x ok =
    let e = epoch_length s in
    let q = ceil_div (x - 1) e in
    let low = ok.low in
    let named : 2 * s.n * s.trc ≡ 2 * (s.n * s.trc) = mul_assoc 2 s.n s.trc in
    let room = ok.bursts in
    bursts_fit s.n s.trc e (ceil_div (q + 1) 2) q (x - 1) (omega arith) (omega arith) (omega (arith, div-mul-le_self (x - 1 + (e - 1)) e))

-- F itself is no larger
pub free_apart : (s : Setting) (x : ℕ) → Room s → free_most s x ≤ free_most s x * s.trc
free_apart s x ok = let p : free_most s x * 1 ≤ free_most s x * s.trc = mul-le-mul_left (free_most s x) ok.apart in omega arith

-- F × tRC within 64 bits
pub free_fits : (s : Setting) (x : ℕ) → Room s → x < 2 ^ 64 → free_most s x * s.trc < 2 ^ 64
free_fits s x ok h = let high = ok.high in omega (arith, free_small s x ok)

-- the bound is at most one a tick
pub one_a_tick : (s : Setting) → 1 ≤ s.trc → (x : ℕ) → 1 ≤ x → span_bound s x ≤ x
unfolding span_bound
one_a_tick s r1 x h = omega (arith, one_each (free_most s x) s.trc s.td (x - 1) r1)
