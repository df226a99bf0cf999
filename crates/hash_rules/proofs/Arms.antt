-- A table as a match: each arm's word against the rule, which is computed for the arm's value alone.
use mathlib.Core.Path.{◌≡◌, sym, ap, ◌∙◌}
use Prim.Native.Nat.{ℕ, zero, suc, ◌<◌, ◌≤◌}
use native.Mathlib.Omega.{arith}
use lib.Dec.{T, eqb, eqb→eq}

-- the arm of k: its word passes the test, so it is the rule's word of v
pub arm : (rule : ℕ → ℕ) {v k word : ℕ} → v ≡ k → T (eqb word (rule k)) → word ≡ rule v
arm rule {v} {k} {word} e t = eqb→eq word (rule k) t ∙ ap rule (sym e)

-- v is none of the numbers below n, as in the last arm
abbrev pub NoneBelow : ℕ → ℕ → Type 0
NoneBelow zero v = Unit {0}
NoneBelow (suc n) v = NoneBelow n v × (v ≡ n → ⊥)

none_below : (n v : ℕ) → NoneBelow n v → n ≤ v
none_below zero v h = omega arith
none_below (suc n) v h =
    let least = none_below n v h.0 in
    let other = h.1 in
    omega arith

-- the last arm has the one value that is left
pub last_value : {n v : ℕ} → NoneBelow n v → v < suc n → v ≡ n
last_value {n} {v} h below =
    let least = none_below n v h in
    omega arith
