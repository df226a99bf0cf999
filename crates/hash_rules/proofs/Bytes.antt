-- The hash of an exclusive or of rows, bit by bit, and of a row by its two bytes.
use mathlib.Core.Path.{◌≡◌, refl, sym, ap, ap₂, ◌∙◌}
use mathlib.Core.List.{List}
use mathlib.Core.Bool.{cond}
use Prim.Native.Nat.{ℕ, zero, suc, ◌+◌, ◌*◌, ◌/◌, ◌%◌, ◌^◌, ◌<◌}
use native.Mathlib.Omega.{arith}
use lib.Dec.{eqb}
use lib.Bits.{bit_xor, xor_shr, xor_mod, xor_zero_r, xor_self, xor_shifted}
use lib.ListN.{get_or}
use Rattle.rules.specs.Hash.{hash_to, hash}
use Rattle.hash_rules.specs.Claims.{HashOfXor, HashByBytes}
use Rattle.hash_rules.proofs.Xor.{xor_swap}

-- a seed by the exclusive or of two bits is the exclusive or of the seed by each
by_bits : (a b seed : ℕ) → a < 2 → b < 2 → cond (eqb (bit_xor a b) 1) seed 0 ≡ bit_xor (cond (eqb a 1) seed 0) (cond (eqb b 1) seed 0)
by_bits zero zero seed p q = refl
by_bits zero (suc zero) seed p q = refl
by_bits (suc zero) zero seed p q = sym (xor_zero_r seed)
by_bits (suc zero) (suc zero) seed p q = sym (xor_self seed)
by_bits zero (suc (suc b)) seed p q = absurd (omega arith)
by_bits (suc zero) (suc (suc b)) seed p q = absurd (omega arith)
by_bits (suc (suc a)) b seed p q = absurd (omega arith)

-- bit i of an exclusive or
bit_of_xor : (row other i : ℕ) → bit_xor row other / 2 ^ i % 2 ≡ bit_xor (row / 2 ^ i % 2) (other / 2 ^ i % 2)
bit_of_xor row other i = ap (λ x. x % 2) (xor_shr row other i) ∙ xor_mod (row / 2 ^ i) (other / 2 ^ i) 1

hash_to_of_xor : (seeds : List ℕ) (f row other n : ℕ) → hash_to seeds f (bit_xor row other) n ≡ bit_xor (hash_to seeds f row n) (hash_to seeds f other n)
hash_to_of_xor seeds f row other zero = refl
hash_to_of_xor seeds f row other (suc i) =
    let a = row / 2 ^ i % 2 in
    let b = other / 2 ^ i % 2 in
    let seed = get_or seeds (16 * f + i) 0 in
    ap₂ bit_xor (hash_to_of_xor seeds f row other i)
    (ap (λ x. cond (eqb x 1) seed 0) (bit_of_xor row other i) ∙ by_bits a b seed (omega arith) (omega arith))
    ∙ xor_swap (hash_to seeds f row i) (hash_to seeds f other i) (cond (eqb a 1) seed 0) (cond (eqb b 1) seed 0)

pub hash_of_xor : HashOfXor
unfolding hash
hash_of_xor seeds f row other = hash_to_of_xor seeds f row other 16

-- a row is the exclusive or of its two bytes, each at its place
two_bytes : (row : ℕ) → row ≡ bit_xor (row / 256 * 256) (row % 256)
two_bytes row =
    let e : row ≡ row / 256 * 2 ^ 8 + row % 256 = omega arith in
    e ∙ sym (xor_shifted (row / 256) 8 (row % 256) (omega arith))

pub hash_by_bytes : HashByBytes
hash_by_bytes seeds f row = ap (hash seeds f) (two_bytes row) ∙ hash_of_xor seeds f (row / 256 * 256) (row % 256)
