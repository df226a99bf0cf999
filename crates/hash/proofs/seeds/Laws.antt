-- Laws of the hash: four bits more by a word of seeds and a mask, and all sixteen.
use mathlib.Core.Path.{◌≡◌, refl, sym, ap, ◌∙◌}
use mathlib.Core.List.{List}
use mathlib.Core.Bool.{true, cond}
use Prim.Native.Nat.{ℕ, suc, ◌+◌, ◌*◌, ◌/◌, ◌%◌, ◌^◌, ◌<◌}
use native.Mathlib.Nat.{div-div-eq-div-mul, mod-eq_of_lt, div-one}
use native.Mathlib.Omega.{arith}
use lib.Dec.{eqb}
use lib.Pow.{pow-add}
use lib.Bits.{bit_xor}
use lib.ListN.{length, get_or}
use Rattle.rules.specs.Setting.{seeds_in_range}
use Rattle.rules.specs.Hash.{bit_set, hash_to, hash}
use Rattle.rules.proofs.Tests.{holds}
use Rattle.rules.proofs.Places.{seeds_long, seed_small, hash_to_lt}
use Rattle.hash.specs.Lanes.{spread, chosen, folded}
use Rattle.hash_rules.proofs.Xor.{xor_four}
use Rattle.hash.proofs.lanes.Lanes.{fold_masked, fold_xor}

pub seeds_64 : (seeds : List ℕ) → seeds_in_range seeds ≡ true → length seeds ≡ 64
seeds_64 seeds ok = seeds_long seeds (holds (seeds_in_range seeds) ok)

-- bit k of a row that is shifted by i
bit_above : (row i k j : ℕ) → i + k ≡ j → bit_set (row / 2 ^ i) k ≡ bit_set row j
bit_above row i k j e = ap (λ x. eqb (x % 2) 1) (div-div-eq-div-mul row (2 ^ i) (2 ^ k) ∙ ap (λ x. row / x) (sym (pow-add 2 i k) ∙ ap (λ x. 2 ^ x) e))

-- four bits more, by four seeds and their mask
four_more : (seeds : List ℕ) (f row i at bits h : ℕ) → seeds_in_range seeds ≡ true → at ≡ 16 * f + i → bits ≡ row / 2 ^ i → h ≡ hash_to seeds f row i
    → bit_xor h (folded (chosen seeds at bits)) ≡ hash_to seeds f row (suc (suc (suc (suc i))))
unfolding chosen spread
four_more seeds f row i at bits h ok ea eb eh =
    let small : (k : ℕ) → get_or seeds k 0 < 65536 = λ k. omega (arith, seed_small seeds (holds (seeds_in_range seeds) ok) k) in
    let one : ℕ → ℕ = λ j. cond (bit_set row j) (get_or seeds (16 * f + j) 0) 0 in
    let e1 : at + 1 ≡ 16 * f + suc i = omega arith in
    let e2 : at + 2 ≡ 16 * f + suc (suc i) = omega arith in
    let e3 : at + 3 ≡ 16 * f + suc (suc (suc i)) = omega arith in
    rw (
      fold_masked (get_or seeds at 0) (get_or seeds (at + 1) 0) (get_or seeds (at + 2) 0) (get_or seeds (at + 3) 0) (bit_set bits 0) (bit_set bits 1) (bit_set bits 2) (bit_set bits 3) (small at) (small (at + 1)) (small (at + 2)) (small (at + 3)),
      eb,
      bit_above row i 0 i (omega arith),
      bit_above row i 1 (suc i) (omega arith),
      bit_above row i 2 (suc (suc i)) (omega arith),
      bit_above row i 3 (suc (suc (suc i))) (omega arith),
      e1,
      e2,
      e3,
      ea,
      eh,
    )
    (xor_four (hash_to seeds f row i) (one i) (one (suc i)) (one (suc (suc i))) (one (suc (suc (suc i)))))

-- all sixteen bits
pub hash_is : (seeds : List ℕ) (f row a b c d r : ℕ) → seeds_in_range seeds ≡ true → a ≡ chosen seeds (16 * f) row → b ≡ chosen seeds (16 * f + 4) (row / 16)
    → c ≡ chosen seeds (16 * f + 8) (row / 256) → d ≡ chosen seeds (16 * f + 12) (row / 4096) → r ≡ folded (bit_xor (bit_xor (bit_xor a b) c) d) % 1024 → r ≡ hash seeds f row
unfolding hash
hash_is seeds f row a b c d r ok ea eb ec ed er =
    let h4 : folded a ≡ hash_to seeds f row 4 = rw ea (four_more seeds f row 0 (16 * f) row 0 ok (omega arith) (sym (div-one row)) refl) in
    let h8 : bit_xor (folded a) (folded b) ≡ hash_to seeds f row 8 = rw eb (four_more seeds f row 4 (16 * f + 4) (row / 16) (folded a) ok refl refl h4) in
    let h12 : bit_xor (bit_xor (folded a) (folded b)) (folded c) ≡ hash_to seeds f row 12 = rw ec (four_more seeds f row 8 (16 * f + 8) (row / 256) (bit_xor (folded a) (folded b)) ok refl refl h8) in
    let h16 : bit_xor (bit_xor (bit_xor (folded a) (folded b)) (folded c)) (folded d) ≡ hash_to seeds f row 16 = rw ed (four_more seeds f row 12 (16 * f + 12) (row / 4096) (bit_xor (bit_xor (folded a) (folded b)) (folded c)) ok refl refl h12) in
    rw (er, fold_xor (bit_xor (bit_xor a b) c) d, fold_xor (bit_xor a b) c, fold_xor a b, h16)
    (mod-eq_of_lt (hash_to_lt seeds (holds (seeds_in_range seeds) ok) f row 16))
