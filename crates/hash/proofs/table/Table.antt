-- The places by the table: the lanes of the exclusive or of a row's two words are its four hashes by the house seeds.
use mathlib.Core.Path.{◌≡◌, sym, ap, ◌∙◌}
use mathlib.Core.List.{[], ◌∷◌}
use Prim.Native.Nat.{ℕ, ◌*◌, ◌/◌, ◌%◌, ◌<◌}
use native.Mathlib.Nat.{div-one}
use native.Mathlib.Omega.{arith}
use lib.Bits.{bit_xor}
use Rattle.rules.specs.Samples.{house}
use Rattle.rules.specs.Hash.{hash, places}
use Rattle.hash_rules.specs.Lanes.{lane}
use Rattle.hash_rules.specs.Words.{high_words, low_words}
use Rattle.hash_rules.proofs.Lanes.{lane_xor}
use Rattle.hash_rules.proofs.Words.{hash_by_words}
use Rattle.hash_rules.proofs.Places.{four_places}

-- one lane of the two words together
one_lane : (f row : ℕ) → f < 4 → lane (bit_xor (high_words (row / 256)) (low_words (row % 256))) (16 * f) ≡ hash house f row
one_lane f row below = lane_xor (high_words (row / 256)) (low_words (row % 256)) (16 * f) ∙ sym (hash_by_words f row below)

pub table_places : (row hi lo : ℕ) → hi ≡ high_words (row / 256) → lo ≡ low_words (row % 256)
    → let w = bit_xor hi lo in w % 65536 ∷ w / 65536 % 65536 ∷ w / 4294967296 % 65536 ∷ w / 281474976710656 % 65536 ∷ [] ≡ places house row
unfolding lane
table_places row hi lo eh el =
    rw (eh, el)
    (four_places house row _ _ _ _ (ap (λ x. x % 65536) (sym (div-one _)) ∙ one_lane 0 row (omega arith)) (one_lane 1 row (omega arith)) (one_lane 2 row (omega arith)) (one_lane 3 row (omega arith)))
