-- A hash is below 1,024, so a row's four places are within a filter.
use mathlib.Core.Path.{◌≡◌}
use mathlib.Core.Logic.{◌⊎◌, inl, inr}
use mathlib.Core.List.{List, [], ◌∷◌}
use mathlib.Core.Bool.{Bool, true, false, cond}
use Prim.Native.Nat.{ℕ, zero, suc, ◌+◌, ◌*◌, ◌^◌, ◌≤◌, ◌<◌}
use native.Mathlib.Omega.{arith}
use native.Mathlib.Decide.{dec_lt}
use lib.Dec.{T, eqb, leb, leb→le, eqb→eq, lit<}
use lib.Bits.{xor_lt}
use lib.ListN.{length, get_or, get_or-eq_default}
use Rattle.rules.specs.Cells.{every, member, All}
use Rattle.rules.specs.Setting.{seeds_in_range}
use Rattle.rules.specs.Hash.{bit_set, hash_to, hash, places}
use Rattle.rules.specs.Filter.{Within}
use Rattle.rules.proofs.Tests.{and_l, and_r, or_e, every_at}

-- every seed, past the end too, is at most 1,023
pub seed_small : (seeds : List ℕ) → T (seeds_in_range seeds) → (i : ℕ) → get_or seeds i 0 ≤ 1023
unfolding seeds_in_range
seed_small seeds h i = go (dec_lt i (length seeds))
  where
    go : Dec (i < length seeds) → get_or seeds i 0 ≤ 1023
    go (yes k) = leb→le (get_or seeds i 0) 1023 (every_at (length seeds) (λ j. leb (get_or seeds j 0) 1023) (and_r (eqb (length seeds) 64) (every (length seeds) (λ j. leb (get_or seeds j 0) 1023)) h) i k)
    go (no k) = let z : length seeds ≤ i = omega arith in rw (get_or-eq_default seeds 0 z) (omega arith)

pub seeds_long : (seeds : List ℕ) → T (seeds_in_range seeds) → length seeds ≡ 64
unfolding seeds_in_range
seeds_long seeds h = eqb→eq (length seeds) 64 (and_l (eqb (length seeds) 64) (every (length seeds) (λ j. leb (get_or seeds j 0) 1023)) h)

member_all : (h : ℕ) (l : List ℕ) → All (λ x. x < 1024) l → T (member h l) → h < 1024
member_all h [] a m = absurd m
member_all h (x ∷ xs) a m = go (or_e (eqb h x) (member h xs) m) (member_all h xs a.1)
  where
    go : T (eqb h x) ⊎ T (member h xs) → (T (member h xs) → h < 1024) → h < 1024
    go (inl e) ih = rw (eqb→eq h x e) a.0
    go (inr k) ih = ih k

module _ (seeds : List ℕ) (ok : T (seeds_in_range seeds)) where
  pub hash_to_lt : (f row n : ℕ) → hash_to seeds f row n < 2 ^ 10
  hash_to_lt f row zero = lit< tt
  hash_to_lt f row (suc i) =
      xor_lt 10 (hash_to seeds f row i) (cond (bit_set row i) (get_or seeds (16 * f + i) 0) 0) (hash_to_lt f row i) (go (bit_set row i))
    where
      go : (q : Bool) → cond q (get_or seeds (16 * f + i) 0) 0 < 2 ^ 10
      go true = omega (arith, seed_small seeds ok (16 * f + i))
      go false = lit< tt

  pub hash_lt : (f row : ℕ) → hash seeds f row < 1024
  unfolding hash
  hash_lt f row = hash_to_lt f row 16

  pub places_within : (row : ℕ) → Within (places seeds row)
  unfolding places
  places_within row = record { first = hash_lt 0 row; second = hash_lt 1 row; third = hash_lt 2 row; fourth = hash_lt 3 row }

  -- a place of the row, as a member of the four
  pub place_lt : (row h : ℕ) → T (member h (places seeds row)) → h < 1024
  unfolding places
  place_lt row h m = member_all h (places seeds row) (hash_lt 0 row, (hash_lt 1 row, (hash_lt 2 row, (hash_lt 3 row, tt)))) m
