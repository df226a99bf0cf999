-- Four hashes together.
use mathlib.Core.Path.{◌≡◌}
use mathlib.Core.List.{List, [], ◌∷◌}
use Prim.Native.Nat.{ℕ}
use Rattle.rules.specs.Hash.{hash, places}

-- the four hashes are the row's places
pub four_places : (seeds : List ℕ) (row a b c d : ℕ) → a ≡ hash seeds 0 row → b ≡ hash seeds 1 row → c ≡ hash seeds 2 row
    → d ≡ hash seeds 3 row → a ∷ b ∷ c ∷ d ∷ [] ≡ places seeds row
unfolding places
four_places seeds row a b c d ea eb ec ed = rw (ea, eb, ec, ed)
