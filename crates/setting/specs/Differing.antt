-- What one pass over the seeds finds: whether they are in range, and whether they are the house seeds.
use Rattle.std.specs.Prelude.{◌≡◌, List, ℕ, leb}
use Rattle.rules.specs.Setting.{seeds_in_range}
use Rattle.rules.specs.Samples.{house}

-- what the bits say in which seeds differ from the house seeds: as a number up to 1,023 exactly where the seeds are in range, 0 exactly where they
-- are the house seeds
pub record Differing (differing : ℕ) (seeds : List ℕ) : Type 0 where
  pub ranged : leb differing 1023 ≡ seeds_in_range seeds
  pub none : differing ≡ 0 → seeds ≡ house
  pub of_house : seeds ≡ house → differing ≡ 0
