-- The house seeds are in range.
use mathlib.Core.Path.{◌≡◌, refl}
use mathlib.Core.Bool.{true}
use lib.Dec.{T}
use Rattle.rules.specs.Setting.{seeds_in_range}
use Rattle.rules.specs.Samples.{house}
use Rattle.rules.proofs.Tests.{holds}

in_range_lem : seeds_in_range house ≡ true
unfolding seeds_in_range house
in_range_lem = refl

pub house_in_range : T (seeds_in_range house)
house_in_range = holds (seeds_in_range house) in_range_lem
