-- What one pass finds out about the pairs, and about all records of two lists.
use Rattle.std.specs.Prelude.{Bool, ◌&&◌, cond, ℕ, ◌^◌, min, ltb, Option, Some, None}
use Rattle.rules.specs.Cells.{every}
use Rattle.probe_rules.specs.Probes.{Probe, on_time}
use Rattle.probe_rules.specs.Closed.{alike, greatest, least}
use Rattle.probes.specs.declared.pairs.Spread.{Spread}

-- a tick below 2^62
abbrev pub early : ℕ → Bool
early tick = ltb tick (2 ^ 62)

-- a pair is a place that both lists have
abbrev pub paired : Probe → Probe → ℕ
paired x y = min x.count y.count

-- whether the lists are alike, and the greatest and the least difference of their pairs
abbrev pub spread : Probe → Probe → Spread
spread x y = let n = paired x y in record { alike = alike x y; greatest = greatest x.ticks y.ticks n; least = least x.ticks y.ticks n }

-- from the pairs
unfoldable pub pairs_of : Probe → Probe → Option Spread
pairs_of x y = let n = paired x y in cond (every n (on_time x.ticks) && every n (on_time y.ticks)) (Some (spread x y)) None

-- from all records
unfoldable pub records_of : Probe → Probe → Option Spread
records_of x y = cond (every x.count (on_time x.ticks) && every y.count (on_time y.ticks)) (Some (spread x y)) None
