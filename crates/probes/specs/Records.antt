-- The records of what a caller lends, in buffers without cells behind them.
use Rattle.std.specs.Prelude.{cond, take, Result, Ok, Err}
use Rattle.probe_rules.specs.declared.ProbeRefusal.{ProbeRefusal}
use Rattle.probe_rules.specs.declared.ProbeRefusal.TheVariants.{ShortBuffer}
use Rattle.probe_rules.specs.Probes.{Probe, lent, too_short}

abbrev pub cut : Probe → Probe
cut p = lent (take p.count p.ticks) (take p.count p.rows) p.count

-- refused where a buffer is too short
unfoldable pub held_records : Probe → Result Probe ProbeRefusal
held_records p = cond (too_short p) (Err ShortBuffer) (Ok (cut p))
