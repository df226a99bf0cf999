-- `Lent::records`: by the test of the lengths.
use mathlib.Core.Path.{◌≡◌, refl, sym, ap, ◌∙◌}
use mathlib.Core.Bool.{false}
use lib.ListN.{length, take}
use Rattle.std.specs.Prelude.{Ok}
use Rattle.std.proofs.lemmas.List.{length-take-le}
use Rattle.probe_rules.specs.Probes.{lent, too_short}
use Rattle.probe_rules.proofs.Refusals.{held}
use Rattle.probes.specs.Records.{held_records}
use Rattle.probes.proofs.lent.Lent.records.Goals as goal

pub returns-then-too_short : goal.returns-then-too_short
unfolding held_records
returns-then-too_short c = rw (sym c.too_short.ensures ∙ c.if-too_short.true) refl

pub returns : goal.returns
unfolding held_records
returns c =
    let i = c.self.inside in
    let p = lent i.ticks.now i.rows.now i.count in
    let long : too_short p ≡ false = ap too_short c.self.view_is ∙ sym c.too_short.ensures ∙ c.if-too_short.false in
    let e : length (take i.count i.ticks.now) ≡ i.count = length-take-le i.count i.ticks.now (held p long).0 in
    rw (← c.self.view_is) (rw long (ap (λ n. Ok (lent (take i.count i.ticks.now) (take i.count i.rows.now) n)) e))
