-- `hash_rows` joins the hashes of the rows one by one.
use mathlib.Core.Path.{◌≡◌, sym, ◌∙◌}
use mathlib.Core.Bool.{true}
use native.Mathlib.Omega.{arith}
use lib.ListN.{length}
use borrow.Author.Tests.{lt-leb, le-leb}
use Rattle.rules.specs.Setting.{seeds_in_range}
use Rattle.hash_rows.proofs.Rows.{one_more, all_rows, none_ranged}
use Rattle.hash_rows.proofs.hash_rows.Goals as goal

pub returns-then-differing-gt1023 : goal.returns-then-differing-gt1023
returns-then-differing-gt1023 c = none_ranged _ _ (sym c.difference-differing.ensures.ranged ∙ lt-leb _ _ c.if-differing-gt1023.true)

pub places-requires : goal.places-requires
places-requires c =
    let ok : seeds_in_range c.args.seeds.now ≡ true = sym c.difference-differing.ensures.ranged ∙ le-leb _ _ c.if-differing-gt1023.false in
    (ok, λ e. c.difference-differing.ensures.none (c.by_table-chosen.ensures e))

pub loop-row-preserved : goal.loop-row-preserved
loop-row-preserved c =
    one_more _ _ c.places.result c.loop-row.row-index c.loop-row.all c.word-all.result c.loop-row.invariant c.places.ensures.0 c.word-all.ensures

pub returns : goal.returns
returns c =
    let ok : seeds_in_range c.args.seeds.now ≡ true = sym c.difference-differing.ensures.ranged ∙ le-leb _ _ c.if-differing-gt1023.false in
    let rows = c.args.rows.now in
    let end : c.loop-row.row-index ≡ length rows = omega arith in
    all_rows _ rows c.loop-row.all ok (rw end at c.loop-row.invariant)
