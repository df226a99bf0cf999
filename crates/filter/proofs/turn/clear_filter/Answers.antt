-- `turn::clear_filter` meets its contract. The loop has cleared the filter in the first b banks.
use Rattle.std.proofs.Common.{map, arith, rules}
use Rattle.std.proofs.lemmas.List.{length-map}
use Rattle.rules.proofs.Clearing.{cleared_all}
use Rattle.filter.proofs.turn.Clearing.{filter_none, filter_more}
use Rattle.filter.proofs.turn.clear_filter.Goals as goal

pub loop-b-init : goal.loop-b-init
loop-b-init g c = filter_none c.args.f c.args.banks (map g.C.Counter.value c.args.counters.now)

pub loop-b-preserved : goal.loop-b-preserved
loop-b-preserved g c =
    filter_more c.args.f c.loop-b.invariant (map g.C.Counter.value c.clear_run.new.counters)
    (search rules) (omega arith) (simp length-map c.clear_run.auto.counters) c.clear_run.ensures

pub returns : goal.returns
returns g c = cleared_all c.loop-b.invariant (omega arith)
