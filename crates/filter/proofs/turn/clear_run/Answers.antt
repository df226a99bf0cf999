-- `turn::clear_run` meets its contract. The loop has cleared the first counters of the run.
use Rattle.std.proofs.Common.{◌≡◌, ◌+◌, ◌-◌, map, length, ◌∙◌, arith, rules, get_or-set_other, get_or-set_same, below_more, length-drop}
use Rattle.std.proofs.lemmas.List.{map-set, length-map, length-take-le}
use Rattle.filter.proofs.turn.Clearing.{run_cleared}
use Rattle.filter.proofs.turn.clear_run.Goals as goal

pub loop-c-preserved : goal.loop-c-preserved
loop-c-preserved g c =
    let v = g.C.Counter.value in
    let items = map v c.loop-c.c-items in
    let i = c.loop-c.c-index in
    rw (map-set v c.loop-c.c-items i c.zero.result)
    (below_more _ _ (λ j h. get_or-set_other items i j (v c.zero.result) 0 (omega arith) ∙ c.loop-c.invariant j h)
    (get_or-set_same items i (v c.zero.result) 0 (rw length-map (search rules)) ∙ c.zero.ensures))

pub returns : goal.returns
returns g c =
    let v = g.C.Counter.value in
    let a = c.args in
    let k : a.start + a.n - a.start ≡ a.n = omega arith in
    let long : length c.loop-c.c-items ≡ a.n = c.loop-c.auto.c-items ∙ length-take-le (a.start + a.n - a.start) _ (simp length-drop (omega arith)) ∙ k in
    run_cleared v a.start (a.start + a.n - a.start) a.n a.counters.now c.loop-c.c-items k long c.requires
    (λ j h. c.loop-c.invariant j (omega (arith, c.loop-c.auto.c-items)))
