-- `look` reads the numbers that the decision looks at.
use Prim.Native.Nat.{◌+◌, ◌*◌, ◌/◌, ◌%◌}
use mathlib.Core.Path.{◌≡◌, refl, ap}
use native.Mathlib.Omega.{arith}
use native.Mathlib.Nat.{div-le_self}
use Rattle.state.proofs.view.Parts.{end_small, view_parts}
use Rattle.state.proofs.view.look.Goals as goal

pub delay-delay-requires : goal.delay-delay-requires
delay-delay-requires c =
    let r = c.requires.0 in
    (r.bounds, r.memory, r.ticks_long, r.rows_long, omega (arith, r.bank_in, r.bounds.ranges.banks_high), r.early)

pub overflow_add-end : goal.overflow_add-end
overflow_add-end c =
    let a = c.args in
    let e : a.e ≡ a.h.last / (a.s.w / 2) = c.requires.1 in
    omega (arith, div-le_self a.h.last (a.s.w / 2), c.requires.0.early)

pub overflow_mul-end : goal.overflow_mul-end
overflow_mul-end c =
    let a = c.args in
    let e : a.e ≡ a.h.last / (a.s.w / 2) = c.requires.1 in
    rw e (omega (arith, end_small a.h.last (a.s.w / 2) (omega (arith, c.requires.0.bounds.ranges.w_high)) c.requires.0.early))

pub returns : goal.returns
returns c =
    let a = c.args in
    view_parts a.s a.active a.other a.h a.ticks.now a.rows.now a.threads.now a.bank a.thread a.row (a.e % 2) c.cell-cell.result _
    (ap (λ x. x % 2) c.requires.1) c.cell-cell.ensures.0 c.total-flying.ensures c.quota-quota.ensures.0 c.requires.2 refl refl refl c.delay-delay.ensures (ap (λ x. (x + 1) * (a.s.w / 2)) c.requires.1)
