-- `head_past` accepts by the quick pass, or tests banks and rank one by one.
use Rattle.std.proofs.Common.{◌&&◌, sym, ap₂, ap, ◌∙◌, arith, lt-ltb}
use Rattle.refusal.specs.Words.{words_past}
use Rattle.refusal.proofs.head_ticks.Ticks.{past_part, part_past}
use Rattle.refusal.proofs.head_ticks.head_past.Goals as goal

pub returns-then-distances-lt9223372036854775808 : goal.returns-then-distances-lt9223372036854775808
returns-then-distances-lt9223372036854775808 c =
    let all = c.distances.ensures c.if-distances-lt9223372036854775808.true in
    rw (lt-ltb _ _ c.if-distances-lt9223372036854775808.true)
    (sym (ap₂ (λ x y. x && y) (past_part c.args.head.now 2 20 0 c.args.banks all (omega arith)) (past_part c.args.head.now 2 20 16 4 all (omega arith))))

pub returns-then-past : goal.returns-then-past
returns-then-past c =
    let words = c.args.head.now in
    let banks = c.past.ensures ∙ part_past words 2 c.args.banks (omega arith) in
    let rank = c.past-then-past.ensures ∙ part_past words 18 4 (omega arith) in
    rank ∙ ap (λ x. x && words_past words 18 4) (sym c.if-past.true ∙ banks)

pub returns-else-past : goal.returns-else-past
returns-else-past c =
    let words = c.args.head.now in
    let banks = c.past.ensures ∙ part_past words 2 c.args.banks (omega arith) in
    c.if-past.false ∙ ap (λ x. x && words_past words 18 4) (sym c.if-past.false ∙ banks)
