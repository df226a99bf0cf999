-- `memory_ok` makes the tests of refusal 7 in their order.
use Rattle.std.proofs.Common.{T, subst, sym, refl, ◌∙◌, le-ltb, lt-ltb}
use Rattle.refusal.proofs.memory.Heads.{memory_tested}
use Rattle.refusal.proofs.memory.memory_ok.Goals as goal
use Rattle.refusal.proofs.memory.memory_ok.Goals.{then-next-places, else-next-places}

pub returns-then-head_past : goal.returns-then-head_past
returns-then-head_past c =
    elim c.if-next-places.branch [
      | then-next-places w ↦
          sym (memory_tested c.args.s c.args.head.now c.args.ticks.now c.args.places w.head_past.result _ c.requires.0 c.requires.1 w.head_past.ensures c.steady.ensures
          ∙ simp (lt-ltb _ _ w.if-next-places.true, sym w.value-is ∙ c.if-head_past.true))
      | else-next-places w ↦ absurd (subst T (sym c.if-head_past.true ∙ w.value-is ∙ le-ltb _ _ w.if-next-places.false) tt)
    ]

pub returns-else-head_past : goal.returns-else-head_past
returns-else-head_past c =
    c.if-head_past.false
    ∙ elim c.if-next-places.branch [
      | then-next-places w ↦
          sym (memory_tested c.args.s c.args.head.now c.args.ticks.now c.args.places w.head_past.result _ c.requires.0 c.requires.1 w.head_past.ensures refl
          ∙ simp (lt-ltb _ _ w.if-next-places.true, sym w.value-is ∙ c.if-head_past.false))
      | else-next-places w ↦
          sym (memory_tested c.args.s c.args.head.now c.args.ticks.now c.args.places _ _ c.requires.0 c.requires.1 refl refl ∙ simp (le-ltb _ _ w.if-next-places.false))
    ]
