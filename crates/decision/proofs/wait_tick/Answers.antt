-- `wait_tick` is the closed form, case by case.
use borrow.Author.Tests.{lt-ltb, le-ltb, le-leb, lt-leb}
use Rattle.rules.specs.Claims.{closed_tick}
use Rattle.decision.proofs.wait_tick.Goals as goal

pub returns-then-v-gaps : goal.returns-then-v-gaps
unfolding closed_tick
returns-then-v-gaps c = simp (le-leb _ _ c.if-v-gaps.true)

pub returns-then-v-s : goal.returns-then-v-s
unfolding closed_tick
returns-then-v-s c = simp (lt-leb _ _ c.if-v-gaps.false, lt-ltb _ _ c.if-gaps-v.true, lt-ltb _ _ c.if-v-s.true)

pub returns-then-v-s-2 : goal.returns-then-v-s-2
unfolding closed_tick
returns-then-v-s-2 c = simp (lt-leb _ _ c.if-v-gaps.false, lt-ltb _ _ c.if-gaps-v.true, le-ltb _ _ c.if-v-s.false, lt-ltb _ _ c.if-v-s-2.true, c.min.ensures)

pub returns-then-gaps-v : goal.returns-then-gaps-v
unfolding closed_tick
returns-then-gaps-v c = simp (lt-leb _ _ c.if-v-gaps.false, lt-ltb _ _ c.if-gaps-v.true, le-ltb _ _ c.if-v-s.false, le-ltb _ _ c.if-v-s-2.false)

pub returns-then-v-s-3 : goal.returns-then-v-s-3
unfolding closed_tick
returns-then-v-s-3 c = simp (lt-leb _ _ c.if-v-gaps.false, le-ltb _ _ c.if-gaps-v.false, lt-ltb _ _ c.if-v-s-3.true)

pub returns-else-v-s-3 : goal.returns-else-v-s-3
unfolding closed_tick
returns-else-v-s-3 c = simp (lt-leb _ _ c.if-v-gaps.false, le-ltb _ _ c.if-gaps-v.false, le-ltb _ _ c.if-v-s-3.false)
