-- `decide` tests the rules in their order.
use borrow.Author.Tests.{lt-ltb, le-ltb, le-leb, lt-leb}
use Rattle.decision.specs.Numbers.{decide_from}
use Rattle.decision.proofs.Laws.{decide_tests}
use Rattle.decision.proofs.decide.Goals as goal

pub returns-then-v : goal.returns-then-v
unfolding decide_from
returns-then-v c = simp (le-ltb _ _ c.if-v.true)

pub returns-then-t-bank : goal.returns-then-t-bank
returns-then-t-bank c =
    rw (decide_tests c.args.s c.args.t c.args.v c.gap_end-bank.ensures.0 c.gap_end-rank.ensures.0 c.max.ensures c.max-gaps.ensures c.wait_tick-until.ensures, lt-ltb _ _ c.if-v.false, lt-leb _ _ c.if-t-bank.true)

pub returns-then-t-rank : goal.returns-then-t-rank
returns-then-t-rank c =
    rw (decide_tests c.args.s c.args.t c.args.v c.gap_end-bank.ensures.0 c.gap_end-rank.ensures.0 c.max.ensures c.max-gaps.ensures c.wait_tick-until.ensures, lt-ltb _ _ c.if-v.false, le-leb _ _ c.if-t-bank.false, lt-leb _ _ c.if-t-rank.true)

pub returns-then-v-s : goal.returns-then-v-s
returns-then-v-s c =
    rw (decide_tests c.args.s c.args.t c.args.v c.gap_end-bank.ensures.0 c.gap_end-rank.ensures.0 c.max.ensures c.max-gaps.ensures c.wait_tick-until.ensures, lt-ltb _ _ c.if-v.false, le-leb _ _ c.if-t-bank.false, le-leb _ _ c.if-t-rank.false, lt-ltb _ _ c.if-v-s.true)

pub returns-then-v-t : goal.returns-then-v-t
returns-then-v-t c =
    rw (decide_tests c.args.s c.args.t c.args.v c.gap_end-bank.ensures.0 c.gap_end-rank.ensures.0 c.max.ensures c.max-gaps.ensures c.wait_tick-until.ensures, lt-ltb _ _ c.if-v.false, le-leb _ _ c.if-t-bank.false, le-leb _ _ c.if-t-rank.false, le-ltb _ _ c.if-v-s.false, le-leb _ _ c.if-v-t.true)

pub returns : goal.returns
returns c =
    rw (decide_tests c.args.s c.args.t c.args.v c.gap_end-bank.ensures.0 c.gap_end-rank.ensures.0 c.max.ensures c.max-gaps.ensures c.wait_tick-until.ensures, lt-ltb _ _ c.if-v.false, le-leb _ _ c.if-t-bank.false, le-leb _ _ c.if-t-rank.false, le-ltb _ _ c.if-v-s.false, lt-leb _ _ c.if-v-t.false)
