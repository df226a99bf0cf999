-- The step from how a block was filled to the end of the log, or to the next block.
use Rattle.std.specs.Prelude.{List, true, false, ℕ}
use Rattle.rules.specs.Policy.{narrow}
use Rattle.log_format.specs.Verdict.{Running, Step, over, ended, judge_block}
use Rattle.check_log.specs.declared.input.Filled.{Filled}
use Rattle.check_log.specs.declared.input.Filled.TheVariants.{Whole, End, Cut}

-- a whole block is judged by the rules in force; an input at its end and one that is cut have the verdicts of the log's definition
abbrev pub judge_filled : Filled → Running → List ℕ → Step
judge_filled Whole x block = judge_block narrow x block
judge_filled End x block = over (ended x.progress true)
judge_filled Cut x block = over (ended x.progress false)
