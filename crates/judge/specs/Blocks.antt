-- What stands between two blocks of a log.
use Rattle.std.specs.Prelude.{◌≡◌, List, ℕ, ◌+◌, ◌*◌, ◌^◌, ◌≤◌, Result, IfOk}
use Rattle.rules.specs.Answers.{none}
use Rattle.rules.specs.Setting.{setting_refusal}
use Rattle.rules.specs.Policy.{limits01}
use Rattle.rules.specs.Tested.{Sound}
use Rattle.rules.specs.State.{state}
use Rattle.sound.specs.declared.buffers.Buffers.{Buffers}
use Rattle.sound.specs.Held.{held}
use Rattle.hash_rules.specs.Words.{TableFor}
use Rattle.log_format.specs.Verdict.{Running, Step}
use Rattle.tally.specs.declared.Report.{Report}
use Rattle.judge.specs.declared.reading.Reading.{Reading}
use Rattle.judge.specs.Follow.{running, result_of}

-- a log that is read so far, with the four buffers of its model
abbrev pub read_so_far : Reading → List ℕ → List ℕ → List ℕ → List ℕ → Running
read_so_far x counters ticks rows threads = running x.progress x.setting x.seeds (state x.head counters ticks rows threads)

-- the same with the buffers in one struct
abbrev pub read_in : Reading → Buffers ℕ → Running
read_in x m = running x.progress x.setting x.seeds (held x.head m)

-- what is carried of block 0's seeds: the table is used only if they are the house seeds
abbrev pub Carried : Reading → Type 0
Carried x = TableFor x.table x.seeds

-- what the next block can count on: after block 0 the setting is accepted and the state passes the tests of 6 and 7; before it the memory may
-- be any. A block has at most 20 records, and a number of 32 bits.
pub record Ready (x : Running) : Type 0 where
  pub blocks : x.progress.blocks ≤ 2 ^ 32
  pub records : x.progress.records ≤ 20 * x.progress.blocks
  pub opened : x.progress.opened ≤ 20 * x.progress.blocks
  pub model : 1 ≤ x.progress.blocks → (setting_refusal limits01 x.setting x.seeds ≡ none) × Sound x.setting x.state

-- a block after so many others is judged: the step of the definition; where the log goes on, one block more is read and the next can be judged
pub record JudgedBlock (blocks : ℕ) (r : Result Running Report) (y : Step) : Type 0 where
  pub follows : r ≡ result_of y
  pub ready : IfOk r Ready
  pub moved : IfOk r (λ x. x.progress.blocks ≡ blocks + 1)
