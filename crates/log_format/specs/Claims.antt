-- What is proved about the verdict: the statements, as types. Their proofs are in proofs/.
use Rattle.std.specs.Prelude.{◌≡◌, List, [], ◌∷◌, ◌++◌, ℕ, ◌+◌, ◌-◌, ◌*◌, ◌/◌, ◌%◌, ◌^◌, ◌≤◌, ◌<◌, length}
use Rattle.rules.specs.declared.Setting.{Setting}
use Rattle.rules.specs.declared.Limits.{Limits}
use Rattle.rules.specs.declared.Answer.TheVariants.{Opened}
use Rattle.rules.specs.Cells.{All}
use Rattle.rules.specs.Answers.{none, answer_number, answer_wait}
use Rattle.rules.specs.Setting.{setting_of, setting_refusal}
use Rattle.rules.specs.State.{State, fresh}
use Rattle.rules.specs.Policy.{Policy}
use Rattle.rules.specs.Calls.{Call, Reply, refused, answered, finished, shown, setup_refusal, replies, activation_of, activations}
use Rattle.rules.specs.Claims.{UsedFlying}
use Rattle.log_format.specs.declared.Entry.{Entry}
use Rattle.log_format.specs.Bytes.{block_at, blocks_from}
use Rattle.log_format.specs.Refusals.{sound}
use Rattle.log_format.specs.Contents.{count_in, setting_in, seeds_in, call_of, entries_in}
use Rattle.log_format.specs.Blocks.{block_refusal}
use Rattle.log_format.specs.Verdict.{agrees, judged, Running, claims, opened_by, judge_reply, memory, verdict}
use Rattle.log_format.specs.Encode.{written, start_block, start_written, put_record, record_written, put_records, records_block, seal_written, log_bytes_over}

-- ---- what a log says

-- the setting and the seeds of block 0
abbrev pub setting_of_log : List ℕ → Setting
setting_of_log bytes = setting_in (block_at bytes 0)

abbrev pub seeds_of_log : List ℕ → List ℕ
seeds_of_log bytes = seeds_in (block_at bytes 0)

-- the blocks after block 0
abbrev pub later_of : List ℕ → List (List ℕ)
later_of bytes = blocks_from bytes 1 (length bytes / 512 - 1)

-- the records of these blocks, in order
abbrev pub entries_of : List (List ℕ) → List Entry
entries_of [] = []
entries_of (s ∷ ss) = entries_in s ++ entries_of ss

abbrev pub records_of : List ℕ → List Entry
records_of bytes = entries_of (later_of bytes)

-- the calls that records stand for
abbrev pub calls_of : List Entry → List Call
calls_of [] = []
calls_of (e ∷ es) = call_of e ∷ calls_of es

-- ---- what the rules say

-- the rules' replies to the calls of these records, from set-up
abbrev pub rules_say : Policy → Setting → List ℕ → List Entry → List Reply
rules_say p s seeds es = replies p s seeds (fresh s (memory p.limits)) (calls_of es)

-- how many requests of these records the rules open, counted as in demand 3
abbrev pub rules_open : Policy → Setting → List ℕ → List Entry → ℕ
rules_open p s seeds es = length (activations (calls_of es) (rules_say p s seeds es))

-- a record is the rules' decision: not refused, and the answer and the wait tick are those of the rules
abbrev pub Decision : Entry → Reply → Type 0
Decision e (refused r) = ⊥
Decision e (answered a) = (e.answer ≡ answer_number a) × (e.wait ≡ answer_wait a)
Decision e finished = (e.answer ≡ 0) × (e.wait ≡ 0)
Decision e (shown c scale quota) = ⊥

-- every record is
abbrev pub Decided : List Entry → List Reply → Type 0
Decided [] [] = Unit {0}
Decided [] (r ∷ rs) = ⊥
Decided (e ∷ es) [] = ⊥
Decided (e ∷ es) (r ∷ rs) = Decision e r × Decided es rs

-- ---- well-formed logs

-- the blocks from block b on are sound; before is the record count of the block before them
abbrev pub SoundFrom : ℕ → ℕ → List (List ℕ) → Type 0
SoundFrom b before [] = Unit {0}
SoundFrom b before (s ∷ ss) = (block_refusal s b before ≡ sound) × SoundFrom (b + 1) (count_in s) ss

-- block 0 and any number of later blocks, all whole and sound
pub record WellFormed (bytes : List ℕ) : Type 0 where
  pub whole : length bytes % 512 ≡ 0
  pub some : 1 ≤ length bytes / 512
  pub start : block_refusal (block_at bytes 0) 0 0 ≡ sound
  pub later : SoundFrom 1 0 (later_of bytes)

-- a well-formed log of the rules' decisions under an accepted setting
pub record Faithful (p : Policy) (bytes : List ℕ) : Type 0 where
  pub well_formed : WellFormed bytes
  pub accepted : setting_refusal p.limits (setting_of_log bytes) (seeds_of_log bytes) ≡ none
  pub decided : Decided (records_of bytes) (rules_say p (setting_of_log bytes) (seeds_of_log bytes) (records_of bytes))

-- Accepted only if: the verdict `agrees` is given to no other log, and its counts are the true ones.
abbrev pub OnlyIf : Policy → Type 0
OnlyIf p =
    (bytes : List ℕ) (r o : ℕ) → verdict p bytes ≡ judged r o agrees
    → Faithful p bytes
    × (r ≡ length (records_of bytes))
    × (o ≡ rules_open p (setting_of_log bytes) (seeds_of_log bytes) (records_of bytes))

-- Accepted whenever: every such log agrees.
abbrev pub Whenever : Policy → Type 0
Whenever p =
    (bytes : List ℕ) → Faithful p bytes
    → verdict p bytes ≡ judged (length (records_of bytes)) (rules_open p (setting_of_log bytes) (seeds_of_log bytes) (records_of bytes)) agrees

-- ---- the encoder

-- a record that the format can hold: numbers of 64 and 16 bits, bytes, a kind and an answer
pub record Writable (e : Entry) : Type 0 where
  pub tick : e.tick < 2 ^ 64
  pub wait : e.wait < 2 ^ 64
  pub row : e.row < 2 ^ 16
  pub bank : e.bank < 256
  pub thread : e.thread < 256
  pub kind : e.kind ≤ 1
  pub answer : e.answer ≤ 4

-- What the encoder writes is accepted: a log of the rules' decisions under an accepted setting, of any length that block numbers of
-- 32 bits allow, each block written over any 512 bytes, others for each block or the same.
abbrev pub WrittenAgrees : Policy → Type 0
WrittenAgrees p =
    (old : ℕ → List ℕ) (setting seeds : List ℕ) (es : List Entry) → ((b : ℕ) → length (old b) ≡ 512)
    → setting_refusal p.limits (setting_of setting) seeds ≡ none
    → All Writable es → length es ≤ 20 * (2 ^ 32 - 1) → Decided es (rules_say p (setting_of setting) seeds es)
    → verdict p (log_bytes_over old setting seeds es) ≡ judged (length es) (rules_open p (setting_of setting) seeds es) agrees

-- The encoder's calls write the blocks of such a log and refuse none of it: block 0 of an accepted setting, a record that the format can
-- hold, a block of 1 to 20 records under a number of 32 bits.
pub record CallsWrite (m : Limits) : Type 0 where
  pub start : (s setting seeds : List ℕ) → setting_refusal m (setting_of setting) seeds ≡ none → start_written s setting seeds ≡ written 0 (start_block s setting seeds)
  pub put : (s : List ℕ) (k : ℕ) (e : Entry) → k < 20 → Writable e → record_written s k e ≡ written 0 (put_record s k e)
  pub seal : (s : List ℕ) (b : ℕ) (es : List Entry) → 1 ≤ b → b < 2 ^ 32 → 1 ≤ length es → length es ≤ 20
      → seal_written (put_records s 0 es) b (length es) ≡ written 0 (records_block s b es)

-- ---- in any memory

-- the rules' replies to the calls of these records, from set-up in this memory
abbrev pub rules_say_in : Policy → State → Setting → List ℕ → List Entry → List Reply
rules_say_in p before s seeds es = replies p s seeds (fresh s before) (calls_of es)

-- Set-up with the setting and the seeds of the log is not refused in this memory.
abbrev pub Accepts : Policy → State → List ℕ → Type 0
Accepts p before bytes = setup_refusal p.limits (setting_of_log bytes) (seeds_of_log bytes) before ≡ none

-- Accepted only if: in every memory that set-up accepts, every record is the rules' decision, and the count of those opened is the true one.
abbrev pub OnlyIfAnywhere : Policy → Type 0
OnlyIfAnywhere p =
    (bytes : List ℕ) (r o : ℕ) → verdict p bytes ≡ judged r o agrees → (before : State) → Accepts p before bytes
    → let said = rules_say_in p before (setting_of_log bytes) (seeds_of_log bytes) (records_of bytes) in
    Decided (records_of bytes) said × (o ≡ length (activations (calls_of (records_of bytes)) said))

-- Accepted whenever: a well-formed log of the rules' decisions in any memory that set-up accepts agrees.
abbrev pub WheneverAnywhere : Policy → Type 0
WheneverAnywhere p =
    (bytes : List ℕ) → WellFormed bytes → (before : State) → Accepts p before bytes
    → let said = rules_say_in p before (setting_of_log bytes) (seeds_of_log bytes) (records_of bytes) in
    Decided (records_of bytes) said → verdict p bytes ≡ judged (length (records_of bytes)) (length (activations (calls_of (records_of bytes)) said)) agrees

-- ---- openings left (document 02, e)

-- A log does not carry them: whatever number an opened answer has, a record claims it alike, it counts as opened alike, and the record's step is
-- the same.
pub record LeftUnseen : Type 0 where
  pub claimed : (e : Entry) (m n : ℕ) → claims e (answered (Opened m)) ≡ claims e (answered (Opened n))
  pub opened : (m n : ℕ) → opened_by (answered (Opened m)) ≡ opened_by (answered (Opened n))
  pub activation : (c : Call) (m n : ℕ) → activation_of c (answered (Opened m)) ≡ activation_of c (answered (Opened n))
  pub judged : (x : Running) (e : Entry) (st : State) (m n : ℕ) → judge_reply x e (answered (Opened m)) st ≡ judge_reply x e (answered (Opened n)) st

-- ---- all of it

-- For every policy; in any memory for every one whose in flight depends on the used thread counters alone; that the encoder's calls refuse none, for all limits.
pub record Theorems : Type 0 where
  pub only_if : (p : Policy) → OnlyIf p
  pub whenever : (p : Policy) → Whenever p
  pub only_if_anywhere : (p : Policy) → UsedFlying p → OnlyIfAnywhere p
  pub whenever_anywhere : (p : Policy) → UsedFlying p → WheneverAnywhere p
  pub written_agrees : (p : Policy) → WrittenAgrees p
  pub calls_write : (m : Limits) → CallsWrite m
  pub left_unseen : LeftUnseen
