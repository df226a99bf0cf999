-- The verdict of a whole log: a fold over its blocks, and over the records of a block, that stops at the first event.
use Rattle.std.specs.Prelude.{List, [], ◌∷◌, Bool, true, false, ◌&&◌, cond, ℕ, ◌+◌, ◌/◌, ◌%◌, eqb, length, replicate}
use Rattle.rules.specs.declared.Setting.{Setting}
use Rattle.rules.specs.declared.Limits.{Limits}
use Rattle.rules.specs.declared.Answer.TheVariants.{Opened, Wait, Quota}
use Rattle.rules.specs.Answers.{Refusal, refusal_number, answer_number, answer_wait}
use Rattle.rules.specs.State.{State, fresh_head, fresh}
use Rattle.rules.specs.Policy.{Policy}
use Rattle.rules.specs.Calls.{Reply, refused, answered, finished, shown, setup_refusal, step}
use Rattle.log_format.specs.declared.Entry.{Entry}
use Rattle.log_format.specs.Bytes.{blocks_from}
use Rattle.log_format.specs.Refusals.{LogRefusal, model, cut, log_refusal_number}
use Rattle.log_format.specs.Contents.{setting_in, seeds_in, call_of, entries_in}
use Rattle.log_format.specs.Blocks.{block_refusal}

-- "then `agrees`, or `differs` with block number (from 0) and record place in it (from 1)"
pub data Ending : Type 0 where
  agrees : Ending
  differs : (block place : ℕ) → Ending

-- "`refused`, its number and the count of whole blocks read before the one at fault. Otherwise .. the count judged, .. the count opened"
pub data Verdict : Type 0 where
  refused_after : LogRefusal → (blocks : ℕ) → Verdict
  judged : (records opened : ℕ) → Ending → Verdict

-- how far the log is read: whole blocks, records judged, records that the rules open, records of the last block
pub record Progress : Type 0 where
  pub blocks : ℕ
  pub records : ℕ
  pub opened : ℕ
  pub last : ℕ

-- the progress, and the model: the setting and the seeds of block 0 and the state that the records so far leave
pub record Running : Type 0 where
  pub progress : Progress
  pub setting : Setting
  pub seeds : List ℕ
  pub state : State

-- a step ends with a verdict, or the log goes on
pub data Step : Type 0 where
  over : Verdict → Step
  on : Running → Step

-- ---- a record

-- the answer and the wait tick of the rules: "0 opened or done"
abbrev pub reply_number : Reply → ℕ
reply_number (refused r) = 0
reply_number (answered a) = answer_number a
reply_number finished = 0
reply_number (shown c scale quota) = 0

abbrev pub reply_wait : Reply → ℕ
reply_wait (refused r) = 0
reply_wait (answered a) = answer_wait a
reply_wait finished = 0
reply_wait (shown c scale quota) = 0

-- "a done whose answer or wait tick is not 0 differs": a record agrees if both are those of the rules
unfoldable pub claims : Entry → Reply → Bool
claims e r = eqb e.answer (reply_number r) && eqb e.wait (reply_wait r)

-- 1 for a request that the rules open
abbrev pub opened_by : Reply → ℕ
opened_by (refused r) = 0
opened_by (answered (Opened left)) = 1
opened_by (answered (Wait c u)) = 0
opened_by (answered Quota) = 0
opened_by finished = 0
opened_by (shown c scale quota) = 0

-- one record more: "the differing record is counted in the first line, and in the second if the rules open it"
abbrev pub counted : Running → Reply → State → Running
counted x r st =
    record {
      progress = record { blocks = x.progress.blocks; records = x.progress.records + 1; opened = x.progress.opened + opened_by r; last = x.progress.last + 1 };
      setting = x.setting;
      seeds = x.seeds;
      state = st;
    }

-- the log stands with these counts; a record differs at this block, at the place of the last record counted
abbrev pub differs_here : Running → Verdict
differs_here x = judged x.progress.records x.progress.opened (differs x.progress.blocks x.progress.last)

-- a record against the rules' reply. "A record that the model refuses is a refusal, whatever its answer and wait tick."
abbrev pub judge_reply : Running → Entry → Reply → State → Step
judge_reply x e (refused r) st = over (refused_after (model r) x.progress.blocks)
judge_reply x e (answered a) st = cond (claims e (answered a)) (on (counted x (answered a) st)) (over (differs_here (counted x (answered a) st)))
judge_reply x e finished st = cond (claims e finished) (on (counted x finished st)) (over (differs_here (counted x finished st)))
judge_reply x e (shown c scale quota) st = over (differs_here (counted x (shown c scale quota) st))

unfoldable pub judge_record : Policy → Running → Entry → Step
judge_record p x e =
    let o = step p x.setting x.seeds x.state (call_of e) in
    judge_reply x e o.reply o.state

-- what comes next, unless the step ended the log
abbrev pub and_then : Step → (Running → Step) → Step
and_then (over v) f = over v
and_then (on x) f = f x

-- "its records one by one"
unfoldable pub judge_records : Policy → Running → List Entry → Step
judge_records p x [] = on x
judge_records p x (e ∷ es) = and_then (judge_record p x e) (λ y. judge_records p y es)

-- ---- a block

-- Memory for the largest setting of these limits. Set-up clears the part that a setting uses, and no call touches the rest.
unfoldable pub memory : Limits → State
memory m =
    record {
      head = fresh_head;
      counters = replicate 32768 0;
      ticks = replicate m.history 0;
      rows = replicate m.history 0;
      threads = replicate 1536 0;
    }

-- one more whole block
abbrev pub next_block : Running → Running
next_block x =
    record {
      progress = record { blocks = x.progress.blocks + 1; records = x.progress.records; opened = x.progress.opened; last = x.progress.last };
      setting = x.setting;
      seeds = x.seeds;
      state = x.state;
    }

-- a new block, of whose records none is counted yet
abbrev pub none_counted : Running → Running
none_counted x =
    record {
      progress = record { blocks = x.progress.blocks; records = x.progress.records; opened = x.progress.opened; last = 0 };
      setting = x.setting;
      seeds = x.seeds;
      state = x.state;
    }

-- a model that was set up in this memory, before the first record
abbrev pub set_up : Setting → List ℕ → State → Running
set_up s seeds st =
    record {
      progress = record { blocks = 1; records = 0; opened = 0; last = 0 };
      setting = s;
      seeds = seeds;
      state = fresh s st;
    }

-- a refusal of the model ends the log after so many whole blocks, or the log goes on
abbrev pub unless_refused_by : Refusal → ℕ → Running → Step
unless_refused_by r blocks x = cond (eqb (refusal_number r) 0) (on x) (over (refused_after (model r) blocks))

-- block 0: set-up with its setting and seeds, refusals 1 to 5 and 16
unfoldable pub judge_start : Policy → Running → List ℕ → Step
judge_start p x s =
    unless_refused_by (setup_refusal p.limits (setting_in s) (seeds_in s) x.state) 0 (set_up (setting_in s) (seeds_in s) x.state)

-- a later block: its records
unfoldable pub judge_later : Policy → Running → List ℕ → Step
judge_later p x s = and_then (judge_records p (none_counted x) (entries_in s)) (λ y. on (next_block y))

-- "judges a block's setting or records after the whole block is found sound"
unfoldable pub judge_sound : Policy → Running → List ℕ → Step
judge_sound p x s = cond (eqb x.progress.blocks 0) (judge_start p x s) (judge_later p x s)

unfoldable pub judge_block : Policy → Running → List ℕ → Step
judge_block p x s =
    let r = block_refusal s x.progress.blocks x.progress.last in
    cond (eqb (log_refusal_number r) 0) (judge_sound p x s) (over (refused_after r x.progress.blocks))

-- ---- the log

-- the end of the input: "11 input empty or ending within a block", else every record agreed
abbrev pub ended : Progress → Bool → Verdict
ended p false = refused_after cut p.blocks
ended p true = cond (eqb p.blocks 0) (refused_after cut 0) (judged p.records p.opened agrees)

-- the verdict that a step gave, or what the rest of the log gives
abbrev pub verdict_of : Step → (Running → Verdict) → Verdict
verdict_of (over v) f = v
verdict_of (on x) f = f x

-- "It stops at the first event." whole: nothing is left behind the last block
unfoldable pub judge_blocks : Policy → Running → List (List ℕ) → Bool → Verdict
judge_blocks p x [] whole = ended x.progress whole
judge_blocks p x (s ∷ ss) whole = verdict_of (judge_block p x s) (λ y. judge_blocks p y ss whole)

-- before the first block; the setting and the seeds are not looked at
unfoldable pub unread : Limits → Running
unread m =
    record {
      progress = record { blocks = 0; records = 0; opened = 0; last = 0 };
      setting = setting_in [];
      seeds = [];
      state = memory m;
    }

-- the verdict of a log by the rules of a policy, for every list of bytes
unfoldable pub verdict : Policy → List ℕ → Verdict
verdict p bytes = judge_blocks p (unread p.limits) (blocks_from bytes 0 (length bytes / 512)) (eqb (length bytes % 512) 0)
