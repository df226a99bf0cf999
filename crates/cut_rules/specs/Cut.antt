-- Document 02, k: "A cut-down log that still differs."
use Rattle.std.specs.Prelude.{List, [], ◌∷◌, Bool, true, false, ◌&&◌, cond, ℕ, ◌+◌, ◌/◌, ◌%◌, leb, ltb, eqb, length}
use Rattle.rules.specs.declared.Limits.{Limits}
use Rattle.rules.specs.Setting.{setting_refusal}
use Rattle.rules.specs.Policy.{Policy}
use Rattle.log_format.specs.declared.Entry.{Entry}
use Rattle.log_format.specs.Bytes.{block_at, blocks_from}
use Rattle.log_format.specs.Refusals.{LogRefusal, model, cut, sound, log_refusal_number}
use Rattle.log_format.specs.Contents.{count_in, setting_in, seeds_in}
use Rattle.log_format.specs.Blocks.{block_refusal}
use Rattle.log_format.specs.Verdict.{agrees, differs, Verdict, refused_after, judged, Step, over, on, and_then, judge_records, judge_start, unread}
use Rattle.log_format.specs.Claims.{records_of}
use Rattle.cut_rules.specs.selections.Selections.{cut_down, chosen, word}

-- ---- "The records come as a log in one lent buffer, its blocks checked in order"

-- "Checked in this order ..; the first is given."
abbrev pub first : LogRefusal → LogRefusal → LogRefusal
first r rest = cond (eqb (log_refusal_number r) 0) rest r

-- the setting of block 0, refusals 1 to 5 and 16; a later block has none
abbrev pub setting_at : Limits → List ℕ → ℕ → LogRefusal
setting_at m s index = cond (eqb index 0) (model (setting_refusal m (setting_in s) (seeds_in s))) sound

-- the blocks from this index on: of each 12 and 13, of block 0 then its setting; at their end "11 input empty or ending within a block".
-- before is the record count of the block before them; whole: nothing is left behind the last.
unfoldable pub blocks_refusal : Limits → ℕ → ℕ → List (List ℕ) → Bool → LogRefusal
blocks_refusal m index before [] whole = cond (whole && leb 1 index) sound cut
blocks_refusal m index before (s ∷ ss) whole =
    first (block_refusal s index before) (first (setting_at m s index) (blocks_refusal m (index + 1) (count_in s) ss whole))

-- all blocks of a log, whatever its records say
unfoldable pub log_refusal : Limits → List ℕ → LogRefusal
log_refusal m bytes = blocks_refusal m 0 0 (blocks_from bytes 0 (length bytes / 512)) (eqb (length bytes % 512) 0)

-- ---- records "that make the checker say `differs`"

-- these records under the setting and the seeds of block 0: set-up, then the checker's judgement of one after the other, up to the first event
unfoldable pub judgement : Policy → List ℕ → List Entry → Step
judgement p start es = and_then (judge_start p (unread p.limits) start) (λ x. judge_records p x es)

-- the checker says `differs`
abbrev pub is_differs : Verdict → Bool
is_differs (refused_after r blocks) = false
is_differs (judged records opened agrees) = false
is_differs (judged records opened (differs block place)) = true

-- "A selection whose first event is a refusal counts as not differing." One without an event agrees.
abbrev pub says_differs : Step → Bool
says_differs (over v) = is_differs v
says_differs (on x) = false

unfoldable pub differing : Policy → List ℕ → List Entry → Bool
differing p start es = says_differs (judgement p start es)

-- a selection of the records of a log
abbrev pub differs_with : Policy → List ℕ → List Bool → Bool
differs_with p bytes sel = differing p (block_at bytes 0) (chosen sel (records_of bytes))

-- ---- the answer

-- a refusal's number, or the selection that stays
pub data Cut : Type 0 where
  refused_with : ℕ → Cut
  keeps : List Bool → Cut

-- "Errors: 20 more than 64 records; 21 records that do not differ; both after 13."
unfoldable pub cut_of : Policy → List ℕ → Cut
cut_of p bytes =
    let r = log_refusal_number (log_refusal p.limits bytes) in
    let n = length (records_of bytes) in
    cond (ltb 0 r) (refused_with r)
    (cond (ltb 64 n) (refused_with 20)
    (cond (differing p (block_at bytes 0) (records_of bytes)) (keeps (cut_down (differs_with p bytes) n)) (refused_with 21)))

-- what the call leaves: the return code, and "a 64-bit number, bit i set exactly if record i, from 0, stays"
abbrev pub code_of : Cut → ℕ
code_of (refused_with n) = n
code_of (keeps sel) = 0

abbrev pub out_of : Cut → List ℕ → List ℕ
out_of (refused_with n) before = before
out_of (keeps sel) before = word sel ∷ []
