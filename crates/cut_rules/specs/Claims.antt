-- What is proved of a log cut down (document 02, k): the statements, as types. Their proofs are in proofs/. That no selection of fewer records differs is not
-- among them: document 02 does not ask for it, and it is not so (`not_fewest` of `selections`).
use Rattle.std.specs.Prelude.{◌≡◌, List, [], ◌∷◌, ◌++◌, Bool, true, not, ℕ, suc, ◌+◌, ◌*◌, ◌/◌, ◌%◌, ◌^◌, ◌≤◌, ◌<◌, T, eqb, length, replicate}
use Rattle.rules.specs.declared.Limits.{Limits}
use Rattle.rules.specs.Answers.{none}
use Rattle.rules.specs.Cells.{All}
use Rattle.rules.specs.Setting.{setting_of, setting_refusal}
use Rattle.rules.specs.Policy.{Policy}
use Rattle.log_format.specs.declared.Entry.{Entry}
use Rattle.log_format.specs.Bytes.{block_at, blocks_from}
use Rattle.log_format.specs.Refusals.{model, cut, sound, log_refusal_number}
use Rattle.log_format.specs.Contents.{count_in}
use Rattle.log_format.specs.Blocks.{block_refusal}
use Rattle.log_format.specs.Verdict.{verdict}
use Rattle.log_format.specs.Encode.{log_bytes_over}
use Rattle.log_format.specs.Claims.{setting_of_log, seeds_of_log, records_of, SoundFrom, WellFormed, Writable}
use Rattle.cut_rules.specs.selections.Selections.{kept, stays, chosen, Repeated, bits}
use Rattle.cut_rules.specs.selections.Claims.{InOrder}
use Rattle.cut_rules.specs.Cut.{log_refusal, is_differs, differing, differs_with, cut_of, code_of, out_of}

-- ---- refusals

-- block 0 and the b blocks after it are sound, and the setting is accepted
pub record Begun (m : Limits) (bytes : List ℕ) (b : ℕ) : Type 0 where
  pub start : block_refusal (block_at bytes 0) 0 0 ≡ sound
  pub accepted : setting_refusal m (setting_of_log bytes) (seeds_of_log bytes) ≡ none
  pub later : SoundFrom 1 0 (blocks_from bytes 1 b)

-- "its blocks checked in order": the refusal of every log that has one, whatever follows the block at fault
pub record InTurn (m : Limits) (bytes : List ℕ) : Type 0 where
  pub empty : length bytes < 512 → log_refusal m bytes ≡ cut
  pub start : 512 ≤ length bytes → (block_refusal (block_at bytes 0) 0 0 ≡ sound → ⊥) → log_refusal m bytes ≡ block_refusal (block_at bytes 0) 0 0
  pub setting : 512 ≤ length bytes → block_refusal (block_at bytes 0) 0 0 ≡ sound → (setting_refusal m (setting_of_log bytes) (seeds_of_log bytes) ≡ none → ⊥)
      → log_refusal m bytes ≡ model (setting_refusal m (setting_of_log bytes) (seeds_of_log bytes))
  pub later : (b : ℕ) → 512 * (b + 2) ≤ length bytes → Begun m bytes b → (block_refusal (block_at bytes (suc b)) (suc b) (count_in (block_at bytes b)) ≡ sound → ⊥)
      → log_refusal m bytes ≡ block_refusal (block_at bytes (suc b)) (suc b) (count_in (block_at bytes b))
  pub ending : (b : ℕ) → 512 * (b + 1) < length bytes → length bytes < 512 * (b + 2) → Begun m bytes b → log_refusal m bytes ≡ cut

abbrev pub BlocksInTurn : Policy → Type 0
BlocksInTurn p = (bytes : List ℕ) → InTurn p.limits bytes

-- well-formed, under an accepted setting: none of the refusals about blocks and setting
pub record Readable (p : Policy) (bytes : List ℕ) : Type 0 where
  pub well_formed : WellFormed bytes
  pub accepted : setting_refusal p.limits (setting_of_log bytes) (seeds_of_log bytes) ≡ none

abbrev pub ReadableExactly : Policy → Type 0
ReadableExactly p =
    (bytes : List ℕ)
    → (log_refusal_number (log_refusal p.limits bytes) ≡ 0 → Readable p bytes)
    × (Readable p bytes → log_refusal_number (log_refusal p.limits bytes) ≡ 0)

-- The return code of every log: the first refusal of its blocks and its setting; "20 more than 64 records; 21 records that do not differ; both after 13";
-- else 0.
pub record Codes (p : Policy) (bytes : List ℕ) : Type 0 where
  pub unreadable : (n : ℕ) → log_refusal_number (log_refusal p.limits bytes) ≡ suc n → code_of (cut_of p bytes) ≡ suc n
  pub many : Readable p bytes → 64 < length (records_of bytes) → code_of (cut_of p bytes) ≡ 20
  pub same : Readable p bytes → length (records_of bytes) ≤ 64 → T (not (is_differs (verdict p bytes))) → code_of (cut_of p bytes) ≡ 21
  pub answered : Readable p bytes → length (records_of bytes) ≤ 64 → T (is_differs (verdict p bytes)) → code_of (cut_of p bytes) ≡ 0

abbrev pub CodesExactly : Policy → Type 0
CodesExactly p = (bytes : List ℕ) → Codes p bytes

-- Where a refusal's number is returned, out is left as it was.
abbrev pub RefusedLeaves : Policy → Type 0
RefusedLeaves p = (bytes before : List ℕ) (n : ℕ) → code_of (cut_of p bytes) ≡ suc n → out_of (cut_of p bytes) before ≡ before

-- ---- the answer

-- the number m is left for the records of this log
pub record Answer (p : Policy) (bytes : List ℕ) (m : ℕ) : Type 0 where
  pub code : code_of (cut_of p bytes) ≡ 0
  pub out : (before : List ℕ) → out_of (cut_of p bytes) before ≡ m ∷ []

-- A number is left wherever 0 is returned.
abbrev pub OneNumber : Policy → Type 0
OneNumber p = (bytes : List ℕ) → code_of (cut_of p bytes) ≡ 0 → (m : ℕ) × Answer p bytes m

-- the selection that it says: "bit i set exactly if record i, from 0, stays"
abbrev pub selected_by : List ℕ → ℕ → List Bool
selected_by bytes m = bits (length (records_of bytes)) m

-- the records that stay
abbrev pub cut_records : List ℕ → ℕ → List Entry
cut_records bytes m = chosen (selected_by bytes m) (records_of bytes)

-- Bit i is set exactly if record i stays, for every i; bits past the records are not set; the number is not 0 and fits in 64 bits.
abbrev pub BitsSay : Policy → Type 0
BitsSay p =
    (bytes : List ℕ) (m : ℕ) → Answer p bytes m
    → ((i : ℕ) → eqb (m / 2 ^ i % 2) 1 ≡ stays (selected_by bytes m) i)
    × (1 ≤ m)
    × (m < 2 ^ 64)

-- "repeat whole passes until one removes none; that selection is the result": k passes remove records, the next one removes none, and k is no more than the
-- records left out; no other selection is come to.
abbrev pub PassesEnd : Policy → Type 0
PassesEnd p =
    (bytes : List ℕ) (m : ℕ) → Answer p bytes m
    → let n = length (records_of bytes) in
    ((k : ℕ) × (k + kept (selected_by bytes m) ≤ n) × Repeated (differs_with p bytes) k (replicate n true) (selected_by bytes m))
    × ((k : ℕ) (r : List Bool) → Repeated (differs_with p bytes) k (replicate n true) r → r ≡ selected_by bytes m)

-- "a selection in their old order"
abbrev pub OldOrder : Policy → Type 0
OldOrder p = (bytes : List ℕ) (m : ℕ) → Answer p bytes m → InOrder (cut_records bytes m) (records_of bytes)

-- ---- as logs

-- another log under the setting and the seeds of this one, with these records
pub record LogOf (bytes : List ℕ) (es : List Entry) (other : List ℕ) : Type 0 where
  pub well_formed : WellFormed other
  pub setting : setting_of_log other ≡ setting_of_log bytes
  pub seeds : seeds_of_log other ≡ seeds_of_log bytes
  pub records : records_of other ≡ es

-- "records that make the checker say `differs`": whether records differ, of this log or of a selection, is what the checker's verdict of every log of them says
abbrev pub CheckerSays : Policy → Type 0
CheckerSays p = (bytes : List ℕ) (es : List Entry) (other : List ℕ) → LogOf bytes es other → differing p (block_at bytes 0) es ≡ is_differs (verdict p other)

-- "give a selection .. that still does": of every log of these records the checker says `differs`
abbrev pub StillDiffers : Policy → Type 0
StillDiffers p = (bytes : List ℕ) (m : ℕ) → Answer p bytes m → (other : List ℕ) → LogOf bytes (cut_records bytes m) other → T (is_differs (verdict p other))

-- "such that leaving out any single record of it no longer does": wherever the record stands among them
abbrev pub EachNeeded : Policy → Type 0
EachNeeded p =
    (bytes : List ℕ) (m : ℕ) → Answer p bytes m → (front back : List Entry) (e : Entry) → cut_records bytes m ≡ front ++ (e ∷ back)
    → (other : List ℕ) → LogOf bytes (front ++ back) other → T (not (is_differs (verdict p other)))

-- There are such logs: what the encoder writes of records that the format can hold, with the ten words of the setting.
abbrev pub Written : Policy → Type 0
Written p =
    (bytes : List ℕ) (old : ℕ → List ℕ) (setting : List ℕ) (es : List Entry) → Readable p bytes → setting_of setting ≡ setting_of_log bytes
    → ((b : ℕ) → length (old b) ≡ 512) → All Writable es → length es ≤ 64
    → LogOf bytes es (log_bytes_over old setting (seeds_of_log bytes) es)

-- So there is one of every selection of the records of a log of bytes.
abbrev pub SelectionsWritten : Policy → Type 0
SelectionsWritten p =
    (bytes : List ℕ) (sel : List Bool) → Readable p bytes → All (λ b. b < 256) bytes → length (records_of bytes) ≤ 64
    → (other : List ℕ) × LogOf bytes (chosen sel (records_of bytes)) other

-- ---- all of it

pub record Theorems : Type 0 where
  pub blocks_in_turn : (p : Policy) → BlocksInTurn p
  pub readable_exactly : (p : Policy) → ReadableExactly p
  pub codes_exactly : (p : Policy) → CodesExactly p
  pub refused_leaves : (p : Policy) → RefusedLeaves p
  pub one_number : (p : Policy) → OneNumber p
  pub bits_say : (p : Policy) → BitsSay p
  pub passes_end : (p : Policy) → PassesEnd p
  pub old_order : (p : Policy) → OldOrder p
  pub checker_says : (p : Policy) → CheckerSays p
  pub still_differs : (p : Policy) → StillDiffers p
  pub each_needed : (p : Policy) → EachNeeded p
  pub written : (p : Policy) → Written p
  pub selections_written : (p : Policy) → SelectionsWritten p
