-- For callers that go over a log by loops: the verdict's folds by index, and what a sound block gives them.
use mathlib.Core.Path.{◌≡◌, refl}
use mathlib.Core.List.{List}
use mathlib.Core.Bool.{Bool, true, false, not, ◌&&◌}
use Prim.Native.Nat.{ℕ, zero, suc, ◌+◌, ◌-◌, ◌≤◌, ◌<◌}
use native.Mathlib.Omega.{arith}
use native.Mathlib.Numerals.{add-one}
use lib.Dec.{T, eqb, eqb→eq, leb→le}
use borrow.Author.Tests.{ne_eqb}
use Rattle.rules.proofs.Tests.{and_l, and_r, holds}
use Rattle.log_format.specs.Bytes.{little, zeros, block_at, blocks_from}
use Rattle.log_format.specs.Refusals.{LogRefusal, wrong_check, bad_contents, sound, log_refusal_number, refuse_log}
use Rattle.log_format.specs.Contents.{count_in, entry_in, entries_from}
use Rattle.log_format.specs.Blocks.{checked, records_laid_out, in_turn, laid_out, block_refusal}
use Rattle.log_format.specs.Verdict.{Running, and_then, judge_record, judge_records, verdict_of, judge_block, judge_blocks}
use Rattle.rules.specs.Policy.{Policy}

-- ---- one more record, one more block

pub records_step : (p : Policy) (x : Running) (s : List ℕ) (k n : ℕ) → 0 < n
    → judge_records p x (entries_from s k n) ≡ and_then (judge_record p x (entry_in s k)) (λ (y : Running). judge_records p y (entries_from s (k + 1) (n - 1)))
unfolding judge_records
records_step p x s k zero h = absurd (omega arith)
records_step p x s k (suc n) h =
    let e : suc n - 1 ≡ n = omega arith in
    simp (add-one k, e)

pub blocks_step : (p : Policy) (x : Running) (bytes : List ℕ) (b n : ℕ) (whole : Bool) → 0 < n
    → judge_blocks p x (blocks_from bytes b n) whole ≡ verdict_of (judge_block p x (block_at bytes b)) (λ (y : Running). judge_blocks p y (blocks_from bytes (b + 1) (n - 1)) whole)
unfolding judge_blocks
blocks_step p x bytes b zero whole h = absurd (omega arith)
blocks_step p x bytes b (suc n) whole h =
    let e : suc n - 1 ≡ n = omega arith in
    simp (add-one b, e)

-- ---- a sound block

refuse_sound : (b : Bool) (r rest : LogRefusal) → 0 < log_refusal_number r → log_refusal_number (refuse_log (not b) r rest) ≡ 0 → (b ≡ true) × (log_refusal_number rest ≡ 0)
refuse_sound true r rest h e = (refl, e)
refuse_sound false r rest h e = absurd (omega arith)

-- a block that is not refused is laid out
pub sound_laid_out : (s : List ℕ) (index before : ℕ) → log_refusal_number (block_refusal s index before) ≡ 0 → laid_out s index before ≡ true
unfolding block_refusal
sound_laid_out s index before e =
    let r = refuse_sound (checked s) wrong_check (refuse_log (not (laid_out s index before)) bad_contents sound) (omega arith) e in
    (refuse_sound (laid_out s index before) bad_contents sound (omega arith) r.1).0

-- its number is its index
pub laid_out_number : (s : List ℕ) (index before : ℕ) → laid_out s index before ≡ true → little s 0 4 ≡ index
unfolding laid_out
laid_out_number s index before e =
    let t : T (laid_out s index before) = holds (laid_out s index before) e in
    eqb→eq (little s 0 4) index (search (and_l, and_r) depth 20)

later_body : (s : List ℕ) (index before : ℕ) → 1 ≤ index → laid_out s index before ≡ true → T (records_laid_out s)
unfolding laid_out
later_body s index before h e =
    let n : index ≡ 0 → ⊥ = λ z. omega arith in
    let t : T (eqb (little s 0 4) index && zeros s 5 3 && (in_turn index before && records_laid_out s)) = holds _ (rw (ne_eqb index 0 n) at e) in
    and_r (in_turn index before) (records_laid_out s) (and_r (eqb (little s 0 4) index && zeros s 5 3) (in_turn index before && records_laid_out s) t)

-- a later block has 1 to 20 records
pub later_count : (s : List ℕ) (index before : ℕ) → 1 ≤ index → laid_out s index before ≡ true → (1 ≤ count_in s) × (count_in s ≤ 20)
unfolding records_laid_out
later_count s index before h e =
    let t : T (records_laid_out s) = later_body s index before h e in
    (leb→le 1 (count_in s) (search (and_l, and_r) depth 20), leb→le (count_in s) 20 (search (and_l, and_r) depth 20))
