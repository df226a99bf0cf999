-- The two sums of a block and its layout: refusals 12 and 13.
use Rattle.std.specs.Prelude.{List, Bool, not, ◌&&◌, ◌||◌, cond, ℕ, zero, suc, ◌+◌, ◌-◌, ◌*◌, ◌%◌, leb, eqb, get_or}
use Rattle.rules.specs.Cells.{between, every}
use Rattle.rules.specs.Setting.{known}
use Rattle.log_format.specs.Bytes.{little, zeros}
use Rattle.log_format.specs.Refusals.{LogRefusal, wrong_check, bad_contents, sound, refuse_log}
use Rattle.log_format.specs.Contents.{count_in, mark_in, record_at}

-- the sum of the first n bytes
unfoldable pub sum_to : List ℕ → ℕ → ℕ
sum_to s zero = 0
sum_to s (suc n) = sum_to s n + get_or s n 0

-- the sum of (place + 1) × byte over the first n places
unfoldable pub weighted_to : List ℕ → ℕ → ℕ
weighted_to s zero = 0
weighted_to s (suc n) = weighted_to s n + (n + 1) * get_or s n 0

-- "508–509 the sum of bytes 0–507 modulo 65,521; 510–511 the sum of (place + 1) × byte over the same places, modulo 65,521"
unfoldable pub checked : List ℕ → Bool
checked s = eqb (little s 508 2) (sum_to s 508 % 65521) && eqb (little s 510 2) (weighted_to s 508 % 65521)

-- "Block 0 has count 0, the nine numbers of the setting .., 64 seeds ..", a mark that a profile has ("Any other mark is .. 13 in a log"), "then zeros."
unfoldable pub start_laid_out : List ℕ → Bool
start_laid_out s = eqb (count_in s) 0 && known (mark_in s) && zeros s 173 335

-- "A kind above 1 or an answer above 4 is 13"; ".. two zeros."
unfoldable pub record_laid_out : List ℕ → ℕ → Bool
record_laid_out s k = leb (get_or s (record_at k + 20) 0) 1 && leb (get_or s (record_at k + 21) 0) 4 && zeros s (record_at k + 22) 2

-- "Later blocks have 1 to 20 records of 24 bytes, .., and zeros after."
unfoldable pub records_laid_out : List ℕ → Bool
records_laid_out s =
    between 1 20 (count_in s) && every (count_in s) (λ k. record_laid_out s k) && zeros s (record_at (count_in s)) (500 - 24 * count_in s)

-- "all but the last block 20". "A block after block 1 that follows one of fewer than 20 records is itself the faulty one."
-- before is the record count of the block before it.
unfoldable pub in_turn : ℕ → ℕ → Bool
in_turn index before = leb index 1 || leb 20 before

-- "Bytes 0–3 block number from 0; 4 record count; 5–7 zero; 8–507 body". A block of index 2^32 or more has no such number.
unfoldable pub laid_out : List ℕ → ℕ → ℕ → Bool
laid_out s index before =
    eqb (little s 0 4) index && zeros s 5 3 && cond (eqb index 0) (start_laid_out s) (in_turn index before && records_laid_out s)

-- "12 block check wrong. 13 block contents." "Anything against this layout is 13."
unfoldable pub block_refusal : List ℕ → ℕ → ℕ → LogRefusal
block_refusal s index before = refuse_log (not (checked s)) wrong_check (refuse_log (not (laid_out s index before)) bad_contents sound)
