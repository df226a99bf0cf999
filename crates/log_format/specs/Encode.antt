-- How a log is written: the bytes of a setting, of the seeds and of a record, and what each call of the encoder leaves in a block.
use Rattle.std.specs.Prelude.{List, [], ◌∷◌, ◌++◌, Bool, ◌&&◌, cond, ℕ, zero, suc, ◌-◌, ◌%◌, ◌^◌, leb, ltb, eqb, length, get_or, take, drop, replicate}
use Rattle.std.proofs.lemmas.List.Edits.{sets}
use Rattle.rules.specs.Cells.{between, every}
use Rattle.rules.specs.Setting.{known}
use Rattle.log_format.specs.declared.Entry.{Entry}
use Rattle.log_format.specs.Bytes.{bytes_of}
use Rattle.log_format.specs.Contents.{record_at}
use Rattle.log_format.specs.Blocks.{sum_to, weighted_to}

-- what a call of the encoder gives back: 0 or the refusal's number, and the block
pub record Written : Type 0 where
  pub code : ℕ
  pub block : List ℕ

abbrev pub written : ℕ → List ℕ → Written
written code block = record { code = code; block = block }

-- what is refused leaves the block as it was
abbrev pub written_if : Bool → ℕ → List ℕ → List ℕ → Written
written_if ok code new old = cond ok (written 0 new) (written code old)

-- ---- a record

-- "tick (8), wait tick (8), row (2), bank (1), thread (1), kind (1 ..), answer (1 ..), two zeros"
unfoldable pub record_bytes : Entry → List ℕ
record_bytes e =
    bytes_of 8 e.tick
    ++ (bytes_of 8 e.wait
    ++ (bytes_of 2 e.row
    ++ (bytes_of 1 e.bank ++ (bytes_of 1 e.thread ++ (bytes_of 1 e.kind ++ (bytes_of 1 e.answer ++ bytes_of 2 0))))))

-- the block with a record at place k
unfoldable pub put_record : List ℕ → ℕ → Entry → List ℕ
put_record s k e = sets s (record_at k) (record_bytes e)

-- what the format can hold at place k
unfoldable pub record_fits : ℕ → Entry → Bool
record_fits k e = ltb k 20 && ltb e.bank 256 && ltb e.thread 256 && leb e.kind 1 && leb e.answer 4

-- a record put into a block, or 13 where it cannot be written
unfoldable pub record_written : List ℕ → ℕ → Entry → Written
record_written s k e = written_if (record_fits k e) 13 (put_record s k e) s

-- ---- the frame of a block

-- the block number, the record count and three zeros
unfoldable pub headed : List ℕ → ℕ → ℕ → List ℕ
headed s number count = sets s 0 (bytes_of 4 number ++ (bytes_of 1 count ++ bytes_of 3 0))

-- zeros from place k to the end of the body
unfoldable pub padded : List ℕ → ℕ → List ℕ
padded s k = sets s k (replicate (508 - k) 0)

-- the two sums
unfoldable pub summed : List ℕ → List ℕ
summed s = sets s 508 (bytes_of 2 (sum_to s 508 % 65521) ++ bytes_of 2 (weighted_to s 508 % 65521))

-- a block whose body ends at place k
unfoldable pub framed : List ℕ → ℕ → ℕ → ℕ → List ℕ
framed s number count k = summed (padded (headed s number count) k)

-- a block of records, whose number fits 32 bits and is not 0
unfoldable pub seal_fits : ℕ → ℕ → Bool
seal_fits number count = between 1 4294967295 number && between 1 20 count

unfoldable pub seal_written : List ℕ → ℕ → ℕ → Written
seal_written s number count = written_if (seal_fits number count) 13 (framed s number count (record_at count)) s

-- ---- block 0

-- the m numbers of a list from number i on, n bytes each
unfoldable pub numbers_bytes : ℕ → List ℕ → ℕ → ℕ → List ℕ
numbers_bytes n xs i zero = []
numbers_bytes n xs i (suc m) = bytes_of n (get_or xs i 0) ++ numbers_bytes n xs (suc i) m

-- a setting of nine numbers of 32 bits and a mark that a profile has, and 64 seeds
unfoldable pub start_fits : List ℕ → List ℕ → Bool
start_fits setting seeds = every 9 (λ i. ltb (get_or setting i 0) (2 ^ 32)) && known (get_or setting 9 0) && eqb (length seeds) 64

-- the block with the setting, the seeds and the mark in its body
unfoldable pub put_start : List ℕ → List ℕ → List ℕ → List ℕ
put_start s setting seeds = sets (sets (sets s 8 (numbers_bytes 4 setting 0 9)) 44 (numbers_bytes 2 seeds 0 64)) 172 (bytes_of 1 (get_or setting 9 0))

-- block 0, written into a block s
unfoldable pub start_block : List ℕ → List ℕ → List ℕ → List ℕ
start_block s setting seeds = framed (put_start s setting seeds) 0 0 173

-- block 0, or 1 where a field is far out of range, no profile has the mark or there are other than 64 seeds
unfoldable pub start_written : List ℕ → List ℕ → List ℕ → Written
start_written s setting seeds = written_if (start_fits setting seeds) 1 (start_block s setting seeds) s

-- ---- a log

-- records put into a block from place k on
unfoldable pub put_records : List ℕ → ℕ → List Entry → List ℕ
put_records s k [] = s
put_records s k (e ∷ es) = put_records (put_record s k e) (suc k) es

-- block b with these records, written into a block s
unfoldable pub records_block : List ℕ → ℕ → List Entry → List ℕ
records_block s b es = framed (put_records s 0 es) b (length es) (record_at (length es))

-- "Later blocks have 1 to 20 records .., all but the last block 20": at most n blocks from block b on, each written over bytes of its own
unfoldable pub later_blocks : (ℕ → List ℕ) → ℕ → ℕ → List Entry → List (List ℕ)
later_blocks old zero b es = []
later_blocks old (suc n) b [] = []
later_blocks old (suc n) b (e ∷ es) = records_block (old b) b (take 20 (e ∷ es)) ∷ later_blocks old n (suc b) (drop 20 (e ∷ es))

-- blocks one after another
abbrev pub joined : List (List ℕ) → List ℕ
joined [] = []
joined (s ∷ ss) = s ++ joined ss

-- The bytes of a log with this setting, these seeds and these records. Before block b is written its buffer holds the bytes `old b`: for a
-- caller who reuses one buffer these are the bytes of block b - 1.
unfoldable pub log_bytes_over : (ℕ → List ℕ) → List ℕ → List ℕ → List Entry → List ℕ
log_bytes_over old setting seeds es = joined (start_block (old 0) setting seeds ∷ later_blocks old (length es) 1 es)

-- the same, each block written over the same bytes s
abbrev pub log_bytes : List ℕ → List ℕ → List ℕ → List Entry → List ℕ
log_bytes s setting seeds es = log_bytes_over (λ b. s) setting seeds es
