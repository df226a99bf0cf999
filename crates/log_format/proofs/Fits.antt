-- What the encoder's tests give where they hold, and where they do.
use mathlib.Core.Path.{◌≡◌}
use mathlib.Core.List.{List}
use mathlib.Core.Bool.{true, ◌&&◌}
use Prim.Native.Nat.{ℕ, ◌^◌, ◌≤◌, ◌<◌}
use native.Mathlib.Omega.{arith}
use borrow.Author.Tests.{lt-ltb, le-leb, eq-eqb}
use lib.Dec.{T, ltb, eqb, leb→le, ltb→lt, eqb→eq}
use lib.ListN.{length, get_or}
use lib.Seq.{sets}
use Rattle.rules.specs.Cells.{every}
use Rattle.rules.specs.Answers.{none}
use Rattle.rules.specs.Setting.{setting_of, known, setting_refusal}
use Rattle.rules.specs.declared.Limits.{Limits}
use Rattle.rules.proofs.Tests.{and_l, and_r, is_true, holds}
use Rattle.rules.proofs.Places.{seeds_long}
use Rattle.rules.proofs.Accept.{accepted, scale_pos}
use Rattle.log_format.specs.declared.Entry.{Entry}
use Rattle.log_format.specs.Bytes.{bytes_of}
use Rattle.log_format.specs.Encode.{written, put_record, record_fits, record_written, framed, seal_fits, seal_written, numbers_bytes, start_fits, put_start, start_block, start_written, put_records, records_block}
use Rattle.log_format.specs.Claims.{Writable}

pub record Fitting (k : ℕ) (e : Entry) : Type 0 where
  pub place : k < 20
  pub bank : e.bank < 256
  pub thread : e.thread < 256
  pub kind : e.kind ≤ 1
  pub answer : e.answer ≤ 4

pub fitting : (k : ℕ) (e : Entry) → record_fits k e ≡ true → Fitting k e
unfolding record_fits
fitting k e h =
    let t : T (record_fits k e) = holds (record_fits k e) h in
    record {
      place = ltb→lt k 20 (search (and_l, and_r) depth 20);
      bank = ltb→lt e.bank 256 (search (and_l, and_r) depth 20);
      thread = ltb→lt e.thread 256 (search (and_l, and_r) depth 20);
      kind = leb→le e.kind 1 (search (and_l, and_r) depth 20);
      answer = leb→le e.answer 4 (search (and_l, and_r) depth 20);
    }

pub fits_place : (k : ℕ) (e : Entry) → record_fits k e ≡ true → k < 20
fits_place k e h = (fitting k e h).place

pub record Sealing (number count : ℕ) : Type 0 where
  pub number_low : 1 ≤ number
  pub number_high : number ≤ 4294967295
  pub count_low : 1 ≤ count
  pub count_high : count ≤ 20

pub sealing : (number count : ℕ) → seal_fits number count ≡ true → Sealing number count
unfolding seal_fits
sealing number count h =
    let t : T (seal_fits number count) = holds (seal_fits number count) h in
    record {
      number_low = leb→le 1 number (search (and_l, and_r) depth 20);
      number_high = leb→le number 4294967295 (search (and_l, and_r) depth 20);
      count_low = leb→le 1 count (search (and_l, and_r) depth 20);
      count_high = leb→le count 20 (search (and_l, and_r) depth 20);
    }

pub seal_count : (number count : ℕ) → seal_fits number count ≡ true → count ≤ 20
seal_count number count h = (sealing number count h).count_high

pub start_seeds : (setting seeds : List ℕ) → start_fits setting seeds ≡ true → length seeds ≡ 64
unfolding start_fits
start_seeds setting seeds h =
    let t : T (start_fits setting seeds) = holds (start_fits setting seeds) h in
    eqb→eq (length seeds) 64 (and_r (every 9 (λ i. ltb (get_or setting i 0) (2 ^ 32)) && known (get_or setting 9 0)) (eqb (length seeds) 64) t)

-- block 0, store by store
pub start_stores : (s setting seeds numbered seeded marked block : List ℕ) → start_fits setting seeds ≡ true
    → numbered ≡ sets s 8 (numbers_bytes 4 setting 0 9) → seeded ≡ sets numbered 44 (numbers_bytes 2 seeds 0 64)
    → marked ≡ sets seeded 172 (bytes_of 1 (get_or setting 9 0)) → block ≡ framed marked 0 0 173 → written 0 block ≡ start_written s setting seeds
unfolding start_written start_block put_start
start_stores s setting seeds numbered seeded marked block fits e1 e2 e3 e4 = rw (fits, e4, e3, e2, e1)

-- ---- calls that are not refused

-- a record that the format can hold is put
pub record_call : (s : List ℕ) (k : ℕ) (e : Entry) → k < 20 → Writable e → record_written s k e ≡ written 0 (put_record s k e)
unfolding record_written record_fits
record_call s k e h w =
    rw (lt-ltb k 20 h, lt-ltb e.bank 256 w.bank, lt-ltb e.thread 256 w.thread, le-leb e.kind 1 w.kind, le-leb e.answer 4 w.answer)

-- a block that holds these records is sealed: with `records_sound` and `records_read` it is sound and holds them
pub seal_call : (s : List ℕ) (b : ℕ) (es : List Entry) → 1 ≤ b → b < 2 ^ 32 → 1 ≤ length es → length es ≤ 20
    → seal_written (put_records s 0 es) b (length es) ≡ written 0 (records_block s b es)
unfolding seal_written seal_fits records_block
seal_call s b es lo hi some few =
    rw (le-leb 1 b lo, le-leb b 4294967295 (omega arith), le-leb 1 (length es) some, le-leb (length es) 20 few)

-- an accepted setting can be written: N too is within 32 bits, since it is below L
pub start_call : (m : Limits) (s setting seeds : List ℕ) → setting_refusal m (setting_of setting) seeds ≡ none
    → start_written s setting seeds ≡ written 0 (start_block s setting seeds)
unfolding start_written start_fits setting_of
start_call m s setting seeds e =
    let ok = accepted m (setting_of setting) seeds e in
    rw (
      lt-ltb (get_or setting 0 0) (2 ^ 32) (omega (arith, ok.ranges.w_high)),
      lt-ltb (get_or setting 1 0) (2 ^ 32) (omega (arith, ok.ranges.trc_high)),
      lt-ltb (get_or setting 2 0) (2 ^ 32) (omega (arith, ok.ranges.tfaw_high)),
      lt-ltb (get_or setting 3 0) (2 ^ 32) (omega (arith, scale_pos ok, ok.ranges.l_high)),
      lt-ltb (get_or setting 4 0) (2 ^ 32) (omega (arith, ok.ranges.td_high)),
      lt-ltb (get_or setting 5 0) (2 ^ 32) (omega (arith, ok.ranges.l_high)),
      lt-ltb (get_or setting 6 0) (2 ^ 32) (omega (arith, ok.ranges.q_high)),
      lt-ltb (get_or setting 7 0) (2 ^ 32) (omega (arith, ok.ranges.banks_high)),
      lt-ltb (get_or setting 8 0) (2 ^ 32) (omega (arith, ok.ranges.threads_high)),
      is_true (known (get_or setting 9 0)) ok.ranges.mark,
      eq-eqb (length seeds) 64 (seeds_long seeds ok.seeds_ok),
    )
