-- Logs that the encoder writes: block 0 is read back and sound, the records of the later blocks are those written, and the log agrees.
use mathlib.Core.Path.{◌≡◌, refl, sym, ap, ◌∙◌}
use mathlib.Core.List.{List, [], ◌∷◌, ◌++◌, append_assoc}
use mathlib.Core.Bool.{Bool, true, false, ◌||◌}
use Prim.Native.Nat.{ℕ, zero, suc, ◌+◌, ◌-◌, ◌*◌, ◌/◌, ◌^◌, ◌≤◌, ◌<◌, min}
use native.Mathlib.Omega.{arith}
use native.Mathlib.Nat.{zero-add}
use lib.Dec.{leb, ltb→lt}
use lib.ListN.{length, get_or, take, drop, length-append, length-take, length-drop, take-append-drop}
use lib.Seq.{sets, length-sets, ext_get_or, take_at, drop_at}
use borrow.Author.Tests.{lt-ltb, le-leb}
use Rattle.rules.specs.Cells.{All}
use Rattle.rules.specs.Answers.{none}
use Rattle.rules.specs.Setting.{setting_of, known, setting_refusal}
use Rattle.rules.specs.declared.Limits.{Limits}
use Rattle.rules.specs.Policy.{Policy}
use Rattle.rules.proofs.Places.{seed_small, seeds_long}
use Rattle.rules.proofs.Accept.{accepted, scale_pos}
use Rattle.rules.specs.Tested.{Accepted}
use Rattle.log_format.specs.declared.Entry.{Entry}
use Rattle.log_format.specs.Bytes.{little, bytes_of, zeros, block_at, blocks_from}
use Rattle.log_format.specs.Refusals.{sound}
use Rattle.log_format.specs.Contents.{count_in, mark_in, setting_in, halves, seeds_in}
use Rattle.log_format.specs.Blocks.{start_laid_out, in_turn, laid_out, block_refusal}
use Rattle.log_format.specs.Encode.{numbers_bytes, put_start, start_block, records_block, later_blocks, joined, log_bytes_over}
use Rattle.log_format.specs.Claims.{setting_of_log, seeds_of_log, later_of, entries_of, records_of, SoundFrom, WellFormed, Writable, WrittenAgrees}
use Rattle.log_format.proofs.Numbers.{length_halves, get_or_halves}
use Rattle.log_format.proofs.ReadBack.{little_same, little_one, little_below, little_put, zeros_all, numbers_read}
use Rattle.log_format.proofs.Framed.{Frame, frame_of}
use Rattle.log_format.proofs.Written.{records_frame, records_read, records_sound}
use Rattle.log_format.proofs.Agrees.{whenever}

-- ---- block 0

module _ (s setting seeds : List ℕ) (len : length s ≡ 512) where
  -- the block with the numbers of the setting, and with the seeds too
  abbrev numbered : List ℕ
  numbered = sets s 8 (numbers_bytes 4 setting 0 9)

  abbrev seeded : List ℕ
  seeded = sets numbered 44 (numbers_bytes 2 seeds 0 64)

  seeded_long : length seeded ≡ 512
  seeded_long = length-sets numbered 44 (numbers_bytes 2 seeds 0 64) ∙ length-sets s 8 (numbers_bytes 4 setting 0 9) ∙ len

  start_frame : Frame (put_start s setting seeds) 0 0 173 (start_block s setting seeds)
  unfolding start_block put_start
  start_frame =
      frame_of (put_start s setting seeds) 0 0 173 (length-sets seeded 172 (bytes_of 1 (get_or setting 9 0)) ∙ seeded_long)
      (omega arith) (omega arith) (omega arith) (omega arith)

  -- the mark, a number of one byte
  start_mark : get_or setting 9 0 < 256 → mark_in (start_block s setting seeds) ≡ get_or setting 9 0
  unfolding put_start
  start_mark b =
      start_frame.body 172 (omega arith) (omega arith)
      ∙ sym (little_one (sets seeded 172 (bytes_of 1 (get_or setting 9 0))) 172)
      ∙ little_put seeded 172 1 (get_or setting 9 0) (omega (arith, seeded_long)) (omega arith)

  -- an accepted setting has the mark of a profile
  low_mark : (m : Limits) → Accepted m (setting_of setting) seeds → get_or setting 9 0 < 2
  unfolding setting_of
  low_mark m ok = ltb→lt (get_or setting 9 0) 2 ok.ranges.mark

  pub start_sound : (m : Limits) → Accepted m (setting_of setting) seeds → block_refusal (start_block s setting seeds) 0 0 ≡ sound
  unfolding block_refusal laid_out start_laid_out
  start_sound m ok =
      let f = start_frame in
      let t = start_block s setting seeds in
      let low = low_mark m ok in
      let z : zeros t 173 335 ≡ true = zeros_all t 173 335 (λ j a b. f.zeros_after j a b) in
      let mark : known (mark_in t) ≡ true = rw (start_mark (omega arith)) (lt-ltb (get_or setting 9 0) 2 low) in
      rw (f.check, f.number, f.zeros_head, f.count, mark, z)

  -- number i of the setting
  start_number : (i : ℕ) → i < 9 → get_or setting i 0 < 256 ^ 4 → little (start_block s setting seeds) (8 + 4 * i) 4 ≡ get_or setting i 0
  unfolding put_start
  start_number i h b =
      let r = numbers_read s setting 8 4 0 9 i (omega arith) h (rw (zero-add i) b) in
      little_same (start_block s setting seeds) (put_start s setting seeds) (8 + 4 * i) 4 8 173 start_frame.body (omega arith) (omega arith)
      ∙ little_below seeded (bytes_of 1 (get_or setting 9 0)) 172 (8 + 4 * i) 4 (omega arith)
      ∙ little_below numbered (numbers_bytes 2 seeds 0 64) 44 (8 + 4 * i) 4 (omega arith)
      ∙ (rw (zero-add i) at r)

  -- seed i
  start_seed : (i : ℕ) → i < 64 → get_or seeds i 0 < 256 ^ 2 → little (start_block s setting seeds) (44 + 2 * i) 2 ≡ get_or seeds i 0
  unfolding put_start
  start_seed i h b =
      let r = numbers_read numbered seeds 44 2 0 64 i (omega (arith, length-sets s 8 (numbers_bytes 4 setting 0 9))) h (rw (zero-add i) b) in
      little_same (start_block s setting seeds) (put_start s setting seeds) (44 + 2 * i) 2 8 173 start_frame.body (omega arith) (omega arith)
      ∙ little_below seeded (bytes_of 1 (get_or setting 9 0)) 172 (44 + 2 * i) 2 (omega arith)
      ∙ (rw (zero-add i) at r)

  pub start_setting : (m : Limits) → Accepted m (setting_of setting) seeds → setting_in (start_block s setting seeds) ≡ setting_of setting
  unfolding setting_in setting_of
  start_setting m ok =
      rw (
        start_number 0 (omega arith) (omega (arith, ok.ranges.w_high)),
        start_number 1 (omega arith) (omega (arith, ok.ranges.trc_high)),
        start_number 2 (omega arith) (omega (arith, ok.ranges.tfaw_high)),
        start_number 3 (omega arith) (omega (arith, scale_pos ok, ok.ranges.l_high)),
        start_number 4 (omega arith) (omega (arith, ok.ranges.td_high)),
        start_number 5 (omega arith) (omega (arith, ok.ranges.l_high)),
        start_number 6 (omega arith) (omega (arith, ok.ranges.q_high)),
        start_number 7 (omega arith) (omega (arith, ok.ranges.banks_high)),
        start_number 8 (omega arith) (omega (arith, ok.ranges.threads_high)),
        start_mark (omega (arith, low_mark m ok)),
      )

  pub start_seeds : (m : Limits) → Accepted m (setting_of setting) seeds → seeds_in (start_block s setting seeds) ≡ seeds
  unfolding seeds_in
  start_seeds m ok =
      let t = start_block s setting seeds in
      let n = seeds_long seeds ok.seeds_ok in
      ext_get_or 0 (halves t 44 64) seeds (length_halves t 44 64 ∙ sym n)
      (λ i h.
      let k : i < 64 = omega (arith, length_halves t 44 64) in
      get_or_halves t 44 64 i k ∙ start_seed i k (omega (arith, seed_small seeds ok.seeds_ok i)))

-- ---- the later blocks

all_take : (n : ℕ) (es : List Entry) → All Writable es → All Writable (take n es)
all_take zero es w = tt
all_take (suc n) [] w = tt
all_take (suc n) (e ∷ es) w = (w.0, all_take n es w.1)

all_drop : (n : ℕ) (es : List Entry) → All Writable es → All Writable (drop n es)
all_drop zero es w = w
all_drop (suc n) [] w = tt
all_drop (suc n) (e ∷ es) w = all_drop n es w.1

-- a block after one of 20 records
full : (c m : ℕ) → 20 ≤ m → in_turn c m ≡ true
unfolding in_turn
full c m h = go (leb c 1)
  where
    go : (q : Bool) → (q || leb 20 m) ≡ true
    go true = refl
    go false = le-leb 20 m h

first_block : in_turn 1 0 ≡ true
unfolding in_turn
first_block = refl

-- what is known of the blocks of these records
pub record Later (b before : ℕ) (es : List Entry) (ss : List (List ℕ)) : Type 0 where
  pub blocks : SoundFrom b before ss
  pub records : entries_of ss ≡ es
  pub lengths : All (λ t. length t ≡ 512) ss

pub later : (old : ℕ → List ℕ) (n b before : ℕ) (es : List Entry) → ((c : ℕ) → length (old c) ≡ 512) → 1 ≤ b → length es ≤ n → length es ≤ 20 * (2 ^ 32 - b)
    → (1 ≤ length es → in_turn b before ≡ true) → All Writable es → Later b before es (later_blocks old n b es)
unfolding later_blocks
later old zero b before [] len lb ln lt turn w = record { blocks = tt; records = refl; lengths = tt }
later old zero b before (e ∷ es) len lb ln lt turn w = absurd (omega arith)
later old (suc n) b before [] len lb ln lt turn w = record { blocks = tt; records = refl; lengths = tt }
later old (suc n) b before (e ∷ es) len lb ln lt turn w =
    let all = e ∷ es in
    let front = take 20 all in
    let lf : length front ≡ min 20 (length all) = length-take 20 all in
    let ld : length (drop 20 all) ≡ length all - 20 = length-drop 20 all in
    let hi : b < 2 ^ 32 = omega arith in
    let wf = all_take 20 all w in
    let f = records_frame (old b) b front (len b) lb hi (omega arith) (omega arith) wf in
    let r = records_read (old b) b front (len b) lb hi (omega arith) (omega arith) wf in
    let o = records_sound (old b) b front (len b) lb hi (omega arith) (omega arith) wf before (turn (omega arith)) in
    let next : 1 ≤ length (drop 20 all) → in_turn (suc b) (count_in (records_block (old b) b front)) ≡ true =
    λ h. full (suc b) (count_in (records_block (old b) b front)) (omega (arith, f.count)) in
    let i = later old n (suc b) (count_in (records_block (old b) b front)) (drop 20 all) len (omega arith) (omega arith) (omega arith) next (all_drop 20 all w) in
    let one : b + 1 ≡ suc b = omega arith in
    record {
      blocks = (o, rw one i.blocks);
      records = rw (r, i.records) (take-append-drop 20 all);
      lengths = (f.long, i.lengths);
    }

-- ---- blocks joined and taken apart

length_joined : (ss : List (List ℕ)) → All (λ t. length t ≡ 512) ss → length (joined ss) ≡ 512 * length ss
length_joined [] a = refl
length_joined (t ∷ ss) a = omega (arith, length-append t (joined ss), a.0, length_joined ss a.1)

block_of : (p t rest : List ℕ) (b : ℕ) → length p ≡ 512 * b → length t ≡ 512 → block_at (p ++ (t ++ rest)) b ≡ t
unfolding block_at
block_of p t rest b lp lt = ap (take 512) (drop_at p (t ++ rest) (512 * b) lp) ∙ take_at t rest 512 lt

blocks_of : (p : List ℕ) (b : ℕ) (ss : List (List ℕ)) → length p ≡ 512 * b → All (λ t. length t ≡ 512) ss
    → blocks_from (p ++ joined ss) b (length ss) ≡ ss
blocks_of p b [] lp a = refl
blocks_of p b (t ∷ ss) lp a =
    let rest = blocks_of (p ++ t) (suc b) ss (omega (arith, length-append p t, a.0)) a.1 in
    rw (block_of p t (joined ss) b lp a.0) (ap (λ (l : List (List ℕ)). t ∷ l) (rw append_assoc at rest))

-- ---- the log

-- a log that holds these records under this setting and these seeds
pub record Holding (words seedWords : List ℕ) (es : List Entry) (bytes : List ℕ) : Type 0 where
  pub well_formed : WellFormed bytes
  pub setting : setting_of_log bytes ≡ setting_of words
  pub seeds : seeds_of_log bytes ≡ seedWords
  pub records : records_of bytes ≡ es

pub written_log : (m : Limits) (old : ℕ → List ℕ) (setting seeds : List ℕ) (es : List Entry) → ((b : ℕ) → length (old b) ≡ 512)
    → setting_refusal m (setting_of setting) seeds ≡ none → All Writable es → length es ≤ 20 * (2 ^ 32 - 1)
    → Holding setting seeds es (log_bytes_over old setting seeds es)
unfolding log_bytes_over
written_log m old setting seeds es len e w few =
    let ok = accepted m (setting_of setting) seeds e in
    let t = start_block (old 0) setting seeds in
    let ss = later_blocks old (length es) 1 es in
    let bytes = joined (t ∷ ss) in
    let f = later old (length es) 1 0 es len (omega arith) (omega arith) few (λ h. first_block) w in
    let lt : length t ≡ 512 = (start_frame (old 0) setting seeds (len 0)).long in
    let lj : length bytes ≡ 512 * suc (length ss) = length_joined (t ∷ ss) (lt, f.lengths) in
    let n : length bytes / 512 - 1 ≡ length ss = omega arith in
    let b0 : block_at bytes 0 ≡ t = block_of [] t (joined ss) 0 refl lt in
    let bs : later_of bytes ≡ ss = ap (λ (k : ℕ). blocks_from bytes 1 k) n ∙ blocks_of t 1 ss (omega arith) f.lengths in
    record {
      well_formed = record { whole = omega arith; some = omega arith; start = rw b0 (start_sound (old 0) setting seeds (len 0) m ok); later = rw bs f.blocks };
      setting = ap setting_in b0 ∙ start_setting (old 0) setting seeds (len 0) m ok;
      seeds = ap seeds_in b0 ∙ start_seeds (old 0) setting seeds (len 0) m ok;
      records = ap entries_of bs ∙ f.records;
    }

pub written_agrees : (p : Policy) → WrittenAgrees p
written_agrees p old setting seeds es len e w few d =
    let h = written_log p.limits old setting seeds es len e w few in
    let bytes = log_bytes_over old setting seeds es in
    whenever p bytes
    (record {
      well_formed = h.well_formed;
      accepted = rw (h.setting, h.seeds) e;
      decided = rw (h.records, h.setting, h.seeds) d;
    })
    ∙ rw (h.records, h.setting, h.seeds)
