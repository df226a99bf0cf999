-- The records of a log of bytes can be written again, and so every selection of them.
use mathlib.Core.Path.{◌≡◌, refl}
use mathlib.Core.List.{List, [], ◌∷◌, ◌++◌}
use mathlib.Core.Bool.{Bool, true, false, ◌&&◌}
use Prim.Native.Nat.{ℕ, zero, suc, ◌+◌, ◌-◌, ◌*◌, ◌/◌, ◌^◌, ◌≤◌, ◌<◌}
use native.Mathlib.Omega.{arith}
use native.Mathlib.Nat.{pow-suc}
use native.Mathlib.Numerals.{add-one}
use lib.Dec.{T, leb, leb→le}
use lib.ListN.{length, get_or, take, drop, replicate}
use Rattle.rules.specs.declared.Setting.{Setting}
use Rattle.rules.specs.Cells.{All, between, every}
use Rattle.rules.specs.Setting.{setting_of}
use Rattle.rules.specs.Policy.{Policy}
use Rattle.rules.proofs.Tests.{and_l, and_r, every_at}
use Rattle.log_format.specs.Bytes.{little, zeros, block_at, blocks_from}
use Rattle.log_format.specs.Contents.{count_in, record_at, entry_in, entries_from}
use Rattle.log_format.specs.Blocks.{record_laid_out, records_laid_out}
use Rattle.log_format.specs.Encode.{log_bytes_over}
use Rattle.log_format.specs.Claims.{setting_of_log, seeds_of_log, entries_of, records_of, SoundFrom, WellFormed, Writable}
use Rattle.cut_rules.specs.selections.Selections.{chosen}
use Rattle.cut_rules.specs.Claims.{SelectionsWritten}
use Rattle.cut_rules.proofs.Places.{later_parts}
use Rattle.cut_rules.proofs.Logs.{written}

-- ---- lists whose elements all have a property

module _ {A : Type 0} (P : A → Type 0) where
  all_take : (n : ℕ) (l : List A) → All P l → All P (take n l)
  all_take zero l h = tt
  all_take (suc n) [] h = tt
  all_take (suc n) (x ∷ l) h = (h.0, all_take n l h.1)

  all_drop : (n : ℕ) (l : List A) → All P l → All P (drop n l)
  all_drop zero l h = h
  all_drop (suc n) [] h = tt
  all_drop (suc n) (x ∷ l) h = all_drop n l h.1

  all_append : (l r : List A) → All P l → All P r → All P (l ++ r)
  all_append [] r a b = b
  all_append (x ∷ l) r a b = (a.0, all_append l r a.1 b)

  all_chosen : (sel : List Bool) (l : List A) → All P l → All P (chosen sel l)
  all_chosen [] l h = tt
  all_chosen (b ∷ sel) [] h = tt
  all_chosen (true ∷ sel) (x ∷ l) h = (h.0, all_chosen sel l h.1)
  all_chosen (false ∷ sel) (x ∷ l) h = all_chosen sel l h.1

chosen_short : {A : Type 0} (sel : List Bool) (l : List A) → length (chosen sel l) ≤ length l
chosen_short [] l = omega arith
chosen_short (b ∷ sel) [] = omega arith
chosen_short (true ∷ sel) (x ∷ l) = omega (arith, chosen_short sel l)
chosen_short (false ∷ sel) (x ∷ l) = omega (arith, chosen_short sel l)

-- ---- a record of a block

abbrev Byte : ℕ → Type 0
Byte b = b < 256

byte_at : (s : List ℕ) (i : ℕ) → All Byte s → get_or s i 0 < 256
byte_at [] i h = omega arith
byte_at (b ∷ s) zero h = h.0
byte_at (b ∷ s) (suc i) h = byte_at s i h.1

little_fits : (s : List ℕ) (k n : ℕ) → All Byte s → little s k n < 256 ^ n
unfolding little
little_fits s k zero h = omega arith
little_fits s k (suc n) h = let ih = little_fits s (suc k) n h in omega (arith, pow-suc 256 n, byte_at s k h)

module _ (s : List ℕ) (h : All Byte s) where
  entry_writable : (k : ℕ) → T (record_laid_out s k) → Writable (entry_in s k)
  unfolding entry_in record_laid_out
  entry_writable k t =
      let front = and_l (leb (get_or s (record_at k + 20) 0) 1 && leb (get_or s (record_at k + 21) 0) 4) (zeros s (record_at k + 22) 2) t in
      record {
        tick = omega (arith, little_fits s (record_at k) 8 h);
        wait = omega (arith, little_fits s (record_at k + 8) 8 h);
        row = omega (arith, little_fits s (record_at k + 16) 2 h);
        bank = byte_at s (record_at k + 18) h;
        thread = byte_at s (record_at k + 19) h;
        kind = leb→le (get_or s (record_at k + 20) 0) 1 (and_l (leb (get_or s (record_at k + 20) 0) 1) (leb (get_or s (record_at k + 21) 0) 4) front);
        answer = leb→le (get_or s (record_at k + 21) 0) 4 (and_r (leb (get_or s (record_at k + 20) 0) 1) (leb (get_or s (record_at k + 21) 0) 4) front);
      }

  entries_writable : (c k : ℕ) → ((j : ℕ) → j < k + c → T (record_laid_out s j)) → All Writable (entries_from s k c)
  entries_writable zero k f = tt
  entries_writable (suc c) k f = (entry_writable k (f k (omega arith)), entries_writable c (suc k) (λ j l. f j (omega arith)))

  block_writable : T (records_laid_out s) → All Writable (entries_from s 0 (count_in s))
  unfolding records_laid_out
  block_writable t =
      let all : T (every (count_in s) (λ k. record_laid_out s k)) =
      and_r (between 1 20 (count_in s)) (every (count_in s) (λ k. record_laid_out s k))
      (and_l (between 1 20 (count_in s) && every (count_in s) (λ k. record_laid_out s k)) (zeros s (record_at (count_in s)) (500 - 24 * count_in s)) t) in
      entries_writable (count_in s) 0 (λ j l. every_at (count_in s) (λ k. record_laid_out s k) all j (omega arith))

-- ---- the records of a log

module _ (bytes : List ℕ) (h : All Byte bytes) where
  block_bytes : (b : ℕ) → All Byte (block_at bytes b)
  unfolding block_at
  block_bytes b = all_take Byte 512 (drop (512 * b) bytes) (all_drop Byte (512 * b) bytes h)

  later_writable : (n b before : ℕ) → 1 ≤ b → SoundFrom b before (blocks_from bytes b n) → All Writable (entries_of (blocks_from bytes b n))
  later_writable zero b before l ok = tt
  later_writable (suc n) b before l ok =
      all_append Writable (entries_from (block_at bytes b) 0 (count_in (block_at bytes b))) _ (block_writable (block_at bytes b) (block_bytes b) (later_parts (block_at bytes b) b before l ok.0).1)
      (later_writable n (suc b) (count_in (block_at bytes b)) (omega arith) (rw (add-one b) at ok.1))

  pub records_writable : WellFormed bytes → All Writable (records_of bytes)
  records_writable w = later_writable (length bytes / 512 - 1) 1 0 (omega arith) w.later

-- the ten words of a setting
abbrev words_of : Setting → List ℕ
words_of s = s.w ∷ s.trc ∷ s.tfaw ∷ s.n ∷ s.td ∷ s.l ∷ s.q ∷ s.banks ∷ s.threads ∷ s.profile ∷ []

words_of_lem : (s : Setting) → setting_of (words_of s) ≡ s
unfolding setting_of
words_of_lem s = refl

pub selections_written : (p : Policy) → SelectionsWritten p
selections_written p bytes sel r h few =
    let es = chosen sel (records_of bytes) in
    let zero-block : List ℕ = replicate 512 0 in (
      log_bytes_over (λ b. zero-block) (words_of (setting_of_log bytes)) (seeds_of_log bytes) es,
      written p bytes (λ b. zero-block) (words_of (setting_of_log bytes)) es r (words_of_lem (setting_of_log bytes)) (λ b. refl)
          (all_chosen Writable sel (records_of bytes) (records_writable bytes h r.well_formed))
          (omega (arith, chosen_short sel (records_of bytes))),
    )
