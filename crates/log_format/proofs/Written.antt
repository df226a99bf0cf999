-- Blocks that the encoder writes: their records are read back, and they are sound.
use mathlib.Core.Path.{◌≡◌, refl, ap, ◌∙◌}
use mathlib.Core.List.{List, [], ◌∷◌}
use mathlib.Core.Bool.{true}
use Prim.Native.Nat.{ℕ, zero, suc, ◌+◌, ◌-◌, ◌*◌, ◌^◌, ◌≤◌, ◌<◌}
use native.Mathlib.Omega.{arith}
use native.Mathlib.Nat.{zero-add}
use lib.Dec.{T}
use lib.ListN.{length, get_or}
use lib.Seq.{sets, length-sets}
use borrow.Author.Tests.{eq-eqb, ne_eqb, le-leb}
use Rattle.rules.specs.Cells.{All, every}
use Rattle.rules.proofs.Tests.{holds, is_true, every_all}
use Rattle.log_format.specs.declared.Entry.{Entry}
use Rattle.log_format.specs.Bytes.{little, bytes_of, zeros}
use Rattle.log_format.specs.Refusals.{sound}
use Rattle.log_format.specs.Contents.{record_at, entry_in, entries_from, entries_in}
use Rattle.log_format.specs.Blocks.{record_laid_out, records_laid_out, in_turn, laid_out, block_refusal}
use Rattle.log_format.specs.Encode.{record_bytes, put_record, put_records, records_block}
use Rattle.log_format.specs.Claims.{Writable}
use Rattle.log_format.proofs.Stores.{record_stores}
use Rattle.log_format.proofs.ReadBack.{Same, sets_below, little_same, little_one, little_below, little_put, zeros_all}
use Rattle.log_format.proofs.Framed.{Frame, frame_of}

-- ---- one record

-- record j of a block is e, with two zeros after it
pub record Holds (t : List ℕ) (j : ℕ) (e : Entry) : Type 0 where
  pub entry : entry_in t j ≡ e
  pub zero22 : get_or t (record_at j + 22) 0 ≡ 0
  pub zero23 : get_or t (record_at j + 23) 0 ≡ 0

same_entry : (t u : List ℕ) (j : ℕ) → Same t u (record_at j) (record_at j + 24) → entry_in t j ≡ entry_in u j
unfolding entry_in
same_entry t u j p =
    let at = record_at j in
    let read : (k n : ℕ) → at ≤ k → k + n ≤ at + 24 → little t k n ≡ little u k n = λ k n a b. little_same t u k n at (at + 24) p a b in
    rw (
      read at 8 (omega arith) (omega arith),
      read (at + 8) 8 (omega arith) (omega arith),
      read (at + 16) 2 (omega arith) (omega arith),
      p (at + 18) (omega arith) (omega arith),
      p (at + 19) (omega arith) (omega arith),
      p (at + 20) (omega arith) (omega arith),
      p (at + 21) (omega arith) (omega arith),
    )

pub same_holds : (t u : List ℕ) (j : ℕ) (e : Entry) → Same t u (record_at j) (record_at j + 24) → Holds u j e → Holds t j e
same_holds t u j e p h =
    record {
      entry = same_entry t u j p ∙ h.entry;
      zero22 = p (record_at j + 22) (omega arith) (omega arith) ∙ h.zero22;
      zero23 = p (record_at j + 23) (omega arith) (omega arith) ∙ h.zero23;
    }

-- the fields of a record that was stored
record Fields (t : List ℕ) (at : ℕ) (e : Entry) : Type 0 where
  pub tick : little t at 8 ≡ e.tick
  pub wait : little t (at + 8) 8 ≡ e.wait
  pub row : little t (at + 16) 2 ≡ e.row
  pub bank : little t (at + 18) 1 ≡ e.bank
  pub thread : little t (at + 19) 1 ≡ e.thread
  pub kind : little t (at + 20) 1 ≡ e.kind
  pub answer : little t (at + 21) 1 ≡ e.answer
  pub rest : little t (at + 22) 2 ≡ 0

module _ (s : List ℕ) (at : ℕ) (e : Entry) (len : length s ≡ 512) (room : at + 24 ≤ 512) (w : Writable e) where
  stored_fields : Fields (sets s at (record_bytes e)) at e
  stored_fields =
      let s1 = sets s at (bytes_of 8 e.tick) in
      let s2 = sets s1 (at + 8) (bytes_of 8 e.wait) in
      let s3 = sets s2 (at + 16) (bytes_of 2 e.row) in
      let s4 = sets s3 (at + 18) (bytes_of 1 e.bank) in
      let s5 = sets s4 (at + 19) (bytes_of 1 e.thread) in
      let s6 = sets s5 (at + 20) (bytes_of 1 e.kind) in
      let s7 = sets s6 (at + 21) (bytes_of 1 e.answer) in
      let s8 = sets s7 (at + 22) (bytes_of 2 0) in
      let l1 : length s1 ≡ 512 = length-sets s at (bytes_of 8 e.tick) ∙ len in
      let l2 : length s2 ≡ 512 = length-sets s1 (at + 8) (bytes_of 8 e.wait) ∙ l1 in
      let l3 : length s3 ≡ 512 = length-sets s2 (at + 16) (bytes_of 2 e.row) ∙ l2 in
      let l4 : length s4 ≡ 512 = length-sets s3 (at + 18) (bytes_of 1 e.bank) ∙ l3 in
      let l5 : length s5 ≡ 512 = length-sets s4 (at + 19) (bytes_of 1 e.thread) ∙ l4 in
      let l6 : length s6 ≡ 512 = length-sets s5 (at + 20) (bytes_of 1 e.kind) ∙ l5 in
      let l7 : length s7 ≡ 512 = length-sets s6 (at + 21) (bytes_of 1 e.answer) ∙ l6 in
      let d8 : (k n : ℕ) → k + n ≤ at + 22 → little s8 k n ≡ little s7 k n = λ k n h. little_below s7 (bytes_of 2 0) (at + 22) k n h in
      let d7 : (k n : ℕ) → k + n ≤ at + 21 → little s8 k n ≡ little s6 k n = λ k n h. d8 k n (omega arith) ∙ little_below s6 (bytes_of 1 e.answer) (at + 21) k n h in
      let d6 : (k n : ℕ) → k + n ≤ at + 20 → little s8 k n ≡ little s5 k n = λ k n h. d7 k n (omega arith) ∙ little_below s5 (bytes_of 1 e.kind) (at + 20) k n h in
      let d5 : (k n : ℕ) → k + n ≤ at + 19 → little s8 k n ≡ little s4 k n = λ k n h. d6 k n (omega arith) ∙ little_below s4 (bytes_of 1 e.thread) (at + 19) k n h in
      let d4 : (k n : ℕ) → k + n ≤ at + 18 → little s8 k n ≡ little s3 k n = λ k n h. d5 k n (omega arith) ∙ little_below s3 (bytes_of 1 e.bank) (at + 18) k n h in
      let d3 : (k n : ℕ) → k + n ≤ at + 16 → little s8 k n ≡ little s2 k n = λ k n h. d4 k n (omega arith) ∙ little_below s2 (bytes_of 2 e.row) (at + 16) k n h in
      let d2 : (k n : ℕ) → k + n ≤ at + 8 → little s8 k n ≡ little s1 k n = λ k n h. d3 k n (omega arith) ∙ little_below s1 (bytes_of 8 e.wait) (at + 8) k n h in
      rw (← record_stores s at e)
      (record {
        tick = d2 at 8 (omega arith) ∙ little_put s at 8 e.tick (omega arith) w.tick;
        wait = d3 (at + 8) 8 (omega arith) ∙ little_put s1 (at + 8) 8 e.wait (omega arith) w.wait;
        row = d4 (at + 16) 2 (omega arith) ∙ little_put s2 (at + 16) 2 e.row (omega arith) w.row;
        bank = d5 (at + 18) 1 (omega arith) ∙ little_put s3 (at + 18) 1 e.bank (omega arith) w.bank;
        thread = d6 (at + 19) 1 (omega arith) ∙ little_put s4 (at + 19) 1 e.thread (omega arith) w.thread;
        kind = d7 (at + 20) 1 (omega arith) ∙ little_put s5 (at + 20) 1 e.kind (omega arith) (omega (arith, w.kind));
        answer = d8 (at + 21) 1 (omega arith) ∙ little_put s6 (at + 21) 1 e.answer (omega arith) (omega (arith, w.answer));
        rest = little_put s7 (at + 22) 2 0 (omega arith) (omega arith);
      })

-- two bytes whose number is 0
both_zero : (t : List ℕ) (k : ℕ) → little t k 2 ≡ 0 → (get_or t k 0 ≡ 0) × (get_or t (suc k) 0 ≡ 0)
unfolding little
both_zero t k h = (omega arith, omega arith)

pub put_holds : (s : List ℕ) (j : ℕ) (e : Entry) → length s ≡ 512 → j < 20 → Writable e → Holds (put_record s j e) j e
unfolding put_record entry_in
put_holds s j e len h w =
    let at = record_at j in
    let t = sets s at (record_bytes e) in
    let f = stored_fields s at e len (omega arith) w in
    let z = both_zero t (at + 22) f.rest in
    let e23 : at + 23 ≡ suc (at + 22) = omega arith in
    record {
      entry = rw (f.tick, f.wait, f.row, ← little_one t (at + 18), f.bank, ← little_one t (at + 19), f.thread, ← little_one t (at + 20), f.kind, ← little_one t (at + 21), f.answer);
      zero22 = z.0;
      zero23 = rw e23 z.1;
    }

-- ---- records of a block

put_length : (s : List ℕ) (j : ℕ) (e : Entry) → length (put_record s j e) ≡ length s
unfolding put_record
put_length s j e = length-sets s (record_at j) (record_bytes e)

pub puts_length : (s : List ℕ) (k : ℕ) (es : List Entry) → length (put_records s k es) ≡ length s
unfolding put_records
puts_length s k [] = refl
puts_length s k (e ∷ es) = puts_length (put_record s k e) (suc k) es ∙ put_length s k e

put_below : (s : List ℕ) (j : ℕ) (e : Entry) → Same (put_record s j e) s 0 (record_at j)
unfolding put_record
put_below s j e k a b = sets_below s (record_bytes e) (record_at j) k b

puts_below : (s : List ℕ) (k : ℕ) (es : List Entry) → Same (put_records s k es) s 0 (record_at k)
unfolding put_records
puts_below s k [] i a b = refl
puts_below s k (e ∷ es) i a b = puts_below (put_record s k e) (suc k) es i a (omega arith) ∙ put_below s k e i a b

-- the records of a block from record k on
abbrev pub HoldsAll : List ℕ → ℕ → List Entry → Type 0
HoldsAll t k [] = Unit {0}
HoldsAll t k (e ∷ es) = Holds t k e × HoldsAll t (suc k) es

puts_hold : (s : List ℕ) (k : ℕ) (es : List Entry) → length s ≡ 512 → k + length es ≤ 20 → All Writable es → HoldsAll (put_records s k es) k es
unfolding put_records
puts_hold s k [] len h w = tt
puts_hold s k (e ∷ es) len h w =
    let t = put_record s k e in (
      same_holds (put_records t (suc k) es) t k e (λ i a b. puts_below t (suc k) es i (omega arith) (omega arith)) (put_holds s k e len (omega arith) w.0),
      puts_hold t (suc k) es (put_length s k e ∙ len) (omega arith) w.1,
    )

same_all : (t u : List ℕ) (k : ℕ) (es : List Entry) → Same t u (record_at k) (record_at (k + length es)) → HoldsAll u k es → HoldsAll t k es
same_all t u k [] p h = tt
same_all t u k (e ∷ es) p h =
    (same_holds t u k e (λ i a b. p i a (omega arith)) h.0, same_all t u (suc k) es (λ i a b. p i (omega arith) (omega arith)) h.1)

-- they are read back
pub all_entries : (t : List ℕ) (k : ℕ) (es : List Entry) → HoldsAll t k es → entries_from t k (length es) ≡ es
all_entries t k [] h = refl
all_entries t k (e ∷ es) h = rw (h.0.entry, all_entries t (suc k) es h.1)

-- and laid out as they must be
one_laid_out : (t : List ℕ) (j : ℕ) (e : Entry) → Writable e → Holds t j e → record_laid_out t j ≡ true
unfolding record_laid_out entry_in
one_laid_out t j e w h =
    let kind : get_or t (record_at j + 20) 0 ≡ e.kind = ap (λ (x : Entry). x.kind) h.entry in
    let answer : get_or t (record_at j + 21) 0 ≡ e.answer = ap (λ (x : Entry). x.answer) h.entry in
    let z : zeros t (record_at j + 22) 2 ≡ true = zeros_all t (record_at j + 22) 2 zero_cell in
    rw (kind, answer, le-leb e.kind 1 w.kind, le-leb e.answer 4 w.answer, z)
  where
    zero_cell : (i : ℕ) → record_at j + 22 ≤ i → i < record_at j + 22 + 2 → get_or t i 0 ≡ 0
    zero_cell i a b = go (i - (record_at j + 22)) (omega arith)
      where
        go : (d : ℕ) → i ≡ record_at j + 22 + d → get_or t i 0 ≡ 0
        go zero q = let e0 : i ≡ record_at j + 22 = omega arith in rw e0 h.zero22
        go (suc zero) q = let e1 : i ≡ record_at j + 23 = omega arith in rw e1 h.zero23
        go (suc (suc d)) q = absurd (omega arith)

all_laid_out : (t : List ℕ) (k : ℕ) (es : List Entry) → All Writable es → HoldsAll t k es → (i : ℕ) → i < length es → record_laid_out t (k + i) ≡ true
all_laid_out t k [] w h i b = absurd (omega arith)
all_laid_out t k (e ∷ es) w h zero b = let z : k + 0 ≡ k = omega arith in rw z (one_laid_out t k e w.0 h.0)
all_laid_out t k (e ∷ es) w h (suc i) b = let z : k + suc i ≡ suc k + i = omega arith in rw z (all_laid_out t (suc k) es w.1 h.1 i (omega arith))

-- ---- a block of records

module _ (s : List ℕ) (b : ℕ) (es : List Entry) (len : length s ≡ 512) (low : 1 ≤ b) (high : b < 2 ^ 32) (some : 1 ≤ length es) (few : length es ≤ 20) (ws : All Writable es) where
  pub records_frame : Frame (put_records s 0 es) b (length es) (record_at (length es)) (records_block s b es)
  unfolding records_block
  records_frame = frame_of (put_records s 0 es) b (length es) (record_at (length es)) (puts_length s 0 es ∙ len) (omega arith) (omega arith) (omega arith) (omega arith)

  records_held : HoldsAll (records_block s b es) 0 es
  records_held =
      let f = records_frame in
      same_all (records_block s b es) (put_records s 0 es) 0 es (λ i x y. f.body i (omega arith) (omega arith)) (puts_hold s 0 es len (omega arith) ws)

  pub records_read : entries_in (records_block s b es) ≡ es
  records_read = rw records_frame.count (all_entries (records_block s b es) 0 es records_held)

  records_laid_out_lem : records_laid_out (records_block s b es) ≡ true
  unfolding records_laid_out
  records_laid_out_lem =
      let f = records_frame in
      let t = records_block s b es in
      let e : every (length es) (λ k. record_laid_out t k) ≡ true =
      is_true (every (length es) (λ k. record_laid_out t k)) (every_all (length es) (λ k. record_laid_out t k) one) in
      let z : zeros t (record_at (length es)) (500 - 24 * length es) ≡ true = zeros_all t (record_at (length es)) (500 - 24 * length es) (λ j x y. f.zeros_after j x (omega arith)) in
      rw (f.count, le-leb 1 (length es) some, le-leb (length es) 20 few, e, z)
    where
      one : (i : ℕ) → i < length es → T (record_laid_out (records_block s b es) i)
      one i h =
          let r = all_laid_out (records_block s b es) 0 es ws records_held i h in
          holds (record_laid_out (records_block s b es) i) (rw zero-add at r)

  pub records_sound : (before : ℕ) → in_turn b before ≡ true → block_refusal (records_block s b es) b before ≡ sound
  unfolding block_refusal laid_out
  records_sound before turn =
      let f = records_frame in
      let n : b ≡ 0 → ⊥ = λ z. omega arith in
      rw (f.check, f.number, eq-eqb b b refl, f.zeros_head, ne_eqb b 0 n, turn, records_laid_out_lem)
