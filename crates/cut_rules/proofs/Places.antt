-- Where record i of a well-formed log stands: every block but the last has 20 records.
use mathlib.Core.Path.{◌≡◌, sym, ap, ◌∙◌}
use mathlib.Core.List.{List, [], ◌∷◌, ◌++◌}
use mathlib.Core.Bool.{Bool, true, false, ◌&&◌, ◌||◌}
use Prim.Native.Nat.{ℕ, zero, suc, ◌+◌, ◌-◌, ◌*◌, ◌/◌, ◌%◌, ◌≤◌, ◌<◌}
use native.Mathlib.Omega.{arith}
use native.Mathlib.Decide.{dec_lt}
use lib.Dec.{T, leb, eqb, leb→le}
use lib.ListN.{length, drop, length-append}
use borrow.Author.Tests.{ne_eqb}
use Rattle.rules.proofs.Tests.{and_l, and_r, holds}
use Rattle.log_format.specs.declared.Entry.{Entry}
use Rattle.log_format.specs.Bytes.{little, zeros, block_at, blocks_from}
use Rattle.log_format.specs.Refusals.{sound, log_refusal_number}
use Rattle.log_format.specs.Contents.{count_in, entry_in, entries_from, entries_in}
use Rattle.log_format.specs.Blocks.{records_laid_out, in_turn, laid_out, block_refusal}
use Rattle.log_format.specs.Claims.{entries_of, records_of, SoundFrom, WellFormed}
use Rattle.log_format.proofs.Judged.{length_entries}
use Rattle.log_format.proofs.Steps.{sound_laid_out, later_count}

-- ---- a block before another one

-- what a later block's layout asks for
pub later_parts : (s : List ℕ) (index before : ℕ) → 1 ≤ index → block_refusal s index before ≡ sound → T (in_turn index before) × T (records_laid_out s)
unfolding laid_out
later_parts s index before h e =
    let n : index ≡ 0 → ⊥ = λ z. omega arith in
    let t : T (eqb (little s 0 4) index && zeros s 5 3 && (in_turn index before && records_laid_out s)) =
    holds _ (rw (ne_eqb index 0 n) at (sound_laid_out s index before (ap log_refusal_number e))) in
    let both = and_r (eqb (little s 0 4) index && zeros s 5 3) (in_turn index before && records_laid_out s) t in
    (and_l (in_turn index before) (records_laid_out s) both, and_r (in_turn index before) (records_laid_out s) both)

or_turn : (a b : Bool) → T (a || b) → (T a → ⊥) → T b
or_turn true b t n = absurd (n tt)
or_turn false b t n = t

-- a block after block 1 follows one of 20 records
pub full_before : (s : List ℕ) (index before : ℕ) → 2 ≤ index → block_refusal s index before ≡ sound → 20 ≤ before
unfolding in_turn
full_before s index before h e =
    let turn = (later_parts s index before (omega arith) e).0 in
    leb→le 20 before (or_turn (leb index 1) (leb 20 before) turn (λ l. let k = leb→le index 1 l in omega arith))

-- ---- entry i of a list

drop_entries : (s : List ℕ) (rest : List Entry) (k c i : ℕ) → i < c
    → drop i (entries_from s k c ++ rest) ≡ entry_in s (k + i) ∷ drop (suc i) (entries_from s k c ++ rest)
drop_entries s rest k zero i h = absurd (omega arith)
drop_entries s rest k (suc c) zero h = let e : k ≡ k + 0 = omega arith in ap (λ (j : ℕ). entry_in s j ∷ (entries_from s (suc k) c ++ rest)) e
drop_entries s rest k (suc c) (suc i) h =
    let e : suc k + i ≡ k + suc i = omega arith in
    drop_entries s rest (suc k) c i (omega arith) ∙ ap (λ (j : ℕ). entry_in s j ∷ drop (suc i) (entries_from s (suc k) c ++ rest)) e

drop_past : {A : Type 0} (xs rest : List A) (i : ℕ) → drop (length xs + i) (xs ++ rest) ≡ drop i rest
drop_past [] rest i = let e : 0 + i ≡ i = omega arith in ap (λ (j : ℕ). drop j rest) e
drop_past (a ∷ xs) rest i =
    let e : suc (length xs) + i ≡ suc (length xs + i) = omega arith in
    ap (λ (j : ℕ). drop j (a ∷ (xs ++ rest))) e ∙ drop_past xs rest i

-- ---- record i of the blocks from block b on

pub record Placed (bytes : List ℕ) (b n i : ℕ) (es : List Entry) : Type 0 where
  pub within : i / 20 < n
  pub next : drop i es ≡ entry_in (block_at bytes (b + i / 20)) (i % 20) ∷ drop (suc i) es

module _ (bytes : List ℕ) where
  placed : (n b before i : ℕ) → 1 ≤ b → SoundFrom b before (blocks_from bytes b n) → i < length (entries_of (blocks_from bytes b n))
      → Placed bytes b n i (entries_of (blocks_from bytes b n))
  placed zero b before i h ok k = absurd (omega arith)
  placed (suc n) b before i h ok k =
      go n (dec_lt i c) ok.1 (omega (arith, length-append (entries_in s) (entries_of (blocks_from bytes (suc b) n)), long))
      (λ j f l. placed n (suc b) c j (omega arith) f l)
    where
      s : List ℕ
      s = block_at bytes b

      c : ℕ
      c = count_in (block_at bytes b)

      long : length (entries_in (block_at bytes b)) ≡ count_in (block_at bytes b)
      long = length_entries (block_at bytes b) 0 (count_in (block_at bytes b))

      few : count_in (block_at bytes b) ≤ 20
      few = (later_count (block_at bytes b) b before h (sound_laid_out (block_at bytes b) b before (ap log_refusal_number ok.0))).1

      go : (l : ℕ) → Dec (i < count_in (block_at bytes b)) → SoundFrom (b + 1) (count_in (block_at bytes b)) (blocks_from bytes (suc b) l)
          → i < count_in (block_at bytes b) + length (entries_of (blocks_from bytes (suc b) l))
          → ((j : ℕ) → SoundFrom (suc b) (count_in (block_at bytes b)) (blocks_from bytes (suc b) l) → j < length (entries_of (blocks_from bytes (suc b) l))
          → Placed bytes (suc b) l j (entries_of (blocks_from bytes (suc b) l)))
          → Placed bytes b (suc l) i (entries_in (block_at bytes b) ++ entries_of (blocks_from bytes (suc b) l))
      go l (yes q) later r ih =
          let d : i / 20 ≡ 0 = omega (arith, few) in
          let e : i % 20 ≡ i = omega (arith, few) in
          let z : b + 0 ≡ b = omega arith in
          let o : 0 + i ≡ i = omega arith in
          record { within = omega arith; next = rw (d, e, z) (rw o at (drop_entries (block_at bytes b) (entries_of (blocks_from bytes (suc b) l)) 0 (count_in (block_at bytes b)) i q)) }
      go zero (no q) later r ih = absurd (omega arith)
      go (suc l) (no q) later r ih =
          let one : b + 1 ≡ suc b = omega arith in
          let full = full_before (block_at bytes (suc b)) (b + 1) (count_in (block_at bytes b)) (omega arith) later.0 in
          let same : count_in (block_at bytes b) ≡ 20 = omega (arith, few) in
          let p = ih (i - 20) (rw one at later) (omega arith) in
          let rest = entries_of (blocks_from bytes (suc b) (suc l)) in
          let es = entries_in (block_at bytes b) in
          let here : length es + (i - 20) ≡ i = omega (arith, long) in
          let after : length es + suc (i - 20) ≡ suc i = omega (arith, long) in
          let d : b + i / 20 ≡ suc b + (i - 20) / 20 = omega arith in
          let e : i % 20 ≡ (i - 20) % 20 = omega arith in
          record {
            within = omega (arith, p.within);
            next =
                ap (λ (j : ℕ). drop j (es ++ rest)) (sym here) ∙ drop_past es rest (i - 20) ∙ p.next
                ∙ rw (d, e) (ap (λ (t : List Entry). entry_in (block_at bytes (suc b + (i - 20) / 20)) ((i - 20) % 20) ∷ t) (sym (drop_past es rest (suc (i - 20))) ∙ ap (λ (j : ℕ). drop j (es ++ rest)) after));
          }

  -- of a well-formed log: the block of record i is there, and its entry is the record
  pub record_placed : WellFormed bytes → (i : ℕ) → i < length (records_of bytes)
      → (512 * (1 + i / 20) + 512 ≤ length bytes)
      × (drop i (records_of bytes) ≡ entry_in (block_at bytes (1 + i / 20)) (i % 20) ∷ drop (suc i) (records_of bytes))
  record_placed w i h =
      let p = placed (length bytes / 512 - 1) 1 0 i (omega arith) w.later h in
      (omega (arith, p.within), p.next)
