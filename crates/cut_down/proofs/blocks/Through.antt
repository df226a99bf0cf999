-- The blocks of a log after block 0, one by one.
use mathlib.Core.Path.{◌≡◌, refl, sym, ap, ◌∙◌}
use mathlib.Core.List.{List}
use mathlib.Core.Bool.{Bool, true, false}
use Prim.Native.Nat.{ℕ, suc, ◌+◌, ◌-◌, ◌*◌, ◌≤◌, ◌<◌}
use native.Mathlib.Omega.{arith}
use native.Mathlib.Numerals.{add-one}
use lib.ListN.{length, length-append}
use Rattle.rules.specs.Policy.{limits01}
use Rattle.log_format.specs.Bytes.{block_at, blocks_from}
use Rattle.log_format.specs.Refusals.{log_refusal_number}
use Rattle.log_format.specs.Contents.{count_in, entries_in}
use Rattle.log_format.specs.Blocks.{block_refusal}
use Rattle.log_format.specs.Claims.{entries_of}
use Rattle.log_format.proofs.Judged.{length_entries}
use Rattle.cut_rules.specs.Cut.{blocks_refusal}
use Rattle.cut_rules.proofs.Blocks.{later_next, later_here, end_whole, end_cut}

module _ (bytes : List ℕ) (n : ℕ) (whole : Bool) where
  -- the number that all n blocks give, and how many records the later ones have
  abbrev pub number : ℕ
  number = log_refusal_number (blocks_refusal limits01 1 0 (blocks_from bytes 1 (n - 1)) whole)

  abbrev pub records_in : ℕ → ℕ
  records_in b = length (entries_of (blocks_from bytes b (n - b)))

  -- before block b: what the rest gives is what all give; before is the record count of the block before it
  pub record Through (b before records : ℕ) : Type 0 where
    pub some : 1 ≤ b
    pub within : b ≤ n
    pub few : records ≤ 256 * b
    pub rest : number ≡ log_refusal_number (blocks_refusal limits01 b before (blocks_from bytes b (n - b)) whole)
    pub total : records + records_in b ≡ records_in 1

  pub through_none : 1 ≤ n → Through 1 0 0
  through_none h = record { some = omega arith; within = h; few = omega arith; rest = refl; total = omega arith }

  -- the records of block b and of the others
  records_next : (b : ℕ) → b < n → records_in b ≡ count_in (block_at bytes b) + records_in (b + 1)
  records_next b h =
      let later = entries_of (blocks_from bytes (suc b) (n - suc b)) in
      let d : n - b ≡ suc (n - suc b) = omega arith in
      rw (d, add-one b)
      (length-append (entries_in (block_at bytes b)) later ∙ ap (λ (k : ℕ). k + length later) (length_entries (block_at bytes b) 0 (count_in (block_at bytes b))))

  module _ (b before records : ℕ) (t : Through b before records) where
    -- block b, copied, and what its test returned
    module _ (block : List ℕ) (copied : block ≡ block_at bytes b) (h : b < n) (code : ℕ) (told : code ≡ log_refusal_number (block_refusal block b before)) where
      here : code ≡ log_refusal_number (block_refusal (block_at bytes b) b before)
      here = rw copied at told

      pub through_more : code ≡ 0 → (count : ℕ) → count ≡ count_in block → count < 256 → Through (b + 1) count (records + count)
      through_more z count e c =
          let k : n - b - 1 ≡ n - (b + 1) = omega arith in
          let same : count ≡ count_in (block_at bytes b) = rw copied at e in
          record {
            some = omega arith;
            within = omega arith;
            few = omega (arith, t.few);
            rest = t.rest ∙ ap log_refusal_number (later_next limits01 bytes b before (n - b) whole (omega arith) t.some (sym here ∙ z)) ∙ rw (k, same) refl;
            total = omega (arith, t.total, records_next b h);
          }

      pub through_refused : (code ≡ 0 → ⊥) → code ≡ number
      through_refused z =
          here ∙ sym (t.rest ∙ ap log_refusal_number (later_here limits01 bytes b before (n - b) whole (omega arith) (λ k. z (here ∙ k))))

    pub through_cut : n ≤ b → whole ≡ false → 11 ≡ number
    through_cut h e =
        let z : n - b ≡ 0 = omega (arith, t.within) in
        sym (t.rest ∙ rw (z, e) (ap log_refusal_number (end_cut limits01 b before)))

    pub through_all : n ≤ b → whole ≡ true → (0 ≡ number) × (records ≡ records_in 1)
    through_all h e =
        let z : n - b ≡ 0 = omega (arith, t.within) in
        let none : records_in b ≡ 0 = rw z refl in
        (sym (t.rest ∙ rw (z, e) (ap log_refusal_number (end_whole limits01 b before t.some))), omega (arith, t.total))
