-- Which refusal is given of a log's blocks.
use mathlib.Core.Path.{◌≡◌, ap, ◌∙◌}
use mathlib.Core.List.{List}
use mathlib.Core.Bool.{Bool}
use Prim.Native.Nat.{ℕ, zero, suc, ◌+◌, ◌-◌, ◌/◌, ◌%◌, ◌≤◌}
use native.Mathlib.Omega.{arith}
use native.Mathlib.Numerals.{add-one}
use lib.Dec.{eqb}
use lib.ListN.{length}
use borrow.Author.Tests.{ne_eqb}
use Rattle.rules.specs.declared.Limits.{Limits}
use Rattle.rules.specs.Answers.{refusal_number}
use Rattle.rules.specs.Setting.{setting_refusal}
use Rattle.rules.specs.Policy.{Policy}
use Rattle.rules.proofs.Accept.{number_none}
use Rattle.log_format.specs.Bytes.{block_at, blocks_from}
use Rattle.log_format.specs.Refusals.{model, log_refusal_number}
use Rattle.log_format.specs.Contents.{count_in}
use Rattle.log_format.specs.Blocks.{block_refusal}
use Rattle.log_format.specs.Claims.{setting_of_log, seeds_of_log, SoundFrom}
use Rattle.log_format.proofs.Judged.{number_sound}
use Rattle.cut_rules.specs.Cut.{blocks_refusal, log_refusal}
use Rattle.cut_rules.specs.Claims.{Begun, BlocksInTurn}
use Rattle.cut_rules.proofs.Blocks.{first_here, first_next, later_next, later_here, end_cut, start_count, log_refusal_lem, no_block}

module _ (m : Limits) (bytes : List ℕ) (whole : Bool) where
  -- the blocks behind c sound ones
  reach : (c a n : ℕ) → c ≤ n → SoundFrom (suc a) (count_in (block_at bytes a)) (blocks_from bytes (suc a) c)
      → blocks_refusal m (suc a) (count_in (block_at bytes a)) (blocks_from bytes (suc a) n) whole
      ≡ blocks_refusal m (suc (a + c)) (count_in (block_at bytes (a + c))) (blocks_from bytes (suc (a + c)) (n - c)) whole
  reach zero a n h ok =
      let e : a + 0 ≡ a = omega arith in
      let z : n - 0 ≡ n = omega arith in
      rw (e, z)
  reach (suc c) a n h ok =
      let e : a + suc c ≡ suc a + c = omega arith in
      let z : n - suc c ≡ n - 1 - c = omega arith in
      later_next m bytes (suc a) (count_in (block_at bytes a)) n whole (omega arith) (omega arith) (ap log_refusal_number ok.0)
      ∙ rw (e, z, add-one (suc a)) (reach c (suc a) (n - 1) (omega arith) (rw (add-one (suc a)) at ok.1))

module _ (m : Limits) (bytes : List ℕ) where
  abbrev whole : Bool
  whole = eqb (length bytes % 512) 0

  -- behind block 0, its setting and b more
  begun : (b : ℕ) → suc b ≤ length bytes / 512 → Begun m bytes b
      → log_refusal m bytes ≡ blocks_refusal m (suc b) (count_in (block_at bytes b)) (blocks_from bytes (suc b) (length bytes / 512 - 1 - b)) whole
  begun b h g =
      let z : 0 + b ≡ b = omega arith in
      log_refusal_lem m bytes (omega arith) ∙ first_next (block_refusal (block_at bytes 0) 0 0) _ (ap log_refusal_number g.start)
      ∙ first_next (model (setting_refusal m (setting_of_log bytes) (seeds_of_log bytes))) _ (ap refusal_number g.accepted)
      ∙ (rw z at (reach m bytes whole b 0 (length bytes / 512 - 1) (omega arith) (rw (start_count (block_at bytes 0) (ap log_refusal_number g.start)) g.later)))

pub blocks_in_turn : (p : Policy) → BlocksInTurn p
blocks_in_turn p bytes =
    record {
      empty = λ h. no_block m bytes (omega arith);
      start = λ h n. log_refusal_lem m bytes (omega arith) ∙ first_here (block_refusal (block_at bytes 0) 0 0) _ (λ e. n (number_sound (block_refusal (block_at bytes 0) 0 0) e));
      setting = λ h s n.
          log_refusal_lem m bytes (omega arith) ∙ first_next (block_refusal (block_at bytes 0) 0 0) _ (ap log_refusal_number s)
          ∙ first_here (model (setting_refusal m (setting_of_log bytes) (seeds_of_log bytes))) _ (λ e. n (number_none (setting_refusal m (setting_of_log bytes) (seeds_of_log bytes)) e));
      later = λ b h g n.
          begun m bytes b (omega arith) g
          ∙ later_here m bytes (suc b) (count_in (block_at bytes b)) (length bytes / 512 - 1 - b) _ (omega arith) (λ e. n (number_sound (block_refusal (block_at bytes (suc b)) (suc b) (count_in (block_at bytes b))) e));
      ending = λ b h k g.
          let n : length bytes % 512 ≡ 0 → ⊥ = λ z. omega arith in
          let z : length bytes / 512 - 1 - b ≡ 0 = omega arith in
          begun m bytes b (omega arith) g ∙ rw (z, ne_eqb (length bytes % 512) 0 n) (end_cut m (suc b) (count_in (block_at bytes b)));
    }
  where
    m : Limits
    m = p.limits
