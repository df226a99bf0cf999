-- The parts of a log's refusal: no block, block 0, its setting, the later blocks.
use mathlib.Core.Path.{◌≡◌, refl, sym, ap, ◌∙◌}
use mathlib.Core.List.{List}
use Prim.Native.Nat.{ℕ, ◌/◌, ◌%◌, ◌≤◌}
use lib.Dec.{eqb}
use lib.ListN.{length}
use Rattle.std.specs.Prelude.{Result, Ok, Err}
use Rattle.rules.specs.declared.Setting.{Setting}
use Rattle.rules.specs.Answers.{refusal_number}
use Rattle.rules.specs.Setting.{setting_refusal}
use Rattle.rules.specs.Policy.{limits01}
use Rattle.refused.specs.declared.Refusal.{Refusal}
use Rattle.refused.specs.Numbers.{number_of, code_of}
use Rattle.refused.specs.Passed.{passed}
use Rattle.refused.proofs.Laws.{code_passed, number_some}
use Rattle.log_format.specs.Bytes.{block_at}
use Rattle.log_format.specs.Refusals.{model, sound, log_refusal_number}
use Rattle.log_format.specs.Contents.{setting_in, seeds_in}
use Rattle.log_format.specs.Blocks.{block_refusal}
use Rattle.log_format.specs.Claims.{setting_of_log, seeds_of_log, later_of}
use Rattle.cut_rules.specs.Cut.{blocks_refusal, log_refusal}
use Rattle.cut_rules.proofs.Blocks.{first_here, first_next, log_refusal_lem, no_block, start_count}

module _ (bytes : List ℕ) where
  pub refused_empty : length bytes / 512 ≡ 0 → 11 ≡ log_refusal_number (log_refusal limits01 bytes)
  refused_empty e = sym (ap log_refusal_number (no_block limits01 bytes e))

  -- block 0, copied, and what its test returned
  module _ (some : 1 ≤ length bytes / 512) (block : List ℕ) (copied : block ≡ block_at bytes 0) (code : ℕ) (told : code ≡ log_refusal_number (block_refusal block 0 0)) where
    here : code ≡ log_refusal_number (block_refusal (block_at bytes 0) 0 0)
    here = rw copied at told

    pub refused_block : (code ≡ 0 → ⊥) → code ≡ log_refusal_number (log_refusal limits01 bytes)
    refused_block n = here ∙ sym (ap log_refusal_number (log_refusal_lem limits01 bytes some ∙ first_here (block_refusal (block_at bytes 0) 0 0) _ (λ z. n (here ∙ z))))

    -- its setting and what that returned
    module _ (sound : code ≡ 0) (s : Setting) (seeds : List ℕ) (es : s ≡ setting_in block) (eseeds : seeds ≡ seeds_in block) (number : ℕ)
        (said : number ≡ refusal_number (setting_refusal limits01 s seeds)) where
      theirs : number ≡ refusal_number (setting_refusal limits01 (setting_of_log bytes) (seeds_of_log bytes))
      theirs = rw (es, eseeds, copied) at said

      pub refused_setting : (number ≡ 0 → ⊥) → number ≡ log_refusal_number (log_refusal limits01 bytes)
      refused_setting n =
          theirs
          ∙ sym
          (ap log_refusal_number
          (log_refusal_lem limits01 bytes some ∙ first_next (block_refusal (block_at bytes 0) 0 0) _ (sym here ∙ sound)
          ∙ first_here (model (setting_refusal limits01 (setting_of_log bytes) (seeds_of_log bytes))) _ (λ z. n (theirs ∙ z))))

      pub refused_later : number ≡ 0 → (rest : ℕ) → rest ≡ log_refusal_number (blocks_refusal limits01 1 0 (later_of bytes) (eqb (length bytes % 512) 0))
          → rest ≡ log_refusal_number (log_refusal limits01 bytes)
      refused_later z rest e =
          e
          ∙ sym
          (ap log_refusal_number
          (log_refusal_lem limits01 bytes some ∙ first_next (block_refusal (block_at bytes 0) 0 0) _ (sym here ∙ sound)
          ∙ first_next (model (setting_refusal limits01 (setting_of_log bytes) (seeds_of_log bytes))) _ (sym theirs ∙ z)
          ∙ ap (λ (c : ℕ). blocks_refusal limits01 1 c (later_of bytes) (eqb (length bytes % 512) 0)) (start_count (block_at bytes 0) (sym here ∙ sound))))

-- ---- by what the setting's test tells

-- the number of the setting's refusal, else that of the later blocks
abbrev pub or_later : Result (Unit {0}) Refusal → ℕ → ℕ
or_later (Ok u) later = later
or_later (Err r) later = number_of r

module _ (bytes : List ℕ) where
  abbrev told : Result (Unit {0}) Refusal
  told = passed (setting_refusal limits01 (setting_in (block_at bytes 0)) (seeds_in (block_at bytes 0)))

  abbrev later : ℕ
  later = log_refusal_number (blocks_refusal limits01 1 0 (later_of bytes) (eqb (length bytes % 512) 0))

  -- block 0 is sound: its setting and the later blocks are left
  pub setting_told : 1 ≤ length bytes / 512 → block_refusal (block_at bytes 0) 0 0 ≡ sound
      → log_refusal_number (log_refusal limits01 bytes) ≡ or_later told later
  setting_told some e = go told refl
    where
      zero : 0 ≡ log_refusal_number (block_refusal (block_at bytes 0) 0 0)
      zero = sym (ap log_refusal_number e)

      go : (t : Result (Unit {0}) Refusal) → t ≡ told → log_refusal_number (log_refusal limits01 bytes) ≡ or_later t later
      go (Ok u) f =
          sym (refused_later bytes some (block_at bytes 0) refl 0 zero refl _ _ refl refl 0 (ap code_of f ∙ code_passed _) refl later refl)
      go (Err r) f =
          sym (refused_setting bytes some (block_at bytes 0) refl 0 zero refl _ _ refl refl (number_of r) (ap code_of f ∙ code_passed _) (number_some r))
