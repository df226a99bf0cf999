-- A log whose setting is above the old limits ends at block 0 with 1 or 4.
use mathlib.Core.Path.{◌≡◌, sym, ap, ◌∙◌}
use mathlib.Core.Logic.{◌≢◌, ◌⊎◌, inl, inr}
use mathlib.Core.List.{List}
use Prim.Native.Nat.{ℕ, ◌/◌, ◌≤◌, ◌<◌}
use native.Mathlib.Omega.{arith}
use native.Mathlib.Decide.{dec_lt}
use lib.ListN.{length}
use Rattle.rules.specs.Answers.{Refusal, none, out_of_range, long_history, refusal_number}
use Rattle.rules.specs.Setting.{history_length, setting_refusal}
use Rattle.rules.specs.Policy.{limits01, limits02, narrow}
use Rattle.widths.specs.Claims.{TwoLimits}
use Rattle.widths.proofs.Limits.{two_limits}
use Rattle.log_format.specs.Bytes.{block_at}
use Rattle.log_format.specs.Refusals.{model, sound}
use Rattle.log_format.specs.Blocks.{block_refusal}
use Rattle.log_format.specs.Verdict.{refused_after, verdict}
use Rattle.log_format.specs.Claims.{setting_of_log, seeds_of_log}
use Rattle.consequences.specs.policies.Claims.{OldLimits}
use Rattle.consequences.proofs.policies.Marks.{setting_refused}

module _ (bytes : List ℕ) (some : 1 ≤ length bytes / 512) (b : block_refusal (block_at bytes 0) 0 0 ≡ sound) where
  -- the refusals about the log's setting at both limits
  both : TwoLimits (setting_of_log bytes) (seeds_of_log bytes)
  both = two_limits (setting_of_log bytes) (seeds_of_log bytes)

  -- a refusal of the old limits ends the log
  ended : (r : Refusal) → 0 < refusal_number r → setting_refusal limits01 (setting_of_log bytes) (seeds_of_log bytes) ≡ r → verdict narrow bytes ≡ refused_after (model r) 0
  ended r h e =
      setting_refused narrow bytes some b (λ z. omega (arith, ap refusal_number (sym e ∙ z)))
      ∙ ap (λ x. refused_after (model x) 0) e

  pub old_limits : OldLimits bytes
  old_limits =
      record {
        threshold = λ h. ended out_of_range (omega arith) (both.above_threshold h);
        history = λ n h r1 r2 r3. ended long_history (omega arith) (both.above_history n h r1 r2 r3);
        only_new = λ e o. go e o (dec_lt 32768 (setting_of_log bytes).n) (dec_lt 4096 (history_length (setting_of_log bytes)));
      }
    where
      go : setting_refusal limits02 (setting_of_log bytes) (seeds_of_log bytes) ≡ none → setting_refusal limits01 (setting_of_log bytes) (seeds_of_log bytes) ≢ none
          → Dec (32768 < (setting_of_log bytes).n) → Dec (4096 < history_length (setting_of_log bytes))
          → (verdict narrow bytes ≡ refused_after (model out_of_range) 0) ⊎ (verdict narrow bytes ≡ refused_after (model long_history) 0)
      go e o (yes n) d = inl (ended out_of_range (omega arith) (both.above_threshold n))
      go e o (no n) (yes h) =
          let other : (r : Refusal) → 0 < refusal_number r → setting_refusal limits02 (setting_of_log bytes) (seeds_of_log bytes) ≢ r = λ r k z. omega (arith, ap refusal_number (sym e ∙ z)) in
          inr (ended long_history (omega arith) (both.above_history (omega arith) h (other _ (omega arith)) (other _ (omega arith)) (other _ (omega arith))))
      go e o (no n) (no h) = absurd (o (sym (both.within (omega arith) (omega arith)) ∙ e))
