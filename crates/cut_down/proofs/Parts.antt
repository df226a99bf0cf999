-- The parts of the answer: a refusal of the log, 20, 21, or the selection.
use mathlib.Core.Path.{◌≡◌, sym, ap, ◌∙◌}
use mathlib.Core.List.{List, [], ◌∷◌}
use mathlib.Core.Bool.{Bool, true, false}
use Prim.Native.Nat.{ℕ, suc, ◌-◌, ◌^◌, ◌≤◌, ◌<◌}
use native.Mathlib.Omega.{arith}
use lib.ListN.{length, replicate}
use Rattle.rules.specs.Policy.{limits01, narrow}
use Rattle.log_format.specs.Bytes.{block_at}
use Rattle.log_format.specs.Refusals.{log_refusal_number}
use Rattle.log_format.specs.Claims.{records_of, WellFormed}
use Rattle.cut_rules.specs.selections.Selections.{cut_down, word, bits}
use Rattle.cut_rules.proofs.selections.Words.{bits_all}
use Rattle.cut_rules.proofs.selections.Chosen.{chosen_all}
use Rattle.cut_rules.specs.Cut.{log_refusal, differing, differs_with, Cut, refused_with, keeps, cut_of, code_of, out_of}
use Rattle.cut_rules.proofs.Blocks.{refused_not}
use Rattle.cut_rules.proofs.Codes.{cut_refused, cut_many, cut_same, cut_keeps}

-- what a call left that returned the code
abbrev pub Leaves : List ℕ → ℕ → List ℕ → List ℕ → Type 0
Leaves bytes code before after = (code ≡ code_of (cut_of narrow bytes)) × (after ≡ out_of (cut_of narrow bytes) before)

by_cut : (bytes : List ℕ) (c : Cut) (before : List ℕ) → cut_of narrow bytes ≡ c → Leaves bytes (code_of c) before (out_of c before)
by_cut bytes c before e = (ap code_of (sym e), ap (λ (d : Cut). out_of d before) (sym e))

module _ (bytes before : List ℕ) (code : ℕ) (told : code ≡ log_refusal_number (log_refusal limits01 bytes)) where
  pub leaves_refused : (code ≡ 0 → ⊥) → Leaves bytes code before before
  leaves_refused n =
      let e : code ≡ suc (code - 1) = omega arith in
      let c = by_cut bytes (refused_with (suc (code - 1))) before (cut_refused narrow bytes (code - 1) (sym told ∙ e)) in
      (e ∙ c.0, c.1)

  module _ (z : code ≡ 0) (n : ℕ) (en : n ≡ length (records_of bytes)) where
    none : log_refusal_number (log_refusal limits01 bytes) ≡ 0
    none = sym told ∙ z

    pub well_formed : WellFormed bytes
    well_formed = (refused_not limits01 bytes none).0

    pub leaves_many : 64 < n → Leaves bytes 20 before before
    leaves_many h = by_cut bytes (refused_with 20) before (cut_many narrow bytes none (omega arith))

    module _ (few : n ≤ 64) (all : ℕ) (ea : all ≡ 2 ^ n - 1) (d : Bool) (said : d ≡ differs_with narrow bytes (bits n all)) where
      -- all records differ or not
      whole : d ≡ differing narrow (block_at bytes 0) (records_of bytes)
      whole =
          said ∙ ap (differs_with narrow bytes) (ap (bits n) ea ∙ bits_all n ∙ ap (λ (k : ℕ). replicate k true) en)
          ∙ ap (differing narrow (block_at bytes 0)) (chosen_all (records_of bytes))

      pub leaves_same : d ≡ false → Leaves bytes 21 before before
      leaves_same e = by_cut bytes (refused_with 21) before (cut_same narrow bytes none (omega arith) (sym whole ∙ e))

      pub leaves_kept : d ≡ true → (kept : ℕ) → kept ≡ word (cut_down (differs_with narrow bytes) n) → Leaves bytes 0 before (kept ∷ [])
      leaves_kept e kept ek =
          let c = by_cut bytes (keeps (cut_down (differs_with narrow bytes) (length (records_of bytes)))) before (cut_keeps narrow bytes none (omega arith) (sym whole ∙ e)) in
          (c.0, ap (λ (w : ℕ). w ∷ []) (ek ∙ ap (λ (k : ℕ). word (cut_down (differs_with narrow bytes) k)) en) ∙ c.1)
