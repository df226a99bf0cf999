-- The return code of every log, case by case.
use mathlib.Core.Path.{◌≡◌, refl, sym, ap, ◌∙◌}
use mathlib.Core.List.{List}
use mathlib.Core.Bool.{Bool, true, false, not}
use Prim.Native.Nat.{ℕ, zero, suc, ◌≤◌, ◌<◌}
use native.Mathlib.Omega.{arith}
use native.Mathlib.Decide.{dec_lt}
use lib.Dec.{T}
use lib.ListN.{length}
use borrow.Author.Tests.{lt-ltb, le-ltb}
use Rattle.rules.specs.Policy.{Policy}
use Rattle.log_format.specs.Bytes.{block_at}
use Rattle.log_format.specs.Refusals.{log_refusal_number}
use Rattle.log_format.specs.Verdict.{verdict}
use Rattle.log_format.specs.Claims.{records_of}
use Rattle.cut_rules.specs.selections.Selections.{cut_down}
use Rattle.cut_rules.specs.Cut.{log_refusal, is_differs, differing, differs_with, Cut, refused_with, keeps, cut_of, code_of, out_of}
use Rattle.cut_rules.specs.Claims.{Readable, ReadableExactly, CodesExactly, RefusedLeaves}
use Rattle.cut_rules.proofs.Verdicts.{verdict_differs}
use Rattle.cut_rules.proofs.Blocks.{refused_not, not_refused}

module _ (p : Policy) where
  pub readable_exactly : ReadableExactly p
  readable_exactly bytes = (
    λ e. let h = refused_not p.limits bytes e in record { well_formed = h.0; accepted = h.1 },
    λ r. ap log_refusal_number (not_refused p.limits bytes r.well_formed r.accepted),
  )

module _ (p : Policy) (bytes : List ℕ) where
  -- ---- for code: what is left, test by test

  abbrev refusal : ℕ
  refusal = log_refusal_number (log_refusal p.limits bytes)

  abbrev many : ℕ
  many = length (records_of bytes)

  pub cut_refused : (n : ℕ) → refusal ≡ suc n → cut_of p bytes ≡ refused_with (suc n)
  unfolding cut_of
  cut_refused n e = rw (e, lt-ltb 0 (suc n) (omega arith))

  pub cut_many : refusal ≡ 0 → 64 < many → cut_of p bytes ≡ refused_with 20
  unfolding cut_of
  cut_many e h = rw (e, lt-ltb 64 many h)

  pub cut_same : refusal ≡ 0 → many ≤ 64 → differing p (block_at bytes 0) (records_of bytes) ≡ false → cut_of p bytes ≡ refused_with 21
  unfolding cut_of
  cut_same e h d = rw (e, le-ltb 64 many h, d)

  pub cut_keeps : refusal ≡ 0 → many ≤ 64 → differing p (block_at bytes 0) (records_of bytes) ≡ true
      → cut_of p bytes ≡ keeps (cut_down (differs_with p bytes) many)
  unfolding cut_of
  cut_keeps e h d = rw (e, le-ltb 64 many h, d)

  -- ---- where 0 is returned

  pub record Kept : Type 0 where
    pub readable : refusal ≡ 0
    pub few : many ≤ 64
    pub differs : differing p (block_at bytes 0) (records_of bytes) ≡ true

  pub code_kept : code_of (cut_of p bytes) ≡ 0 → Kept
  code_kept c = go refusal refl (dec_lt 64 many) (differing p (block_at bytes 0) (records_of bytes)) refl
    where
      go : (r : ℕ) → refusal ≡ r → Dec (64 < many) → (b : Bool) → differing p (block_at bytes 0) (records_of bytes) ≡ b → Kept
      go (suc r) e h b d = let k : suc r ≡ 0 = sym (ap code_of (cut_refused r e)) ∙ c in absurd (omega arith)
      go zero e (yes h) b d = let k : ◌≡◌ {A = ℕ} 20 0 = sym (ap code_of (cut_many e h)) ∙ c in absurd (omega arith)
      go zero e (no h) false d = let k : ◌≡◌ {A = ℕ} 21 0 = sym (ap code_of (cut_same e (omega arith) d)) ∙ c in absurd (omega arith)
      go zero e (no h) true d = record { readable = e; few = omega arith; differs = d }

-- ---- the claims

pub true_of : (b : Bool) → T b → b ≡ true
true_of true t = refl
true_of false t = absurd t

pub false_of : (b : Bool) → T (not b) → b ≡ false
false_of true t = absurd t
false_of false t = refl

pub codes_exactly : (p : Policy) → CodesExactly p
codes_exactly p bytes =
    record {
      unreadable = λ n e. ap code_of (cut_refused p bytes n e);
      many = λ r h. ap code_of (cut_many p bytes (ok r) h);
      same = λ r h d. ap code_of (cut_same p bytes (ok r) h (says r ∙ false_of (is_differs (verdict p bytes)) d));
      answered = λ r h d. ap code_of (cut_keeps p bytes (ok r) h (says r ∙ true_of (is_differs (verdict p bytes)) d));
    }
  where
    ok : Readable p bytes → log_refusal_number (log_refusal p.limits bytes) ≡ 0
    ok = (readable_exactly p bytes).1

    says : Readable p bytes → differing p (block_at bytes 0) (records_of bytes) ≡ is_differs (verdict p bytes)
    says r = sym (verdict_differs p bytes r.well_formed)

pub refused_leaves : (p : Policy) → RefusedLeaves p
refused_leaves p bytes before n e = go (cut_of p bytes) e
  where
    go : (c : Cut) → code_of c ≡ suc n → out_of c before ≡ before
    go (refused_with k) e = refl
    go (keeps sel) e = let z : 0 ≡ suc n = e in absurd (omega arith)
