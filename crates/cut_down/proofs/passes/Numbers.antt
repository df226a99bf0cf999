-- Passes over a number whose bits are a selection.
use mathlib.Core.Path.{◌≡◌, refl, sym, ap, ◌∙◌, subst}
use mathlib.Core.List.{List}
use mathlib.Core.Bool.{Bool}
use Prim.Native.Nat.{ℕ, ◌+◌, ◌-◌, ◌^◌, ◌≤◌, ◌<◌}
use native.Mathlib.Omega.{arith}
use native.Mathlib.Nat.{zero-add}
use native.Mathlib.Numerals.{add-one}
use lib.Pow.{pow_pos}
use Rattle.cut_rules.specs.selections.Selections.{tried, tried_from, pass, cut_down, word, bits}
use Rattle.cut_rules.proofs.selections.Words.{bits_length, bits_all, word_bits, same_bits}
use Rattle.cut_rules.proofs.selections.Passes.{from_more, Settles, settles_start, settles_more, settles_end}

-- all n records are a number of n bits
pub below : (n all : ℕ) → all ≡ 2 ^ n - 1 → all < 2 ^ n
below n all e = omega (arith, pow_pos n)

module _ (test : List Bool → Bool) (n : ℕ) where
  -- ---- a pass

  -- after the tries of the first i records
  pub from_none : (m : ℕ) → bits n m ≡ tried_from test 0 0 (bits n m)
  from_none m = refl

  pub from_next : (m w r i : ℕ) → bits n w ≡ tried_from test 0 i (bits n m) → bits n r ≡ tried test i (bits n w) → bits n r ≡ tried_from test 0 (i + 1) (bits n m)
  from_next m w r i e t =
      t ∙ ap (tried test i) e ∙ ap (λ (k : ℕ). tried test k (tried_from test 0 i (bits n m))) (sym (zero-add i)) ∙ sym (from_more test 0 i (bits n m))
      ∙ ap (λ (k : ℕ). tried_from test 0 k (bits n m)) (sym (add-one i))

  pub from_all : (m w i : ℕ) → i ≡ n → bits n w ≡ tried_from test 0 i (bits n m) → bits n w ≡ pass test (bits n m)
  unfolding pass
  from_all m w i k e = e ∙ ap (λ (j : ℕ). tried_from test 0 j (bits n m)) (k ∙ sym (bits_length n m))

  -- ---- the passes

  pub start : (all : ℕ) → all ≡ 2 ^ n - 1 → Settles test n (bits n all)
  start all e = subst (Settles test n) (sym (ap (bits n) e ∙ bits_all n)) (settles_start test n)

  module _ (m w : ℕ) (lm : m < 2 ^ n) (lw : w ≤ m) (s : Settles test n (bits n m)) (t : bits n w ≡ pass test (bits n m)) where
    pub more : (w ≡ m → ⊥) → Settles test n (bits n w)
    more d = subst (Settles test n) (sym t) (settles_more test n (bits n m) s (λ e. d (same_bits n w m (omega arith) lm (t ∙ e))))

    pub done : w ≡ m → m ≡ word (cut_down test n)
    done e = sym (word_bits n m lm) ∙ ap word (settles_end test n (bits n m) s (sym t ∙ ap (bits n) e))
