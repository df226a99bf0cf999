-- One try over a number whose bits are a selection.
use mathlib.Core.Path.{◌≡◌, sym, ap, ◌∙◌}
use mathlib.Core.List.{List}
use mathlib.Core.Bool.{Bool, true, false}
use Prim.Native.Nat.{ℕ, ◌-◌, ◌/◌, ◌%◌, ◌^◌, ◌≤◌, ◌<◌}
use native.Mathlib.Omega.{arith}
use borrow.Author.Tests.{eqb-true}
use Rattle.cut_rules.specs.selections.Selections.{stays, tried, bits}
use Rattle.cut_rules.proofs.selections.Words.{bits_stays, bits_less, bit_le}
use Rattle.cut_rules.proofs.selections.Passes.{tried_gone, tried_out, tried_needed}

module _ (test : List Bool → Bool) (n : ℕ) where
  module _ (i m : ℕ) (h : i < n) where
    pub try_gone : stays (bits n m) i ≡ false → bits n m ≡ tried test i (bits n m)
    try_gone e = sym (tried_gone test i (bits n m) e)

    module _ (there : stays (bits n m) i ≡ true) where
      here : m / 2 ^ i % 2 ≡ 1
      here = eqb-true (m / 2 ^ i % 2) 1 (sym (bits_stays n m i h) ∙ there)

      pub try_fits : 2 ^ i ≤ m
      try_fits = let e = here in bit_le i m (λ z. omega arith)

      pub try_out : test (bits n (m - 2 ^ i)) ≡ true → bits n (m - 2 ^ i) ≡ tried test i (bits n m)
      try_out e = let l = bits_less n m i h here in l ∙ sym (tried_out test i (bits n m) there (ap test (sym l) ∙ e))

      pub try_needed : test (bits n (m - 2 ^ i)) ≡ false → bits n m ≡ tried test i (bits n m)
      try_needed e = sym (tried_needed test i (bits n m) there (ap test (sym (bits_less n m i h here)) ∙ e))
