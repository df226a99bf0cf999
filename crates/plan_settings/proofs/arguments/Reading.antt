-- A word read byte by byte: what one byte more gives, over plain variables. The code is that of the byte at place i.
use mathlib.Core.Path.{◌≡◌, ◌∙◌}
use mathlib.Core.List.{List}
use mathlib.Core.Bool.{cond}
use mathlib.Core.Logic.{◌⊎◌, inl, inr}
use Prim.Native.Nat.{ℕ, zero, suc, ◌+◌, ◌-◌, ◌≤◌, ◌<◌}
use native.Mathlib.Omega.{arith}
use native.Mathlib.Nat.{not-suc-le-zero}
use native.Mathlib.Numerals.{add-one}
use lib.Dec.{ltb}
use lib.ListN.{length, get_or}
use borrow.Author.Tests.{lt-ltb, le-ltb, lt-leb, le-leb, ne_eqb}
use Rattle.rules.specs.Cells.{between}
use Rattle.std.specs.Prelude.{Some, None}
use Rattle.plan_settings.specs.Decimal.{followed, digits_from, number_of}

step : (most n : ℕ) (word : List ℕ) (i v code : ℕ) → 0 < n → code ≡ get_or word i 0
    → digits_from most n word i v ≡ cond (between 48 57 code) (cond (ltb most (followed v code)) None (digits_from most (n - 1) word (i + 1) (followed v code))) None
unfolding digits_from
step most zero word i v code h e = absurd (not-suc-le-zero h)
step most (suc n) word i v code h e =
    let m : suc n - 1 ≡ n = omega arith in
    rw (add-one i, m, e)

module _ (most : ℕ) (word : List ℕ) (i v code : ℕ) (h : i < length word) (e : code ≡ get_or word i 0) where
  at : digits_from most (length word - i) word i v ≡ cond (between 48 57 code) (cond (ltb most (followed v code)) None (digits_from most (length word - i - 1) word (i + 1) (followed v code))) None
  at = step most (length word - i) word i v code (omega arith) e

  pub no_digit : (code < 48) ⊎ ((48 ≤ code) × (57 < code)) → digits_from most (length word - i) word i v ≡ None
  no_digit (inl k) = at ∙ simp (lt-leb 48 code k)
  no_digit (inr k) = at ∙ simp (le-leb 48 code k.0, lt-leb code 57 k.1)

  pub too_large : 48 ≤ code → code ≤ 57 → most < followed v code → digits_from most (length word - i) word i v ≡ None
  too_large l k m = at ∙ simp (le-leb 48 code l, le-leb code 57 k, lt-ltb most (followed v code) m)

  pub one_more : 48 ≤ code → code ≤ 57 → followed v code ≤ most
      → digits_from most (length word - i) word i v ≡ digits_from most (length word - (i + 1)) word (i + 1) (followed v code)
  one_more l k m =
      let r : length word - i - 1 ≡ length word - (i + 1) = omega arith in
      at ∙ simp (le-leb 48 code l, le-leb code 57 k, le-ltb most (followed v code) m, r)

pub all_read : (most : ℕ) (word : List ℕ) (i v : ℕ) → length word ≤ i → digits_from most (length word - i) word i v ≡ Some v
unfolding digits_from
all_read most word i v h =
    let z : length word - i ≡ 0 = omega arith in
    rw z

pub at_start : (most : ℕ) (word : List ℕ) → (length word ≡ 0 → ⊥) → digits_from most (length word - 0) word 0 0 ≡ number_of most word
unfolding number_of
at_start most word h =
    let z : length word - 0 ≡ length word = omega arith in
    simp (ne_eqb (length word) 0 h, z)
