-- Counting the elements of a list that pass a test.
use mathlib.Core.Path.{◌≡◌, refl}
use mathlib.Core.Logic.{◌⊎◌, inl, inr}
use mathlib.Core.List.{List, [], ◌∷◌, ◌++◌}
use mathlib.Core.Bool.{Bool, true, false, not}
use Prim.Native.Nat.{ℕ, ◌+◌, ◌≤◌}
use native.Mathlib.Omega.{arith}
use lib.Dec.{T}
use Rattle.rules.specs.Cells.{more, count, All}

more_le : (a b : Bool) (m n : ℕ) → (T a → T b) → m ≤ n → more a m ≤ more b n
more_le true true m n f h = omega arith
more_le true false m n f h = absurd (f tt)
more_le false true m n f h = omega arith
more_le false false m n f h = h

more_or : (a b c : Bool) (m n k : ℕ) → (T a → T b ⊎ T c) → m ≤ n + k → more a m ≤ more b n + more c k
more_or false true true m n k f h = omega arith
more_or false true false m n k f h = omega arith
more_or false false true m n k f h = omega arith
more_or false false false m n k f h = h
more_or true true true m n k f h = omega arith
more_or true true false m n k f h = omega arith
more_or true false true m n k f h = omega arith
more_or true false false m n k f h = absurd (neither (f tt))
  where
    neither : ⊥ ⊎ ⊥ → ⊥
    neither (inl x) = x
    neither (inr x) = x

pub more_no : (a : Bool) (n : ℕ) → T (not a) → more a n ≡ n
more_no true n h = absurd h
more_no false n h = refl

module _ {A : Type 0} where
  -- a weaker test counts no less
  pub count_le : (p q : A → Bool) → ((x : A) → T (p x) → T (q x)) → (l : List A) → count p l ≤ count q l
  count_le p q f [] = omega arith
  count_le p q f (x ∷ xs) = more_le (p x) (q x) (count p xs) (count q xs) (f x) (count_le p q f xs)

  -- what passes one test passes one of two others
  pub count_or : (p q r : A → Bool) → ((x : A) → T (p x) → T (q x) ⊎ T (r x)) → (l : List A) → count p l ≤ count q l + count r l
  count_or p q r f [] = omega arith
  count_or p q r f (x ∷ xs) = more_or (p x) (q x) (r x) (count p xs) (count q xs) (count r xs) (f x) (count_or p q r f xs)

  pub count_append : (p : A → Bool) (xs ys : List A) → count p (xs ++ ys) ≡ count p xs + count p ys
  count_append p [] ys = omega arith
  count_append p (x ∷ xs) ys = go (p x) (count_append p xs ys)
    where
      go : (q : Bool) → count p (xs ++ ys) ≡ count p xs + count p ys → more q (count p (xs ++ ys)) ≡ more q (count p xs) + count p ys
      go true h = omega arith
      go false h = h

  pub all_map : {P Q : A → Type 0} → ((x : A) → P x → Q x) → (l : List A) → All P l → All Q l
  all_map f [] a = tt
  all_map f (x ∷ xs) a = (f x a.0, all_map f xs a.1)
