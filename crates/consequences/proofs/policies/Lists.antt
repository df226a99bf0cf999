-- Lists that are put together in two ways, and equal lists cell by cell.
use mathlib.Core.Path.{◌≡◌, refl, sym, ap}
use mathlib.Core.List.{List, [], ◌∷◌, ◌++◌}
use Prim.Native.Nat.{ℕ}
use native.Mathlib.Omega.{arith}

module _ {A : Type 0} where
  pub same_first : (x y : A) (xs ys : List A) → x ∷ xs ≡ y ∷ ys → x ≡ y
  same_first x y xs ys h = cc

  pub same_others : (x y : A) (xs ys : List A) → x ∷ xs ≡ y ∷ ys → xs ≡ ys
  same_others x y xs ys h = cc

  pub same_cons : (x y : A) (xs ys : List A) → x ≡ y → xs ≡ ys → x ∷ xs ≡ y ∷ ys
  same_cons x y xs ys h k = cc

  pub last_same : (xs : List A) (x y : A) → xs ++ (x ∷ []) ≡ xs ++ (y ∷ []) → x ≡ y
  last_same [] x y h = same_first x y [] [] h
  last_same (z ∷ xs) x y h = last_same xs x y (same_others z z (xs ++ (x ∷ [])) (xs ++ (y ∷ [])) h)

  pub never_empty : (before rest : List A) (e : A) → [] ≡ before ++ (e ∷ rest) → ⊥
  never_empty [] rest e h = let z : ◌≡◌ {A = ℕ} 0 1 = cc in omega arith
  never_empty (x ∷ before) rest e h = let z : ◌≡◌ {A = ℕ} 0 1 = cc in omega arith

  -- where e stands in xs ++ ys, if that is before ++ (e ∷ rest): in xs, or in ys with xs before it
  pub data Stands (xs ys before rest : List A) (e : A) : Type 0 where
    first : (tail : List A) → xs ≡ before ++ (e ∷ tail) → Stands xs ys before rest e
    later : (middle : List A) → before ≡ xs ++ middle → ys ≡ middle ++ (e ∷ rest) → Stands xs ys before rest e

  pub stands : (xs ys before rest : List A) (e : A) → xs ++ ys ≡ before ++ (e ∷ rest) → Stands xs ys before rest e
  stands [] ys before rest e h = later before refl h
  stands (x ∷ xs) ys [] rest e h = first xs (ap (λ z. z ∷ xs) (same_first x e (xs ++ ys) rest h))
  stands (x ∷ xs) ys (b ∷ before) rest e h =
      go (stands xs ys before rest e (same_others x b (xs ++ ys) (before ++ (e ∷ rest)) h)) (same_first x b (xs ++ ys) (before ++ (e ∷ rest)) h)
    where
      go : Stands xs ys before rest e → x ≡ b → Stands (x ∷ xs) ys (b ∷ before) rest e
      go (first tail k) z = first tail (same_cons x b xs (before ++ (e ∷ tail)) z k)
      go (later middle k l) z = later middle (same_cons b x before (xs ++ middle) (sym z) k) l
