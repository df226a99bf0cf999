-- Why H places are enough: at most four activations of the rank in tFAW ticks, so the one 4 × k places back is k × tFAW old.
use mathlib.Core.Path.{◌≡◌, refl, ap, ◌∙◌, subst}
use mathlib.Core.List.{List, [], ◌∷◌, map}
use Prim.Native.Nat.{ℕ, zero, suc, ◌+◌, ◌*◌, ◌≤◌, ◌<◌}
use native.Mathlib.Omega.{arith}
use lib.ListN.{get_or, drop}
use lib.Seq.{drop-drop}
use Rattle.rules.specs.Cells.{All}
use Rattle.rules.specs.Calls.{Activation}
use Rattle.rules.proofs.Counting.{all_map}

-- ---- a list by its places

module _ {A : Type 0} where
  -- x stands at place i
  abbrev pub At : List A → ℕ → A → Type 0
  At [] i x = ⊥
  At (y ∷ ys) zero x = y ≡ x
  At (y ∷ ys) (suc i) x = At ys i x

  pub at_map : (f : A → ℕ) (l : List A) (i : ℕ) (x : A) → At l i x → get_or (map f l) i 0 ≡ f x
  at_map f [] i x a = absurd a
  at_map f (y ∷ ys) zero x a = ap f a
  at_map f (y ∷ ys) (suc i) x a = at_map f ys i x a

  pub all_at : (P : A → Type 0) (l : List A) (i : ℕ) (x : A) → All P l → At l i x → P x
  all_at P [] i x h a = absurd a
  all_at P (y ∷ ys) zero x h a = subst P a h.0
  all_at P (y ∷ ys) (suc i) x h a = all_at P ys i x h.1 a

  -- what holds of the first n places and of the rest holds of all
  pub all_split : (P : A → Type 0) (n : ℕ) (l : List A) → ((i : ℕ) (x : A) → i < n → At l i x → P x) → All P (drop n l) → All P l
  all_split P zero l f h = h
  all_split P (suc n) [] f h = tt
  all_split P (suc n) (y ∷ ys) f h = (f zero y (omega arith) refl, all_split P n ys (λ i x k a. f (suc i) x (omega arith) a) h)

-- ---- the rank rule

-- each activation is g after the fourth last before it and all older ones
abbrev pub Ranked : ℕ → List Activation → Type 0
Ranked g [] = Unit {0}
Ranked g (o ∷ os) = Ranked g os × All (λ x. x.tick + g ≤ o.tick) (drop 3 os)

ranked_drop : (g n : ℕ) (l : List Activation) → Ranked g l → Ranked g (drop n l)
ranked_drop g zero l h = h
ranked_drop g (suc n) [] h = h
ranked_drop g (suc n) (o ∷ os) h = ranked_drop g n os h.0

pub ranked_old : (g t k : ℕ) (l : List Activation) → Ranked g l → All (λ x. x.tick ≤ t) l → All (λ x. x.tick + k * g ≤ t) (drop (4 * k) l)
ranked_old g t zero l h a = all_map (λ x y. omega arith) l a
ranked_old g t (suc k) l h a =
    let e : 4 * k + 4 ≡ 4 * suc k = omega arith in
    subst (λ m. All (λ x. x.tick + suc k * g ≤ t) m) (drop-drop 4 (4 * k) l ∙ ap (λ m. drop m l) e)
    (go (drop (4 * k) l) (ranked_drop g (4 * k) l h) (ranked_old g t k l h a))
  where
    go : (m : List Activation) → Ranked g m → All (λ x. x.tick + k * g ≤ t) m → All (λ x. x.tick + suc k * g ≤ t) (drop 4 m)
    go [] h a = tt
    go (y ∷ ys) h a = all_map (λ x z. omega (arith, a.0)) (drop 3 ys) h.1
