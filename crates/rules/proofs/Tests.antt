-- Boolean tests: how their parts are taken apart and put together.
use mathlib.Core.Path.{◌≡◌, refl, sym, ap₂, subst}
use mathlib.Core.Logic.{◌⊎◌, inl, inr}
use mathlib.Core.Bool.{Bool, true, false, not, ◌&&◌, ◌||◌, cond}
use Prim.Native.Nat.{ℕ, zero, suc, ◌<◌}
use native.Mathlib.Omega.{arith}
use native.Mathlib.Decide.{ℕ_discrete}
use lib.Dec.{T, ltb, eqb, ltb→lt, lt→ltb, eqb→eq}
use borrow.Author.Tests.{eq-eqb}
use Rattle.rules.specs.Cells.{every}

pub and_i : (a b : Bool) → T a → T b → T (a && b)
and_i true b x y = y
and_i false b x y = x

pub and_l : (a b : Bool) → T (a && b) → T a
and_l true b x = tt
and_l false b x = x

pub and_r : (a b : Bool) → T (a && b) → T b
and_r true b x = x
and_r false b x = absurd x

pub and_true : (a : Bool) → (a && true) ≡ a
and_true true = refl
and_true false = refl

pub and_assoc : (a b c : Bool) → (a && b && c) ≡ (a && (b && c))
and_assoc true b c = refl
and_assoc false b c = refl

pub or_false : (a : Bool) → (a || false) ≡ a
or_false true = refl
or_false false = refl

pub or_true : (a : Bool) → (a || true) ≡ true
or_true true = refl
or_true false = refl

pub or_l : (a b : Bool) → T a → T (a || b)
or_l true b x = tt
or_l false b x = absurd x

pub or_r : (a b : Bool) → T b → T (a || b)
or_r true b x = tt
or_r false b x = x

pub or_e : (a b : Bool) → T (a || b) → T a ⊎ T b
or_e true b x = inl tt
or_e false b x = inr x

pub not_or : (a b : Bool) → T (not (a || b)) → T (not a) × T (not b)
not_or true b h = absurd h
not_or false b h = (tt, h)

pub not_not : (b : Bool) → T (not (not b)) → T b
not_not true h = tt
not_not false h = h

pub cond_yes : {A : Type 0} (b : Bool) (x y : A) → T b → cond b x y ≡ x
cond_yes true x y h = refl
cond_yes false x y h = absurd h

pub cond_no : {A : Type 0} (b : Bool) (x y : A) → T (not b) → cond b x y ≡ y
cond_no true x y h = absurd h
cond_no false x y h = refl

-- a test that is an equation, and the other way round
pub is_true : (b : Bool) → T b → b ≡ true
is_true true h = refl
is_true false h = absurd h

pub is_false : (b : Bool) → T (not b) → b ≡ false
is_false true h = absurd h
is_false false h = refl

pub holds : (b : Bool) → b ≡ true → T b
holds b e = subst T (sym e) tt

pub fails : (b : Bool) → b ≡ false → T (not b)
fails b e = subst (λ x. T (not x)) (sym e) tt

-- two tests that imply one another are equal
pub same_test : (a b : Bool) → (T a → T b) → (T b → T a) → a ≡ b
same_test true true f g = refl
same_test true false f g = absurd (f tt)
same_test false true f g = absurd (g tt)
same_test false false f g = refl

-- a number is below another and one equals another: the test as facts, and the facts as a test
pub lt_eq_facts : (i n x k : ℕ) → T (ltb i n && eqb x k) → (i < n) × (x ≡ k)
lt_eq_facts i n x k t = (ltb→lt i n (and_l (ltb i n) (eqb x k) t), eqb→eq x k (and_r (ltb i n) (eqb x k) t))

pub lt_eq_test : (i n x k : ℕ) → i < n → x ≡ k → T (ltb i n && eqb x k)
lt_eq_test i n x k h e = and_i (ltb i n) (eqb x k) (lt→ltb i n h) (holds (eqb x k) (eq-eqb x k e))

-- a test of every number below n
pub every_at : (n : ℕ) (p : ℕ → Bool) → T (every n p) → (i : ℕ) → i < n → T (p i)
every_at zero p h i k = absurd (omega arith)
every_at (suc n) p h i k = go (ℕ_discrete i n) (every_at n p (and_l (every n p) (p n) h) i)
  where
    go : Dec (i ≡ n) → (i < n → T (p i)) → T (p i)
    go (yes e) ih = subst (λ x. T (p x)) (sym e) (and_r (every n p) (p n) h)
    go (no e) ih = ih (omega arith)

pub every_all : (n : ℕ) (p : ℕ → Bool) → ((i : ℕ) → i < n → T (p i)) → T (every n p)
every_all zero p f = tt
every_all (suc n) p f = and_i (every n p) (p n) (every_all n p (λ i k. f i (omega arith))) (f n (omega arith))

-- tests that agree below n
pub every_same : (n : ℕ) (p q : ℕ → Bool) → ((i : ℕ) → i < n → q i ≡ p i) → every n q ≡ every n p
every_same zero p q h = refl
every_same (suc n) p q h = ap₂ (λ x y. x && y) (every_same n p q (λ i k. h i (omega arith))) (h n (omega arith))
