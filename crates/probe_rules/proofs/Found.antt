-- The number that a search from 0 to 2,000 finds.
use mathlib.Core.Path.{◌≡◌, refl, ap, subst, fun_ext}
use mathlib.Core.Bool.{Bool, true, false, not}
use Prim.Native.Nat.{ℕ, zero, suc, ◌+◌, ◌≤◌, ◌<◌}
use native.Mathlib.Omega.{arith}
use native.Mathlib.Decide.{dec_lt, ℕ_discrete}
use lib.Dec.{T, T_not}
use Rattle.rules.specs.Cells.{least_from}
use Rattle.rules.proofs.Tests.{holds, fails}

module _ (p : ℕ → Bool) where
  -- k is the least number from v on that passes, or v + n where none before that does
  pub record Found (v n k : ℕ) : Type 0 where
    pub from : v ≤ k
    pub most : k ≤ v + n
    pub passes : k < v + n → T (p k)
    pub first : (i : ℕ) → v ≤ i → i < k → T (not (p i))

  pub found : (v n : ℕ) → Found v n (least_from p v n)
  found v zero = record { from = omega arith; most = omega arith; passes = λ h. absurd (omega arith); first = λ i a b. absurd (omega arith) }
  found v (suc n) = go (p v) refl (found (suc v) n)
    where
      go : (q : Bool) → p v ≡ q → Found (suc v) n (least_from p (suc v) n) → Found v (suc n) (elim q [ true ↦ v | false ↦ least_from p (suc v) n ])
      go true e f = record { from = omega arith; most = omega arith; passes = λ h. holds (p v) e; first = λ i a b. absurd (omega arith) }
      go false e f =
          record {
            from = omega (arith, f.from);
            most = omega (arith, f.most);
            passes = λ h. f.passes (omega arith);
            first = λ i a b. pick i a b (ℕ_discrete v i);
          }
        where
          pick : (i : ℕ) → v ≤ i → i < least_from p (suc v) n → Dec (v ≡ i) → T (not (p i))
          pick i a b (yes d) = subst (λ m. T (not (p m))) d (fails (p v) e)
          pick i a b (no d) = f.first i (omega arith) b

  -- there is one
  pub found_one : {v n k m : ℕ} → Found v n k → Found v n m → k ≡ m
  found_one {v} {n} {k} {m} f g = go (dec_lt k m) (dec_lt m k)
    where
      go : Dec (k < m) → Dec (m < k) → k ≡ m
      go (yes h) d = absurd (T_not (p k) (g.first k f.from h) (f.passes (omega (arith, g.most))))
      go (no h) (yes d) = absurd (T_not (p m) (f.first m g.from d) (g.passes (omega (arith, f.most))))
      go (no h) (no d) = omega arith

-- the search depends on the test of each number alone
pub search_same : (p q : ℕ → Bool) (v n : ℕ) → ((i : ℕ) → p i ≡ q i) → least_from p v n ≡ least_from q v n
search_same p q v n h = ap (λ f. least_from f v n) (fun_ext h)
