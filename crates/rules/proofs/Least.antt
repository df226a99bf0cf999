-- The least number that passes a test, and the closed form of the wait tick over plain numbers.
use mathlib.Core.Path.{◌≡◌, refl, subst}
use mathlib.Core.Logic.{◌⊎◌, inl, inr}
use mathlib.Core.Bool.{Bool, true, false, not}
use Prim.Native.Nat.{ℕ, zero, suc, ◌+◌, ◌≤◌, ◌<◌, min}
use native.Mathlib.Omega.{arith}
use native.Mathlib.Nat.{add-zero, le_refl, min-eq_left, min-eq_right}
use native.Mathlib.Decide.{dec_le, dec_lt, ℕ_discrete}
use lib.Dec.{T, leb, ltb, leb→le, ltb→lt, nleb→lt, nltb→le, T_not}
use Rattle.rules.specs.Cells.{least_from}
use Rattle.rules.specs.Claims.{Least, closed_tick}
use Rattle.rules.proofs.Tests.{holds, fails}

-- ---- the least number

pub least_one : {p : ℕ → Bool} {v a b : ℕ} → Least p v a → Least p v b → a ≡ b
least_one {p} {v} {a} {b} x y = go (dec_lt a b) (dec_lt b a)
  where
    go : Dec (a < b) → Dec (b < a) → a ≡ b
    go (yes h) k = absurd (T_not (p a) (y.first a x.later h) x.passes)
    go (no h) (yes k) = absurd (T_not (p b) (x.first b y.later k) y.passes)
    go (no h) (no k) = omega arith

-- the search finds it where its last number passes
pub least_from_lem : (p : ℕ → Bool) (v n : ℕ) → T (p (v + n)) → Least p v (least_from p v n)
least_from_lem p v zero h =
    record { later = le_refl v; passes = subst (λ x. T (p x)) (add-zero v) h; first = λ x lo hi. absurd (omega arith) }
least_from_lem p v (suc n) h = go (p v) refl (least_from_lem p (suc v) n (subst (λ x. T (p x)) (omega arith) h))
  where
    go : (q : Bool) → p v ≡ q → Least p (suc v) (least_from p (suc v) n) → Least p v (elim q [ true ↦ v | false ↦ least_from p (suc v) n ])
    go true e r = record { later = le_refl v; passes = holds (p v) e; first = λ x lo hi. absurd (omega arith) }
    go false e r = record { later = omega (arith, r.later); passes = r.passes; first = λ x lo hi. pick x lo hi (ℕ_discrete v x) }
      where
        pick : (x : ℕ) → v ≤ x → x < least_from p (suc v) n → Dec (v ≡ x) → T (not (p x))
        pick x lo hi (yes d) = subst (λ y. T (not (p y))) d (fails (p v) e)
        pick x lo hi (no d) = r.first x (omega arith) hi

-- ---- the closed form

-- What the closed form takes of the three rules, from the tick t on: bank and rank rules hold every tick before m and none from m on;
-- the row rule lets a tick pass if the estimate in test there is below n or if the tick is d or later. The estimate is the active one
-- up to the end of the epoch and the other one for an epoch more, which d does not outlast.
pub record Rules (pass : ℕ → Bool) (n t end len m d active other : ℕ) : Type 0 where
  pub est : ℕ → ℕ
  pub gaps : t ≤ m
  pub delay : d < end + len
  pub est_now : (u : ℕ) → t ≤ u → u < end → est u ≡ active
  pub est_next : (u : ℕ) → end ≤ u → u < end + len → est u ≡ other
  pub opens : (u : ℕ) → m ≤ u → (est u < n) ⊎ (d ≤ u) → T (pass u)
  pub early : (u : ℕ) → t ≤ u → u < m → T (not (pass u))
  pub held : (u : ℕ) → t ≤ u → u < d → n ≤ est u → T (not (pass u))

module _ {pass : ℕ → Bool} {n t end len m d active other : ℕ} (r : Rules pass n t end len m d active other) where
  -- m, where it passes
  at_gaps : (r.est m < n) ⊎ (d ≤ m) → Least pass t m
  at_gaps h = record { later = r.gaps; passes = r.opens m (le_refl m) h; first = r.early }

  -- a later tick v up to d, where it passes and the row is blacklisted from m up to v
  held_to : (v : ℕ) → m ≤ v → v ≤ d → (r.est v < n) ⊎ (d ≤ v) → ((x : ℕ) → m ≤ x → x < v → n ≤ r.est x) → Least pass t v
  held_to v mv vd h black = record { later = omega (arith, r.gaps); passes = r.opens v mv h; first = λ x lo hi. pick x lo hi (dec_lt x m) }
    where
      pick : (x : ℕ) → t ≤ x → x < v → Dec (x < m) → T (not (pass x))
      pick x lo hi (yes k) = r.early x lo k
      pick x lo hi (no k) = r.held x lo (omega arith) (black x (omega arith) hi)

  -- up to d, the row blacklisted in both filters, or in the other only and m past the end
  to_delay : m < d → (m < end → n ≤ active) → n ≤ other → Least pass t d
  to_delay h a o = held_to d (omega arith) (le_refl d) (inr (le_refl d)) (λ x lo hi. pick x lo hi (dec_lt x end))
    where
      pick : (x : ℕ) → m ≤ x → x < d → Dec (x < end) → n ≤ r.est x
      pick x lo hi (yes k) = omega (arith, a (omega arith), r.est_now x (omega (arith, r.gaps)) k)
      pick x lo hi (no k) = omega (arith, o, r.est_next x (omega arith) (omega (arith, r.delay)))

  -- up to d or the end of the epoch, the row blacklisted in the active filter only
  to_turn : m < d → m < end → n ≤ active → other < n → Least pass t (min d end)
  to_turn h k a o = pick (dec_le d end)
    where
      black : (x : ℕ) → m ≤ x → x < end → n ≤ r.est x
      black x lo hi = omega (arith, a, r.est_now x (omega (arith, r.gaps)) hi)

      pick : Dec (d ≤ end) → Least pass t (min d end)
      pick (yes l) = rw (min-eq_left l) (held_to d (omega arith) (le_refl d) (inr (le_refl d)) (λ x lo hi. black x lo (omega arith)))
      pick (no l) =
          let g : end ≤ d = omega arith in
          rw (min-eq_right g)
          (held_to end (omega arith) g (inl (omega (arith, o, r.est_next end (le_refl end) (omega (arith, r.delay))))) (λ x lo hi. black x lo hi))

  pub closed_least : Least pass t (closed_tick n end m d active other)
  unfolding closed_tick
  closed_least = go (leb d m) refl (ltb m end) refl (ltb active n) refl (ltb other n) refl
    where
      go : (a : Bool) → leb d m ≡ a → (b : Bool) → ltb m end ≡ b → (x : Bool) → ltb active n ≡ x → (y : Bool) → ltb other n ≡ y
          → Least pass t (closed_tick n end m d active other)
      go true ea b eb x ex y ey = simp (ea, eb, ex, ey) (at_gaps (inr (leb→le d m (holds (leb d m) ea))))
      go false ea true eb true ex y ey =
          let free = ltb→lt active n (holds (ltb active n) ex) in
          simp (ea, eb, ex, ey) (at_gaps (inl (omega (arith, r.est_now m r.gaps (ltb→lt m end (holds (ltb m end) eb))))))
      go false ea true eb false ex true ey =
          simp (ea, eb, ex, ey)
          (to_turn (nleb→lt d m (fails (leb d m) ea)) (ltb→lt m end (holds (ltb m end) eb))
          (nltb→le active n (fails (ltb active n) ex)) (ltb→lt other n (holds (ltb other n) ey)))
      go false ea true eb false ex false ey =
          simp (ea, eb, ex, ey)
          (to_delay (nleb→lt d m (fails (leb d m) ea)) (λ k. nltb→le active n (fails (ltb active n) ex)) (nltb→le other n (fails (ltb other n) ey)))
      go false ea false eb x ex true ey =
          let late : end ≤ m = nltb→le m end (fails (ltb m end) eb) in
          let soon : m < d = nleb→lt d m (fails (leb d m) ea) in
          let free = ltb→lt other n (holds (ltb other n) ey) in
          simp (ea, eb, ex, ey) (at_gaps (inl (omega (arith, r.est_next m late (omega (arith, r.delay))))))
      go false ea false eb x ex false ey =
          let late : end ≤ m = nltb→le m end (fails (ltb m end) eb) in
          simp (ea, eb, ex, ey) (to_delay (nleb→lt d m (fails (leb d m) ea)) (λ k. absurd (omega arith)) (nltb→le other n (fails (ltb other n) ey)))
