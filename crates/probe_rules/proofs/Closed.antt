-- The closed form: an offset fits all pairs if it is within the jitter of the greatest and of the least difference.
use mathlib.Core.Path.{◌≡◌, refl, sym, ap, subst, ◌∙◌}
use mathlib.Core.Bool.{Bool, true, false, ◌&&◌, cond}
use Prim.Native.Nat.{ℕ, zero, suc, ◌+◌, ◌-◌, ◌^◌, ◌≤◌, ◌<◌}
use native.Mathlib.Omega.{arith}
use lib.Dec.{T, leb, eqb, leb→le, le→leb, eqb→eq, not_T, T_not}
use lib.IntN.{ℤ}
use Rattle.rules.specs.Cells.{every}
use Rattle.rules.proofs.Tests.{and_i, and_l, and_r, and_assoc, holds, fails, same_test, every_at, every_all}
use Rattle.probe_rules.specs.Probes.{Probe, tick_at, same_row, near, fits, offset, least_offset}
use Rattle.probe_rules.specs.Closed.{alike, greatest, least, closed}
use Rattle.probe_rules.specs.Claims.{Accepted, ClosedForm}
use Rattle.probe_rules.proofs.Integers.{near_bounds, bounds_near}
use Rattle.probe_rules.proofs.Refusals.{accepted}
use Rattle.probe_rules.proofs.Found.{Found, found, found_one}

-- ---- a test that is two

every_and : (n : ℕ) (p q : ℕ → Bool) → every n (λ i. p i && q i) ≡ (every n p && every n q)
every_and n p q =
    same_test (every n (λ i. p i && q i)) (every n p && every n q)
    (λ t. and_i (every n p) (every n q) (every_all n p (λ i h. and_l (p i) (q i) (every_at n (λ i. p i && q i) t i h)))
    (every_all n q (λ i h. and_r (p i) (q i) (every_at n (λ i. p i && q i) t i h))))
    (λ t. every_all n (λ i. p i && q i)
    (λ i h. and_i (p i) (q i) (every_at n p (and_l (every n p) (every n q) t) i h) (every_at n q (and_r (every n p) (every n q) t) i h)))

pub fits_is : (j : ℕ) (d : ℤ) (x y : Probe) → fits j d x y ≡ (alike x y && every x.count (near j d x y))
unfolding fits alike
fits_is j d x y =
    ap (λ b. eqb x.count y.count && b) (every_and x.count (same_row x y) (near j d x y))
    ∙ sym (and_assoc (eqb x.count y.count) (every x.count (same_row x y)) (every x.count (near j d x y)))

pub alike_counts : (x y : Probe) → alike x y ≡ true → x.count ≡ y.count
unfolding alike
alike_counts x y u =
    eqb→eq x.count y.count
    (and_l (eqb x.count y.count) (every x.count (same_row x y)) (holds (eqb x.count y.count && every x.count (same_row x y)) u))

-- ---- within the jitter of the greatest and of the least difference

-- an offset is within j of the greatest difference g and of the least one l
abbrev Within : ℕ → ℕ → ℕ → ℕ → Type 0
Within j e g l = (g + 1000 ≤ e + 2 ^ 62 + j) × (e + 2 ^ 62 ≤ l + j + 1000)

abbrev Early : Probe → ℕ → Type 0
Early p n = (i : ℕ) → i < n → tick_at p i < 2 ^ 62

module _ (j e : ℕ) (x y : Probe) where
  near_within : (n : ℕ) → e ≤ 2001 → Early x n → Early y n → T (every n (near j (offset e) x y)) → Within j e (greatest x.ticks y.ticks n) (least x.ticks y.ticks n)
  unfolding near greatest least
  near_within zero m a b t = (omega arith, omega arith)
  near_within (suc n) m a b t =
      let p : ℕ → Bool = near j (offset e) x y in
      let ih = near_within n m (λ i h. a i (omega arith)) (λ i h. b i (omega arith)) (and_l (every n p) (p n) t) in
      let k = near_bounds j e (tick_at x n) (tick_at y n) (and_r (every n p) (p n) t) in
      let u = a n (omega arith) in
      let v = b n (omega arith) in
      (omega arith, omega arith)

  within_near : (n : ℕ) → Early x n → Early y n → Within j e (greatest x.ticks y.ticks n) (least x.ticks y.ticks n) → T (every n (near j (offset e) x y))
  unfolding near greatest least
  within_near zero a b r = tt
  within_near (suc n) a b r =
      let p : ℕ → Bool = near j (offset e) x y in
      let u = a n (omega arith) in
      let v = b n (omega arith) in
      and_i (every n p) (p n)
      (within_near n (λ i h. a i (omega arith)) (λ i h. b i (omega arith)) (omega arith, omega arith))
      (bounds_near j e (tick_at x n) (tick_at y n) (omega arith) (omega arith))

-- ---- the closed form

module _ (x y : Probe) (j : ℕ) (ok : Accepted x y j) where
  abbrev passes : ℕ → Bool
  passes e = fits j (offset e) x y

  abbrev g : ℕ
  g = greatest x.ticks y.ticks x.count

  abbrev l : ℕ
  l = least x.ticks y.ticks x.count

  -- lists that are not alike fit with no offset
  unlike : alike x y ≡ false → Found passes 0 2001 2001
  unlike u =
      record {
        from = omega arith;
        most = omega arith;
        passes = λ h. absurd (omega arith);
        first = λ e a b. fails (passes e) (fits_is j (offset e) x y ∙ ap (λ q. q && every x.count (near j (offset e) x y)) u);
      }

  module _ (u : alike x y ≡ true) where
    second : Early y x.count
    second i h = ok.second i (omega (arith, h, alike_counts x y u))

    by_near : (e : ℕ) → passes e ≡ every x.count (near j (offset e) x y)
    by_near e = fits_is j (offset e) x y ∙ ap (λ q. q && every x.count (near j (offset e) x y)) u

    within : (e : ℕ) → e ≤ 2001 → T (passes e) → Within j e g l
    within e m t = near_within j e x y x.count m ok.first second (subst T (by_near e) t)

    passes_within : (e : ℕ) → Within j e g l → T (passes e)
    passes_within e r = subst T (sym (by_near e)) (within_near j e x y x.count ok.first second r)

    -- the number of the closed form, and the two tests that it has to pass
    abbrev e : ℕ
    e = g + 1000 - (2 ^ 62 + j)

    abbrev low : Bool
    low = leb e 2000

    abbrev near_least : Bool
    near_least = leb (e + 2 ^ 62) (l + j + 1000)

    closed_found : Found passes 0 2001 (closed j g l)
    unfolding closed
    closed_found = go (low && near_least) refl
      where
        go : (b : Bool) → (low && near_least) ≡ b → Found passes 0 2001 (cond b e 2001)
        go true k =
            let t = holds (low && near_least) k in
            let a : e ≤ 2000 = leb→le e 2000 (and_l low near_least t) in
            let b : e + 2 ^ 62 ≤ l + j + 1000 = leb→le (e + 2 ^ 62) (l + j + 1000) (and_r low near_least t) in
            record {
              from = omega arith;
              most = omega arith;
              passes = λ h. passes_within e (omega arith, b);
              first = λ i v h. not_T (passes i) (λ f. let r = within i (omega arith) f in omega arith);
            }
        go false k =
            record {
              from = omega arith;
              most = omega arith;
              passes = λ h. absurd (omega arith);
              first = λ i v h. not_T (passes i) (λ f.
                  let r = within i (omega arith) f in
                  T_not (low && near_least) (fails (low && near_least) k)
                  (and_i low near_least (le→leb e 2000 (omega arith)) (le→leb (e + 2 ^ 62) (l + j + 1000) (omega arith))));
            }

  form_found : Found passes 0 2001 (cond (alike x y) (closed j g l) 2001)
  form_found = go (alike x y) refl
    where
      go : (b : Bool) → alike x y ≡ b → Found passes 0 2001 (cond b (closed j g l) 2001)
      go true u = closed_found u
      go false u = unlike u

pub closed_form : ClosedForm
unfolding least_offset
closed_form x y j e =
    let ok = accepted x y j e in
    found_one (λ n. fits j (offset n) x y) (found (λ n. fits j (offset n) x y) 0 2001) (form_found x y j ok)
