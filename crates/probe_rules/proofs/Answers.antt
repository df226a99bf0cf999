-- What the call leaves: 1 and the least offset that fits, 0 and 0 exactly where there is none, and −1,000 for two empty lists.
use mathlib.Core.Path.{◌≡◌, refl, sym, ap, subst, ◌∙◌}
use mathlib.Core.Logic.{inl, inr}
use mathlib.Core.List.{[], ◌∷◌}
use mathlib.Core.Bool.{Bool, true, false, not, ◌&&◌, cond}
use Prim.Native.Nat.{ℕ, zero, suc, ◌≤◌, ◌<◌}
use native.Mathlib.Omega.{arith}
use native.Mathlib.Decide.{ℕ_discrete, dec_lt}
use lib.Dec.{T, leb, eqb, leb→le, le→leb, nleb→lt, eqb→eq, not_T, T_not}
use lib.IntN.{ℤ, nat_abs}
use lib.ListN.{get_or}
use lib.Signed.{le_z}
use mir.Syntax.{w64}
use mir.Val.{of_z, to_z}
use borrow.Author.Tests.{eq-eqb}
use Rattle.rules.specs.Cells.{every}
use Rattle.rules.proofs.Tests.{and_i, and_l, and_r, holds, fails, is_true, cond_yes, cond_no, every_at}
use Rattle.std.specs.Prelude.{Some, None, Ok}
use Rattle.probe_rules.specs.Probes.{Probe, probes_refusal, same_row, near, fits, offset, least_offset, decided, verdict_of, code_of, out_of}
use Rattle.probe_rules.specs.Closed.{alike}
use Rattle.probe_rules.specs.Claims.{LeastFit, AnswersLeast, Apart, NoFitExactly, EmptyFit}
use Rattle.probe_rules.proofs.Integers.{number_of, offset_of, number_most, offset_within, in_order, order_of, read_back}
use Rattle.probe_rules.proofs.Refusals.{refused_exactly, verdict_decided}
use Rattle.probe_rules.proofs.Found.{Found, found, found_one}
use Rattle.probe_rules.proofs.Closed.{fits_is}

-- ---- the number that decides

least_found : (x y : Probe) (j : ℕ) → Found (λ e. fits j (offset e) x y) 0 2001 (least_offset j x y)
unfolding least_offset
least_found x y j = found (λ e. fits j (offset e) x y) 0 2001

pub decided_fit : (r : ℕ) → r ≤ 2000 → decided r ≡ Some r
decided_fit r h = cond_yes (leb r 2000) (Some r) None (le→leb r 2000 h)

decided_none : (r : ℕ) → 2000 < r → decided r ≡ None
decided_none r h = cond_no (leb r 2000) (Some r) None (not_T (leb r 2000) (λ t. let k = leb→le r 2000 t in omega arith))

-- ---- the number that is found, and the offsets that fit

module _ (x y : Probe) (j r : ℕ) (f : Found (λ e. fits j (offset e) x y) 0 2001 r) where
  -- an offset that fits has that number or a greater one
  from_least : (d : ℤ) → nat_abs d ≤ 1000 → T (fits j d x y) → r ≤ number_of d
  from_least d w t = go (dec_lt (number_of d) r)
    where
      go : Dec (number_of d < r) → r ≤ number_of d
      go (yes h) =
          absurd
          (T_not (fits j (offset (number_of d)) x y) (f.first (number_of d) (omega arith) h) (subst (λ c. T (fits j c x y)) (sym (offset_of d w)) t))
      go (no h) = omega arith

  is_least : r ≤ 2000 → LeastFit j x y (offset r)
  is_least h =
      record {
        within = offset_within r h;
        passes = f.passes (omega arith);
        first = λ c w t. subst (λ d. T (le_z (offset r) d)) (offset_of c w) (in_order r (number_of c) (from_least c w t));
      }

  least_is : (d : ℤ) → LeastFit j x y d → (r ≤ 2000) × (offset r ≡ d)
  least_is d m =
      let a : r ≤ number_of d = from_least d m.within m.passes in
      let n : number_of d ≤ 2000 = number_most d m.within in
      let h : r ≤ 2000 = omega arith in
      let s = is_least h in
      let t = m.first (offset r) s.within s.passes in
      let b : number_of d ≤ r = order_of (number_of d) r (subst (λ c. T (le_z c (offset r))) (sym (offset_of d m.within)) t) in
      let e : r ≡ number_of d = omega arith in
      (h, ap offset e ∙ offset_of d m.within)

  -- it is 2,001 where none fits, and then none does
  none_fits : ((d : ℤ) → nat_abs d ≤ 1000 → T (not (fits j d x y))) → 2000 < r
  none_fits h = go (dec_lt r 2001)
    where
      go : Dec (r < 2001) → 2000 < r
      go (yes k) = absurd (T_not (fits j (offset r) x y) (h (offset r) (offset_within r (omega arith))) (f.passes k))
      go (no k) = omega arith

  no_fit : 2000 < r → (d : ℤ) → nat_abs d ≤ 1000 → T (not (fits j d x y))
  no_fit h d w =
      let m = number_most d w in
      subst (λ c. T (not (fits j c x y))) (offset_of d w) (f.first (number_of d) (omega arith) (omega arith))

pub answers_least : AnswersLeast
answers_least x y j before e = (there, back)
  where
    r : ℕ
    r = least_offset j x y

    there : (word : ℕ) → out_of (verdict_of x y j) before ≡ 1 ∷ word ∷ [] → LeastFit j x y (to_z w64 word)
    there word q = go (leb r 2000) refl (subst (λ v. out_of v before ≡ 1 ∷ word ∷ []) (verdict_decided x y j e) q)
      where
        go : (b : Bool) → leb r 2000 ≡ b → out_of (Ok (cond b (Some r) None)) before ≡ 1 ∷ word ∷ [] → LeastFit j x y (to_z w64 word)
        go true k o =
            let h = leb→le r 2000 (holds (leb r 2000) k) in
            let w : of_z w64 (offset r) ≡ word = ap (λ ws. get_or ws 1 0) o in
            subst (LeastFit j x y) (sym (read_back r h) ∙ ap (to_z w64) w) (is_least x y j r (least_found x y j) h)
        go false k o = absurd (omega (arith, ap (λ ws. get_or ws 0 0) o))

    back : (d : ℤ) → LeastFit j x y d → (code_of (verdict_of x y j) ≡ 0) × (out_of (verdict_of x y j) before ≡ 1 ∷ of_z w64 d ∷ [])
    back d m =
        let s = least_is x y j r (least_found x y j) d m in
        let v : verdict_of x y j ≡ Ok (Some r) = verdict_decided x y j e ∙ ap Ok (decided_fit r s.0) in
        (ap code_of v, ap (λ u. out_of u before) v ∙ ap (λ c. 1 ∷ of_z w64 c ∷ []) s.1)

-- ---- no fit

-- a test that does not hold of every number below n fails for one of them
record Fails (n : ℕ) (p : ℕ → Bool) : Type 0 where
  pub place : ℕ
  pub below : place < n
  pub not_there : T (not (p place))

find : (n : ℕ) (p : ℕ → Bool) → every n p ≡ false → Fails n p
find zero p e = absurd (subst T e tt)
find (suc n) p e = go (p n) refl (every n p) refl (λ m. find n p m)
  where
    go : (a : Bool) → p n ≡ a → (b : Bool) → every n p ≡ b → (every n p ≡ false → Fails n p) → Fails (suc n) p
    go false k b m before = record { place = n; below = omega arith; not_there = fails (p n) k }
    go true k false m before = let f = before m in record { place = f.place; below = omega (arith, f.below); not_there = f.not_there }
    go true k true m before = absurd (T_not (every n p && p n) (fails (every n p && p n) e) (and_i (every n p) (p n) (holds (every n p) m) (holds (p n) k)))

module _ (x y : Probe) (j : ℕ) where
  apart : ((d : ℤ) → nat_abs d ≤ 1000 → T (not (fits j d x y))) → Apart j x y
  unfolding alike
  apart h = go (ℕ_discrete x.count y.count) (every x.count (same_row x y)) refl
    where
      go : Dec (x.count ≡ y.count) → (b : Bool) → every x.count (same_row x y) ≡ b → Apart j x y
      go (no c) b k = inl c
      go (yes c) false k =
          let f = find x.count (same_row x y) k in
          inr (inl (record { place = f.place; here = f.below; there = omega (arith, f.below, c); other = f.not_there }))
      go (yes c) true k =
          let u : alike x y ≡ true = is_true (alike x y) (and_i (eqb x.count y.count) (every x.count (same_row x y)) (holds (eqb x.count y.count) (eq-eqb x.count y.count c)) (holds (every x.count (same_row x y)) k)) in
          inr (inr (λ d w. subst (λ b. T (not b)) (fits_is j d x y ∙ ap (λ q. q && every x.count (near j d x y)) u) (h d w)))

  none_where_apart : Apart j x y → (d : ℤ) → nat_abs d ≤ 1000 → T (not (fits j d x y))
  unfolding alike
  none_where_apart a d w = not_T (fits j d x y) (λ t. go a (subst T (fits_is j d x y) t))
    where
      go : Apart j x y → T (alike x y && every x.count (near j d x y)) → ⊥
      go (inl c) t =
          c (eqb→eq x.count y.count
          (and_l (eqb x.count y.count) (every x.count (same_row x y)) (and_l (alike x y) (every x.count (near j d x y)) t)))
      go (inr (inl o)) t =
          T_not (same_row x y o.place) o.other
          (every_at x.count (same_row x y)
          (and_r (eqb x.count y.count) (every x.count (same_row x y)) (and_l (alike x y) (every x.count (near j d x y)) t))
          o.place o.here)
      go (inr (inr n)) t = T_not (every x.count (near j d x y)) (n d w) (and_r (alike x y) (every x.count (near j d x y)) t)

pub no_fit_exactly : NoFitExactly
no_fit_exactly x y j before e = (there, back)
  where
    r : ℕ
    r = least_offset j x y

    there : out_of (verdict_of x y j) before ≡ 0 ∷ 0 ∷ [] → Apart j x y
    there q = go (leb r 2000) refl (subst (λ v. out_of v before ≡ 0 ∷ 0 ∷ []) (verdict_decided x y j e) q)
      where
        go : (b : Bool) → leb r 2000 ≡ b → out_of (Ok (cond b (Some r) None)) before ≡ 0 ∷ 0 ∷ [] → Apart j x y
        go true k o = absurd (omega (arith, ap (λ ws. get_or ws 0 0) o))
        go false k o = apart x y j (no_fit x y j r (least_found x y j) (nleb→lt r 2000 (fails (leb r 2000) k)))

    back : Apart j x y → (code_of (verdict_of x y j) ≡ 0) × (out_of (verdict_of x y j) before ≡ 0 ∷ 0 ∷ [])
    back a =
        let v : verdict_of x y j ≡ Ok None =
        verdict_decided x y j e ∙ ap Ok (decided_none r (none_fits x y j r (least_found x y j) (none_where_apart x y j a))) in
        (ap code_of v, ap (λ u. out_of u before) v)

-- ---- two empty lists

pub empty_fit : EmptyFit
unfolding fits
empty_fit x y j before cx cy h =
    let accepted : probes_refusal x y j ≡ 0 =
    (refused_exactly x y j).1
    (record {
      here = (omega (arith, cx), omega (arith, cx));
      there = (omega (arith, cy), omega (arith, cy));
      jitter = h;
      first = λ i k. absurd (omega (arith, k, cx));
      second = λ i k. absurd (omega (arith, k, cy));
    }) in
    let fit : T (fits j (offset 0) x y) = rw (cx, cy) tt in
    let zero-found : Found (λ e. fits j (offset e) x y) 0 2001 0 =
    record { from = omega arith; most = omega arith; passes = λ k. fit; first = λ i a b. absurd (omega arith) } in
    let r : least_offset j x y ≡ 0 = found_one (λ e. fits j (offset e) x y) (least_found x y j) zero-found in
    let v : verdict_of x y j ≡ Ok (Some 0) = verdict_decided x y j accepted ∙ ap (λ n. Ok (decided n)) r in
    (ap code_of v, ap (λ u. out_of u before) v)
