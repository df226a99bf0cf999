-- All records of two lists, from the pass over the pairs and from the ticks without a partner.
use mathlib.Core.Path.{◌≡◌, refl, sym, ap, ap₂, subst, ◌∙◌}
use mathlib.Core.List.{List}
use mathlib.Core.Bool.{Bool, true, false, not, ◌&&◌, cond}
use Prim.Native.Nat.{ℕ, zero, suc, ◌^◌, ◌≤◌, ◌<◌, ◌-◌}
use native.Mathlib.Omega.{arith}
use native.Mathlib.Numerals.{add-one}
use lib.Dec.{T, eqb, eqb→eq, eqb_refl, not_T, T_not}
use lib.ListN.{length, get_or, take, drop}
use lib.Pointwise.{pointwise}
use borrow.Author.Tests.{eq-eqb}
use Rattle.std.specs.Prelude.{Option, Some, None}
use Rattle.std.specs.List.{list_all}
use Rattle.std.specs.Bool.{Decides, one_answer}
use Rattle.std.proofs.lemmas.List.{take_all, take-append-drop, length-drop}
use Rattle.std.proofs.lemmas.List.Folds.{list_all-append, list_all_more}
use Rattle.std.proofs.lemmas.Grind.{same_number_lists}
use Rattle.std.proofs.lemmas.Bool.Decides.{Decides-eqb}
use Rattle.std.proofs.lemmas.Slice.Eq.{slice_eq-Decides}
use Rattle.rules.specs.Cells.{every}
use Rattle.rules.proofs.Tests.{and_i, and_l, and_r, cond_yes, cond_no, holds, fails, is_true, every_at, every_all}
use Rattle.probe_rules.specs.Probes.{Probe, on_time, same_row, word_at}
use Rattle.probe_rules.specs.Closed.{alike, greatest}
use Rattle.probe_rules.proofs.Records.{same_word_lem}
use Rattle.probes.specs.declared.pairs.Spread.{Spread}
use Rattle.probes.specs.Pairs.{early, paired, spread, pairs_of, records_of}
use Rattle.probes.proofs.pairs.Pass.{Passed, greatest_fits, least_fits}

-- ---- the pairs

module _ (x y : Probe) where
  abbrev pairs_on_time : Bool
  pairs_on_time = every (paired x y) (on_time x.ticks) && every (paired x y) (on_time y.ticks)

  -- a pair with a late tick
  pub late_pair : (i : ℕ) → i < x.count → i < y.count → (on_time x.ticks i && on_time y.ticks i) ≡ false → None ≡ pairs_of x y
  unfolding pairs_of
  late_pair i h k e =
      let n = paired x y in
      sym
      (cond_no pairs_on_time (Some (spread x y)) None
      (not_T pairs_on_time (λ t.
      T_not (on_time x.ticks i && on_time y.ticks i) (fails (on_time x.ticks i && on_time y.ticks i) e)
      (and_i (on_time x.ticks i) (on_time y.ticks i)
      (every_at n (on_time x.ticks) (and_l (every n (on_time x.ticks)) (every n (on_time y.ticks)) t) i (omega arith))
      (every_at n (on_time y.ticks) (and_r (every n (on_time x.ticks)) (every n (on_time y.ticks)) t) i (omega arith))))))

  -- what the pass knows after the last pair
  abbrev found : Bool → ℕ → ℕ → Option Spread
  found q g l = Some (record { alike = q; greatest = g; least = l })

  pub passed_all : (i g l : ℕ) (q : Bool) → i ≡ paired x y → q ≡ alike x y → Passed x.ticks y.ticks i g l → found q g l ≡ pairs_of x y
  unfolding pairs_of
  passed_all i g l q e s p =
      let n = paired x y in
      let r : Passed x.ticks y.ticks n g l = subst (λ k. Passed x.ticks y.ticks k g l) e p in
      ap₂ (λ a m. found a m l) s r.greatest_is
      ∙ ap (found (alike x y) (greatest x.ticks y.ticks n)) r.least_is
      ∙ sym
      (cond_yes pairs_on_time (Some (spread x y)) None (and_i (every n (on_time x.ticks)) (every n (on_time y.ticks)) r.first r.second))

  -- lists are alike where their rows are equal
  alike_decides : length x.rows ≡ x.count → length y.rows ≡ y.count → Decides (alike x y) (x.rows ≡ y.rows)
  unfolding alike
  alike_decides a b = (there, back)
    where
      there : alike x y ≡ true → x.rows ≡ y.rows
      there e =
          let t = holds (alike x y) e in
          let c = eqb→eq x.count y.count (and_l (eqb x.count y.count) (every x.count (same_row x y)) t) in
          same_number_lists x.rows y.rows (omega arith) (λ k h.
          eqb→eq (word_at x k) (word_at y k)
          (subst (λ q. T q) (same_word_lem x y k)
          (every_at x.count (same_row x y) (and_r (eqb x.count y.count) (every x.count (same_row x y)) t) k (omega arith))))

      back : x.rows ≡ y.rows → alike x y ≡ true
      back e =
          let c : x.count ≡ y.count = omega (arith, ap length e) in
          is_true (alike x y)
          (and_i (eqb x.count y.count) (every x.count (same_row x y)) (holds (eqb x.count y.count) (eq-eqb x.count y.count c))
          (every_all x.count (same_row x y) (λ k h.
          subst (λ q. T q) (sym (same_word_lem x y k)) (subst (λ w. T (eqb (word_at x k) w)) (ap (λ l. get_or l k 0) e) (eqb_refl (word_at x k))))))

  pub alike_by_rows : {q : Bool} → length x.rows ≡ x.count → length y.rows ≡ y.count → q ≡ pointwise eqb x.rows y.rows → q ≡ alike x y
  alike_by_rows {q} a b e = one_answer q (alike x y) (slice_eq-Decides Decides-eqb x.rows y.rows q e) (alike_decides a b)

-- ---- the ticks of one list

-- a test of the first n ticks
first_ticks : (ts : List ℕ) (n : ℕ) → n ≤ length ts → every n (on_time ts) ≡ list_all early (take n ts)
first_ticks ts zero h = refl
first_ticks ts (suc n) h =
    ap (λ q. q && early (get_or ts n 0)) (first_ticks ts n (omega arith)) ∙ sym (list_all_more early ts n 0 (omega arith)) ∙ ap (λ k. list_all early (take k ts)) (add-one n)

fewer : (m n : ℕ) (ts : List ℕ) → m ≤ n → T (every n (on_time ts)) → T (every m (on_time ts))
fewer m n ts h t = every_all m (on_time ts) (λ i k. every_at n (on_time ts) t i (omega arith))

-- the first n and the others
pub all_ticks : (ts : List ℕ) (n : ℕ) → n ≤ length ts → every (length ts) (on_time ts) ≡ (every n (on_time ts) && list_all early (drop n ts))
all_ticks ts n h =
    first_ticks ts (length ts) (omega arith)
    ∙ ap (list_all early) (take_all (length ts) ts (omega arith) ∙ sym (take-append-drop n ts))
    ∙ list_all-append early (take n ts) (drop n ts)
    ∙ ap (λ q. q && list_all early (drop n ts)) (sym (first_ticks ts n h))

-- the others, as a slice to the end has them
pub rest_is : (ts : List ℕ) (n m : ℕ) (r : Bool) → n ≡ m → r ≡ list_all early (take (length ts - n) (drop n ts)) → r ≡ list_all early (drop m ts)
rest_is ts n m r e f =
    f ∙ ap (list_all early) (take_all (length ts - n) (drop n ts) (omega (arith, length-drop n ts))) ∙ ap (λ k. list_all early (drop k ts)) e

-- ---- all records

none_by : (b : Bool) (s : Spread) → None ≡ cond b (Some s) None → T (not b)
none_by true s e = cc
none_by false s e = tt

swap_tests : (a b c d : Bool) → ((a && b) && (c && d)) ≡ ((a && c) && (b && d))
swap_tests true true c d = refl
swap_tests true false true d = refl
swap_tests true false false d = refl
swap_tests false b c d = refl

late_rest : (p a b : Bool) (s : Spread) → (a && b) ≡ false → None ≡ cond (p && (a && b)) (Some s) None
late_rest true a b s e = rw e refl
late_rest false a b s e = refl

all_by : (p a b : Bool) (s t : Spread) → a ≡ true → b ≡ true → Some t ≡ cond p (Some s) None → Some t ≡ cond (p && (a && b)) (Some s) None
all_by true a b s t e f g = rw (e, f) g
all_by false a b s t e f g = g

module _ (x y : Probe) where
  abbrev pub all_on_time : Bool
  all_on_time = every x.count (on_time x.ticks) && every y.count (on_time y.ticks)

  pub late_pairs : None ≡ pairs_of x y → None ≡ records_of x y
  unfolding pairs_of records_of
  late_pairs e =
      let n = paired x y in
      sym
      (cond_no all_on_time (Some (spread x y)) None
      (not_T all_on_time (λ t.
      T_not (pairs_on_time x y) (none_by (pairs_on_time x y) (spread x y) e)
      (and_i (every n (on_time x.ticks)) (every n (on_time y.ticks))
      (fewer n x.count x.ticks (omega arith) (and_l (every x.count (on_time x.ticks)) (every y.count (on_time y.ticks)) t))
      (fewer n y.count y.ticks (omega arith) (and_r (every x.count (on_time x.ticks)) (every y.count (on_time y.ticks)) t))))))

module _ (x y : Probe) (tx : length x.ticks ≡ x.count) (ty : length y.ticks ≡ y.count) where
  abbrev rest_x : Bool
  rest_x = list_all early (drop (paired x y) x.ticks)

  abbrev rest_y : Bool
  rest_y = list_all early (drop (paired x y) y.ticks)

  by_parts : records_of x y ≡ cond (pairs_on_time x y && (rest_x && rest_y)) (Some (spread x y)) None
  unfolding records_of
  by_parts =
      let n = paired x y in
      let e : every x.count (on_time x.ticks) ≡ (every n (on_time x.ticks) && rest_x) = ap (λ k. every k (on_time x.ticks)) (sym tx) ∙ all_ticks x.ticks n (omega arith) in
      let f : every y.count (on_time y.ticks) ≡ (every n (on_time y.ticks) && rest_y) = ap (λ k. every k (on_time y.ticks)) (sym ty) ∙ all_ticks y.ticks n (omega arith) in
      ap (λ q. cond q (Some (spread x y)) None) (ap₂ (λ a b. a && b) e f ∙ swap_tests (every n (on_time x.ticks)) rest_x (every n (on_time y.ticks)) rest_y)

  pub late_first : rest_x ≡ false → None ≡ records_of x y
  late_first e = late_rest (pairs_on_time x y) rest_x rest_y (spread x y) (ap (λ q. q && rest_y) e) ∙ sym by_parts

  pub late_second : rest_x ≡ true → rest_y ≡ false → None ≡ records_of x y
  late_second e f = late_rest (pairs_on_time x y) rest_x rest_y (spread x y) (ap₂ (λ p q. p && q) e f) ∙ sym by_parts

  pub spread_all : {t : Spread} → rest_x ≡ true → rest_y ≡ true → Some t ≡ pairs_of x y → Some t ≡ records_of x y
  unfolding pairs_of
  spread_all {t} e f g = all_by (pairs_on_time x y) rest_x rest_y (spread x y) t e f g ∙ sym by_parts

-- ---- what a caller takes from the result

-- the tests hold, and these are the differences
pub record Told (b : Bool) (t s : Spread) : Type 0 where
  pub on_time : T b
  pub is : t ≡ s

some_by : (b : Bool) (t s : Spread) → Some t ≡ cond b (Some s) None → Told b t s
some_by true t s e = record { on_time = tt; is = cc }
some_by false t s e = cc

module _ (x y : Probe) where
  pub records_late : None ≡ records_of x y → T (not (all_on_time x y))
  unfolding records_of
  records_late e = none_by (all_on_time x y) (spread x y) e

  pub records_told : {t : Spread} → Some t ≡ records_of x y → Told (all_on_time x y) t (spread x y)
  unfolding records_of
  records_told {t} e = some_by (all_on_time x y) t (spread x y) e

  pub told_fits : {t : Spread} → Told (all_on_time x y) t (spread x y) → (t.greatest ≤ 2 ^ 63) × (t.least ≤ 2 ^ 63)
  told_fits t =
      let n = paired x y in
      let second = and_r (every x.count (on_time x.ticks)) (every y.count (on_time y.ticks)) t.on_time in
      let m = greatest_fits x.ticks y.ticks n (fewer n y.count y.ticks (omega arith) second) in
      let l = least_fits x.ticks y.ticks n in
      (subst (λ v. v ≤ 2 ^ 63) (sym (ap (λ s. s.greatest) t.is)) m, subst (λ v. v ≤ 2 ^ 63) (sym (ap (λ s. s.least) t.is)) l)
