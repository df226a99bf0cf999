-- One pass over the pairs: the greatest and the least difference of the first i, whose ticks are below 2^62.
use mathlib.Core.Path.{◌≡◌, refl, sym, ap, ap₂, ◌∙◌}
use mathlib.Core.List.{List}
use mathlib.Core.Bool.{true, false, ◌&&◌}
use Prim.Native.Nat.{ℕ, zero, suc, ◌+◌, ◌^◌, ◌≤◌, ◌<◌, max, min}
use native.Mathlib.Omega.{arith}
use native.Mathlib.Numerals.{add-one}
use lib.Dec.{T, ltb→lt, lt→ltb, not_T}
use lib.ListN.{get_or}
use Rattle.rules.specs.Cells.{every}
use Rattle.rules.proofs.Tests.{and_i, and_l, and_r, holds, is_false, every_at}
use Rattle.probe_rules.specs.Probes.{on_time}
use Rattle.probes.specs.Pairs.{early}
use Rattle.probe_rules.specs.Closed.{difference, greatest, least}

-- two ticks that pass their tests
pub both_early : (x y : ℕ) → (early x && early y) ≡ true → (x < 2 ^ 62) × (y < 2 ^ 62)
both_early x y e =
    let t = holds (early x && early y) e in
    (ltb→lt x (2 ^ 62) (and_l (early x) (early y) t), ltb→lt y (2 ^ 62) (and_r (early x) (early y) t))

-- one tick more that is on time
on_time_more : (ts : List ℕ) (i : ℕ) → T (every i (on_time ts)) → get_or ts i 0 < 2 ^ 62 → T (every (i + 1) (on_time ts))
on_time_more ts i t h = rw (add-one i) (and_i (every i (on_time ts)) (on_time ts i) t (lt→ltb (get_or ts i 0) (2 ^ 62) h))

-- a late tick among the first n
pub late_at : (ts : List ℕ) (i n : ℕ) → i < n → 2 ^ 62 ≤ get_or ts i 0 → every n (on_time ts) ≡ false
late_at ts i n h k =
    is_false (every n (on_time ts))
    (not_T (every n (on_time ts)) (λ e. let m = ltb→lt (get_or ts i 0) (2 ^ 62) (every_at n (on_time ts) e i h) in absurd (omega arith)))

module _ (ts us : List ℕ) where
  pub record Passed (i g l : ℕ) : Type 0 where
    pub first : T (every i (on_time ts))
    pub second : T (every i (on_time us))
    pub greatest_is : g ≡ greatest ts us i
    pub least_is : l ≡ least ts us i

  pub passed_none : Passed 0 0 (2 ^ 63)
  unfolding greatest least
  passed_none = record { first = tt; second = tt; greatest_is = refl; least_is = refl }

  -- one pair more
  pub passed_more : (i g l d : ℕ) → get_or ts i 0 < 2 ^ 62 → get_or us i 0 < 2 ^ 62 → d ≡ difference ts us i → Passed i g l → Passed (i + 1) (max g d) (min l d)
  unfolding greatest least
  passed_more i g l d h k e p =
      record {
        first = on_time_more ts i p.first h;
        second = on_time_more us i p.second k;
        greatest_is = ap₂ max p.greatest_is e ∙ ap (greatest ts us) (sym (add-one i));
        least_is = ap₂ min p.least_is e ∙ ap (least ts us) (sym (add-one i));
      }

-- ---- where every tick is on time, both differences stay within 64 bits

pub greatest_fits : (ts us : List ℕ) (n : ℕ) → T (every n (on_time us)) → greatest ts us n ≤ 2 ^ 63
unfolding greatest
greatest_fits ts us zero t = omega arith
greatest_fits ts us (suc n) t =
    let ih = greatest_fits ts us n (and_l (every n (on_time us)) (on_time us n) t) in
    let h = ltb→lt (get_or us n 0) (2 ^ 62) (and_r (every n (on_time us)) (on_time us n) t) in
    omega arith

pub least_fits : (ts us : List ℕ) (n : ℕ) → least ts us n ≤ 2 ^ 63
unfolding least
least_fits ts us zero = omega arith
least_fits ts us (suc n) = let ih = least_fits ts us n in omega arith
