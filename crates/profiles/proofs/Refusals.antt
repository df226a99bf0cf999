-- The refusals about a setting, test by test: under the large profile the test of 16 never holds, under another one it comes last.
use mathlib.Core.Path.{◌≡◌, refl, sym, ap, subst, ◌∙◌}
use mathlib.Core.Logic.{◌≢◌}
use mathlib.Core.List.{List}
use mathlib.Core.Bool.{Bool, true, false, not, ◌&&◌, ◌||◌}
use Prim.Native.Nat.{ℕ, ◌-◌, ◌*◌, ◌≤◌}
use native.Mathlib.Omega.{arith}
use lib.Dec.{ltb}
use borrow.Author.Tests.{le-ltb}
use Rattle.rules.specs.declared.Setting.{Setting}
use Rattle.rules.specs.declared.Limits.{Limits}
use Rattle.rules.specs.Cells.{ceil_div}
use Rattle.rules.specs.Answers.{Refusal, none, out_of_range, short_window, bad_delay, long_history, above_limit, above_profile, refusal_number, refuse}
use Rattle.rules.specs.Setting.{epoch_length, history_length, row_bound, with_mark, known, profile_of, exceeds, fields_in_range, seeds_in_range, setting_refusal}
use Rattle.rules.proofs.Tests.{and_true, is_true}
use Rattle.rules.proofs.Accept.{accepted, ranges, ceil_le}
use Rattle.profiles.specs.Former.{fields01, refusal01}
use Rattle.profiles.specs.Claims.{KeepsLimits, OtherMark, OnlyAbove, RefusedAlike, SmallAccepts}

-- ---- refusals 1 to 5 by their tests, and what comes after them

abbrev five : Bool → Bool → Bool → Bool → Bool → Refusal → Refusal
five a b c d e rest = refuse a out_of_range (refuse b short_window (refuse c bad_delay (refuse d long_history (refuse e above_limit rest))))

-- none of the five: what comes after them
five_none : (a b c d e : Bool) (rest : Refusal) → five a b c d e none ≡ none → five a b c d e rest ≡ rest
five_none true b c d e rest h = absurd (omega (arith, ap refusal_number h))
five_none false true c d e rest h = absurd (omega (arith, ap refusal_number h))
five_none false false true d e rest h = absurd (omega (arith, ap refusal_number h))
five_none false false false true e rest h = absurd (omega (arith, ap refusal_number h))
five_none false false false false true rest h = absurd (omega (arith, ap refusal_number h))
five_none false false false false false rest h = refl

-- one of the five: whatever comes after them
five_some : (a b c d e : Bool) (rest : Refusal) → five a b c d e none ≢ none → five a b c d e rest ≡ five a b c d e none
five_some true b c d e rest h = refl
five_some false true c d e rest h = refl
five_some false false true d e rest h = refl
five_some false false false true e rest h = refl
five_some false false false false true rest h = refl
five_some false false false false false rest h = absurd (h refl)

-- where the whole has no number of the five, it is none of them
five_passed : (a b c d e : Bool) (rest : Refusal) → let n = refusal_number (five a b c d e rest) in (1 ≤ n → 6 ≤ n) → five a b c d e none ≡ none
five_passed true b c d e rest h = let k = h (omega arith) in absurd (omega arith)
five_passed false true c d e rest h = let k = h (omega arith) in absurd (omega arith)
five_passed false false true d e rest h = let k = h (omega arith) in absurd (omega arith)
five_passed false false false true e rest h = let k = h (omega arith) in absurd (omega arith)
five_passed false false false false true rest h = let k = h (omega arith) in absurd (omega arith)
five_passed false false false false false rest h = refl

module _ (m : Limits) (s : Setting) (seeds : List ℕ) where
  -- those of the setting, the first by whether its fields are in range
  abbrev out : Bool → Bool
  out ok = not (ok && seeds_in_range seeds)

  abbrev crowded : Bool
  crowded = ltb (s.w - 1) (2 * s.n * s.trc)

  abbrev delayed : Bool
  delayed = ltb s.td s.trc || ltb (epoch_length s) s.td

  abbrev long : Bool
  long = ltb m.history (history_length s)

  abbrev hammered : Bool
  hammered = ltb s.l (row_bound s)

  abbrev tests : Bool → Refusal → Refusal
  tests ok rest = five (out ok) crowded delayed long hammered rest

  -- 16, for a profile
  abbrev above : ℕ → Refusal
  above mark = refuse (exceeds (profile_of mark) s.banks (history_length s)) above_profile none

  -- ---- the refusals with each mark

  by_mark : (mark : ℕ) → setting_refusal m (with_mark mark s) seeds ≡ tests (fields01 m s && known mark) (above mark)
  unfolding setting_refusal fields_in_range fields01 history_length row_bound
  by_mark mark = refl

  own_mark : setting_refusal m s seeds ≡ setting_refusal m (with_mark s.profile s) seeds
  unfolding setting_refusal fields_in_range history_length row_bound
  own_mark = refl

  -- a setting in range is within the large profile
  within_large : fields01 m s ≡ true → exceeds (profile_of 0) s.banks (history_length s) ≡ false
  unfolding fields_in_range fields01 history_length
  within_large e =
      let r = ranges m (with_mark 0 s) (rw e tt) in
      simp (le-ltb 16 s.banks r.banks_high, le-ltb 2147483648 (4 * ceil_div s.td s.tfaw) (omega (arith, r.td_high, ceil_le s.td s.tfaw r.tfaw_low)))

  pub large_refusal : setting_refusal m (with_mark 0 s) seeds ≡ tests (fields01 m s) none
  large_refusal = by_mark 0 ∙ go (fields01 m s) refl
    where
      go : (b : Bool) → fields01 m s ≡ b → tests (b && true) (above 0) ≡ tests b none
      go true e = simp (within_large e)
      go false e = refl

  known_refusal : known s.profile ≡ true → setting_refusal m s seeds ≡ tests (fields01 m s) (above s.profile)
  known_refusal e = own_mark ∙ by_mark s.profile ∙ rw (e, and_true (fields01 m s))

  unknown_refusal : known s.profile ≡ false → setting_refusal m s seeds ≡ out_of_range
  unknown_refusal e = own_mark ∙ by_mark s.profile ∙ rw e (go (fields01 m s))
    where
      go : (b : Bool) → tests (b && false) (above s.profile) ≡ out_of_range
      go true = refl
      go false = refl

  -- ---- one mark and the large profile's

  -- a setting that has no number of the five is accepted under the large profile
  pub passed_large : let n = refusal_number (setting_refusal m s seeds) in (1 ≤ n → 6 ≤ n) → setting_refusal m (with_mark 0 s) seeds ≡ none
  passed_large h = go (known s.profile) refl
    where
      go : (b : Bool) → known s.profile ≡ b → setting_refusal m (with_mark 0 s) seeds ≡ none
      go true e = large_refusal ∙ five_passed (out (fields01 m s)) crowded delayed long hammered (above s.profile) (subst (λ (r : Refusal). 1 ≤ refusal_number r → 6 ≤ refusal_number r) (known_refusal e) h)
      go false e = let k = subst (λ (r : Refusal). 1 ≤ refusal_number r → 6 ≤ refusal_number r) (unknown_refusal e) h (omega arith) in absurd (omega arith)

  -- where the large profile accepts it, 16 decides
  pub own_decides : known s.profile ≡ true → setting_refusal m (with_mark 0 s) seeds ≡ none → setting_refusal m s seeds ≡ above s.profile
  own_decides e h = known_refusal e ∙ five_none (out (fields01 m s)) crowded delayed long hammered (above s.profile) (sym large_refusal ∙ h)

  pub large_decides : known s.profile ≡ true → setting_refusal m (with_mark 0 s) seeds ≢ none → setting_refusal m s seeds ≡ setting_refusal m (with_mark 0 s) seeds
  large_decides e h = known_refusal e ∙ five_some (out (fields01 m s)) crowded delayed long hammered (above s.profile) (λ z. h (large_refusal ∙ z)) ∙ sym large_refusal

-- ---- the claims

pub keeps_limits : KeepsLimits
unfolding refusal01
keeps_limits m s seeds e = own_mark m s seeds ∙ ap (λ (k : ℕ). setting_refusal m (with_mark k s) seeds) e ∙ large_refusal m s seeds

pub other_mark : OtherMark
other_mark m s seeds h = unknown_refusal m s seeds (le-ltb s.profile 2 h)

pub only_above : OnlyAbove
only_above m s seeds e = passed_large m s seeds (λ h. omega (arith, ap refusal_number e))

pub refused_alike : RefusedAlike
refused_alike m s seeds k h = large_decides m s seeds (is_true (known s.profile) k) h

pub small_accepts : SmallAccepts
unfolding history_length
small_accepts m s seeds h = (
  λ e. let a = accepted m (with_mark 1 s) seeds e in (a.banks_own, a.history_own),
  λ b c. own_decides m (with_mark 1 s) seeds refl h ∙ simp (le-ltb 4 s.banks b, le-ltb 1024 (history_length s) c),
)
