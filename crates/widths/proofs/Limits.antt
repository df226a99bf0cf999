-- The refusals about a setting at the old and at the new limits, test by test.
use mathlib.Core.Path.{◌≡◌, refl, ◌∙◌}
use mathlib.Core.Logic.{◌≢◌}
use mathlib.Core.List.{List}
use mathlib.Core.Bool.{Bool, true, false, not, ◌&&◌, ◌||◌}
use Prim.Native.Nat.{ℕ, ◌-◌, ◌*◌, ◌≤◌, ◌<◌}
use native.Mathlib.Omega.{arith}
use lib.Dec.{ltb, not_T}
use borrow.Author.Tests.{le-leb, lt-ltb, le-ltb}
use Rattle.rules.specs.declared.Setting.{Setting}
use Rattle.rules.specs.Answers.{Refusal, out_of_range, short_window, bad_delay, long_history, refuse}
use Rattle.rules.specs.Setting.{epoch_length, history_length, row_bound, fields_in_range, seeds_in_range, setting_of, setting_refusal}
use Rattle.rules.specs.Policy.{limits01, limits02}
use Rattle.rules.specs.Samples.{house}
use Rattle.rules.proofs.Tests.{is_false}
use Rattle.rules.proofs.Accept.{ranges, accepted}
use Rattle.widths.specs.Claims.{TwoLimits, OldAccepted, NewSettings}

-- what comes after 1, 2 and 3, where the tests of these do not hold
after3 : (a b c : Bool) (x y : Refusal)
    → let r = refuse a out_of_range (refuse b short_window (refuse c bad_delay x)) in
    r ≢ out_of_range → r ≢ short_window → r ≢ bad_delay → refuse a out_of_range (refuse b short_window (refuse c bad_delay y)) ≡ y
after3 true b c x y h1 h2 h3 = absurd (h1 refl)
after3 false true c x y h1 h2 h3 = absurd (h2 refl)
after3 false false true x y h1 h2 h3 = absurd (h3 refl)
after3 false false false x y h1 h2 h3 = refl

module _ (s : Setting) (seeds : List ℕ) where
  -- an N above the old limit is out of range there
  fields_out : 32768 < s.n → fields_in_range limits01 s ≡ false
  fields_out h = is_false (fields_in_range limits01 s) (not_T (fields_in_range limits01 s) (λ ok. omega (arith, (ranges limits01 s ok).n_high)))

  -- one within it is within both
  fields_same : s.n ≤ 32768 → fields_in_range limits02 s ≡ fields_in_range limits01 s
  unfolding fields_in_range
  fields_same h = rw (le-leb s.n 32768 h, le-leb s.n 1048576 (omega arith))

  pub two_limits : TwoLimits s seeds
  unfolding setting_refusal
  two_limits =
      record {
        above_threshold = λ h. rw (fields_out h);
        above_history = λ h k.
            rw (fields_same h, lt-ltb 4096 (history_length s) k)
            (after3 (not (fields_in_range limits01 s && seeds_in_range seeds)) (ltb (s.w - 1) (2 * s.n * s.trc)) (ltb s.td s.trc || ltb (epoch_length s) s.td) _ long_history);
        within = λ h k. rw (fields_same h, le-ltb 4096 (history_length s) k, le-ltb 32768 (history_length s) (omega arith));
      }

pub old_accepted : OldAccepted
old_accepted s seeds e =
    let a = accepted limits01 s seeds e in
    (two_limits s seeds).within a.ranges.n_high a.short ∙ e

pub new_settings : NewSettings
unfolding setting_refusal setting_of history_length row_bound fields_in_range seeds_in_range house
new_settings =
    record {
      weak_bound = refl;
      weak_history = refl;
      weak = refl;
      weak_less = refl;
      weak_old = refl;
      longest = refl;
      longest_new = refl;
      longest_old = refl;
      longer = refl;
      greatest = refl;
      greatest_old = refl;
      greater = refl;
    }
