-- The answer under a profile and the one under the large profile.
use mathlib.Core.Path.{◌≡◌, refl, sym, ap, subst, ◌∙◌}
use mathlib.Core.Logic.{◌≢◌}
use mathlib.Core.Bool.{Bool, true, false}
use Prim.Native.Nat.{ℕ, ◌≤◌}
use native.Mathlib.Omega.{arith}
use Rattle.std.specs.Prelude.{Ok, Err}
use Rattle.rules.specs.declared.Setting.{Setting}
use Rattle.rules.specs.declared.Limits.{Limits}
use Rattle.rules.specs.Answers.{Refusal, none, out_of_range, short_window, bad_delay, long_history, above_limit, above_profile, short_buffer, bad_memory, outside_setting, bad_tick, none_in_flight, refusal_number, refuse}
use Rattle.rules.specs.Setting.{row_bound, with_mark, known}
use Rattle.rules.proofs.Tests.{is_true}
use Rattle.profiles.proofs.Refusals.{passed_large, own_decides, large_decides}
use Rattle.refused.specs.declared.Refusal as refused
use Rattle.refused.specs.declared.Refusal.TheVariants.{AboveProfile}
use Rattle.refused.specs.Numbers.{number_of}
use Rattle.plan_rules.specs.delays.Delays.{Plan, from_to, with_delay, some_seeds, delay_refusal, Ends, Reason, every_delay, only_profile, smallest_delay, no_delay, Says}
use Rattle.plan_rules.specs.delays.Answer.{delays_of}
use Rattle.plan_rules.specs.delays.Claims.{Sixteen}
use Rattle.plan_rules.proofs.delays.Shape.{exceeds_own, one}
use Rattle.plan_rules.proofs.delays.Answer.{right}
use Rattle.plan_rules.proofs.delays.Only.{only_one}

-- 16 is the number of one refusal
is_above : (r : Refusal) → refusal_number r ≡ 16 → r ≡ above_profile
is_above none e = absurd (omega arith)
is_above out_of_range e = absurd (omega arith)
is_above short_window e = absurd (omega arith)
is_above bad_delay e = absurd (omega arith)
is_above long_history e = absurd (omega arith)
is_above above_limit e = absurd (omega arith)
is_above above_profile e = refl
is_above short_buffer e = absurd (omega arith)
is_above bad_memory e = absurd (omega arith)
is_above outside_setting e = absurd (omega arith)
is_above bad_tick e = absurd (omega arith)
is_above none_in_flight e = absurd (omega arith)

module _ (m : Limits) (s : Setting) where
  abbrev large : Setting
  large = with_mark 0 s

  -- ---- the refusal of a delay under both

  passed : (td : ℕ) → delay_refusal m s td ≡ above_profile → delay_refusal m large td ≡ none
  unfolding delay_refusal
  passed td e = passed_large m (with_delay s td) some_seeds (λ h. omega (arith, ap refusal_number e))

  decides : known s.profile ≡ true → (td : ℕ) → delay_refusal m large td ≡ none → delay_refusal m s td ≡ refuse (exceeds_own s td) above_profile none
  unfolding delay_refusal
  decides k td e = own_decides m (with_delay s td) some_seeds k e

  alike : known s.profile ≡ true → (td : ℕ) → delay_refusal m large td ≢ none → delay_refusal m s td ≡ delay_refusal m large td
  unfolding delay_refusal
  alike k td h = large_decides m (with_delay s td) some_seeds k h

  -- ---- only the profile

  -- some delay gets 16: the large profile has an answer with delays
  has_large : (td : ℕ) → delay_refusal m s td ≡ above_profile → (a : ℕ) × (b : ℕ) × (delays_of m large ≡ from_to a b)
  has_large td e = go (delays_of m large) refl
    where
      go : (p : Plan) → delays_of m large ≡ p → (a : ℕ) × (b : ℕ) × (delays_of m large ≡ from_to a b)
      go (Ok z) k = (z.least, z.greatest, k)
      go (Err why) k = absurd ((subst (Says m large) k (right m large)).0 td (passed td e))

  only : delays_of m s ≡ Err AboveProfile → ((a : ℕ) × (b : ℕ) × (delays_of m large ≡ from_to a b)) × ((td : ℕ) → delay_refusal m s td ≢ none)
  only e = (go said.1, said.0)
    where
      said : Says m s (Err AboveProfile)
      said = subst (Says m s) e (right m s)

      go : Reason m s 16 → (a : ℕ) × (b : ℕ) × (delays_of m large ≡ from_to a b)
      go (every_delay r k f) = has_large 1 (f 1 one ∙ is_above r (sym k))
      go (only_profile td k x) = has_large td x
      go (smallest_delay d x n k) = absurd (n d (is_above (delay_refusal m s d) (sym k)))
      go (no_delay k g) = absurd (omega arith)

  module _ (wide : 4 ≤ m.history) (k : known s.profile ≡ true) where
    excluded : (a b : ℕ) → delays_of m large ≡ from_to a b → ((td : ℕ) → delay_refusal m s td ≢ none) → delays_of m s ≡ Err AboveProfile
    excluded a b e nothing = only_one m s (delays_of m s) (Err AboveProfile) wide (right m s) (nothing, only_profile a refl (go (exceeds_own s a) (decides k a x.least_accepted)))
      where
        x : Ends m large a b
        x = subst (Says m large) e (right m large)

        go : (q : Bool) → delay_refusal m s a ≡ refuse q above_profile none → delay_refusal m s a ≡ above_profile
        go true z = z
        go false z = absurd (nothing a z)

    -- ---- where the large profile has none either

    as_large : (why : refused.Refusal) → delays_of m large ≡ Err why → delays_of m s ≡ Err why
    unfolding row_bound
    as_large why e = only_one m s (delays_of m s) (Err why) wide (right m s) (none_accepted, go said.1)
      where
        said : Says m large (Err why)
        said = subst (Says m large) e (right m large)

        same : (td : ℕ) → delay_refusal m s td ≡ delay_refusal m large td
        same td = alike k td (said.0 td)

        none_accepted : (td : ℕ) → delay_refusal m s td ≢ none
        none_accepted td z = said.0 td (sym (same td) ∙ z)

        never : (td : ℕ) → delay_refusal m s td ≢ above_profile
        never td z = said.0 td (passed td z)

        go : Reason m large (number_of why) → Reason m s (number_of why)
        go (every_delay r n f) = every_delay r n (λ td h. same td ∙ f td h)
        go (only_profile td n x) = absurd (never td (same td ∙ x))
        go (smallest_delay d x f n) = smallest_delay d (record { in_range = x.in_range; bounded = x.bounded; first = x.first }) never (n ∙ ap refusal_number (sym (same d)))
        go (no_delay n g) = no_delay n (λ td h. let z = g td h in (z.0, (λ y. z.1 (sym (same td) ∙ y)), λ y. z.2 (sym (same td) ∙ y)))

pub sixteen : Sixteen
sixteen m s wide k =
    let e = is_true (known s.profile) k in
    record { only = only m s; excluded = excluded m s wide e; as_large = as_large m s wide e }
