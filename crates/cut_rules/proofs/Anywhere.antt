-- Whether records differ does not depend on what the memory held before set-up.
use mathlib.Core.Path.{◌≡◌}
use mathlib.Core.List.{List}
use Prim.Native.Nat.{ℕ, ◌*◌, ◌≤◌}
use native.Mathlib.Omega.{arith}
use native.Mathlib.Decide.{ℕ_discrete}
use native.Mathlib.Nat.{mul-le-mul}
use borrow.Author.Tests.{ne_eqb}
use Rattle.rules.specs.declared.Setting.{Setting}
use Rattle.rules.specs.declared.Limits.{Limits}
use Rattle.rules.specs.Answers.{none, refusal_number}
use Rattle.rules.specs.Setting.{setting_refusal}
use Rattle.rules.specs.State.{State}
use Rattle.rules.specs.Policy.{Policy}
use Rattle.rules.specs.Tested.{Long}
use Rattle.rules.specs.Calls.{setup_refusal}
use Rattle.rules.specs.Claims.{UsedFlying}
use Rattle.rules.proofs.Accept.{accepted, number_none}
use Rattle.rules.proofs.Sound.{long_not_short}
use Rattle.log_format.specs.declared.Entry.{Entry}
use Rattle.log_format.specs.Contents.{setting_in, seeds_in}
use Rattle.log_format.specs.Verdict.{Running, and_then, judge_records, memory, set_up, judge_start, unread}
use Rattle.log_format.proofs.Agrees.{setup_accepts}
use Rattle.log_format.proofs.Anywhere.{same_said}
use Rattle.cut_rules.specs.Cut.{judgement, says_differs, differing}
use Rattle.cut_rules.specs.Roomy.{Roomy}
use Rattle.cut_rules.proofs.Runs.{same_differs}

pub roomy_accepts : (m : Limits) (s : Setting) (seeds : List ℕ) (st : State) → Roomy m st.counters st.ticks st.rows st.threads → setting_refusal m s seeds ≡ none → setup_refusal m s seeds st ≡ none
unfolding setup_refusal
roomy_accepts m s seeds st long e =
    let ok = accepted m s seeds e in
    let k : s.banks * s.threads ≤ 512 = mul-le-mul {n₂ = 16} {m₂ = 32} ok.ranges.banks_high ok.ranges.threads_high in
    let all : Long s st =
    record {
      counters = omega (arith, ok.ranges.banks_high, long.counters);
      ticks = omega (arith, ok.short, long.ticks);
      rows = omega (arith, ok.short, long.rows);
      threads = omega (arith, long.threads);
    } in
    rw (e, long_not_short s st all)

-- a setting that is refused is refused in every memory
refused_anywhere : (m : Limits) (s : Setting) (seeds : List ℕ) (st : State) → (refusal_number (setting_refusal m s seeds) ≡ 0 → ⊥) → setup_refusal m s seeds st ≡ setting_refusal m s seeds
unfolding setup_refusal
refused_anywhere m s seeds st n = rw (ne_eqb (refusal_number (setting_refusal m s seeds)) 0 n)

pub differing_anywhere : (p : Policy) → UsedFlying p → (x : Running) (s : List ℕ) (es : List Entry) → Roomy p.limits x.state.counters x.state.ticks x.state.rows x.state.threads
    → says_differs (and_then (judge_start p x s) (λ (y : Running). judge_records p y es)) ≡ differing p s es
unfolding differing judgement judge_start unread
differing_anywhere p fly x s es long = go (ℕ_discrete (refusal_number (setting_refusal m (setting_in s) (seeds_in s))) 0)
  where
    m : Limits
    m = p.limits

    go : Dec (refusal_number (setting_refusal p.limits (setting_in s) (seeds_in s)) ≡ 0)
        → says_differs (and_then (judge_start p x s) (λ (y : Running). judge_records p y es))
        ≡ says_differs (and_then (judge_start p (unread p.limits) s) (λ (y : Running). judge_records p y es))
    go (yes e) =
        let ok = number_none (setting_refusal p.limits (setting_in s) (seeds_in s)) e in
        let here = roomy_accepts p.limits (setting_in s) (seeds_in s) x.state long ok in
        rw (here, setup_accepts p.limits (setting_in s) (seeds_in s) ok)
        (same_differs p (set_up (setting_in s) (seeds_in s) x.state) (set_up (setting_in s) (seeds_in s) (memory p.limits)) es
        (same_said p fly (setting_in s) (seeds_in s) x.state here es))
    go (no n) =
        let r = setting_refusal p.limits (setting_in s) (seeds_in s) in
        rw (refused_anywhere p.limits (setting_in s) (seeds_in s) x.state n, refused_anywhere p.limits (setting_in s) (seeds_in s) (memory p.limits) n, ne_eqb (refusal_number r) 0 n)
