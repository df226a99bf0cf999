-- Demand 3, from the theorem about spans of every length.
use mathlib.Core.Path.{◌≡◌, ap, ◌∙◌, subst}
use mathlib.Core.List.{List}
use Prim.Native.Nat.{ℕ, ◌+◌, ◌-◌, ◌*◌, ◌/◌, ◌≤◌, ◌<◌}
use native.Mathlib.Omega.{arith}
use native.Mathlib.Nat.{le-div_iff_mul-le, div-lt_iff_lt-mul}
use lib.Dec.{leb, le→leb}
use Rattle.rules.specs.declared.Setting.{Setting}
use Rattle.rules.specs.declared.Limits.{Limits}
use Rattle.rules.specs.Cells.{ceil_div}
use Rattle.rules.specs.Setting.{epoch_length, row_bound}
use Rattle.rules.specs.Answers.{none}
use Rattle.rules.specs.State.{State, fresh}
use Rattle.rules.specs.Policy.{Policy}
use Rattle.rules.specs.Calls.{setup_refusal, Activation, times_activated}
use Rattle.rules.specs.Moves.{Owned, Moves}
use Rattle.rules.specs.Claims.{free_most, span_bound, Spans, Demand3, WithinBound}
use Rattle.rules.proofs.Tests.{cond_yes}
use Rattle.rules.proofs.Accept.{set_up_lem, epoch_long}
use Rattle.rules.specs.Tested.{Accepted}
use Rattle.rules.proofs.Moves.{spans_of_moves}
use Rattle.rules.proofs.Step.{owned, run_moves}

-- the bound for a span of W ticks is B: three epochs meet it, so F is 2N
window_epochs : (d : ℕ) → 2 ≤ d → ceil_div (ceil_div (2 * d - 1) d + 1) 2 ≡ 2
window_epochs d h =
    let lo : 2 ≤ (2 * d - 1 + (d - 1)) / d = (le-div_iff_mul-le {k = d} {x = 2} {y = 2 * d - 1 + (d - 1)} (omega arith)).1 (omega arith) in
    let hi : (2 * d - 1 + (d - 1)) / d < 3 = (div-lt_iff_lt-mul {k = d} {x = 2 * d - 1 + (d - 1)} {y = 3} (omega arith)).1 (omega arith) in
    let two : (2 * d - 1 + (d - 1)) / d ≡ 2 = omega arith in
    rw two

window_bound : (m : Limits) (s : Setting) (seeds : List ℕ) → Accepted m s seeds → span_bound s s.w ≡ row_bound s
unfolding span_bound row_bound
window_bound m s seeds ok =
    let halves : s.w ≡ 2 * epoch_length s = omega (arith, ok.ranges.even) in
    let pairs : ceil_div (ceil_div (s.w - 1) (epoch_length s) + 1) 2 ≡ 2 =
    ap (λ w. ceil_div (ceil_div (w - 1) (epoch_length s) + 1) 2) halves ∙ window_epochs (epoch_length s) (epoch_long ok) in
    let free : free_most s s.w ≡ 2 * s.n = ap (λ k. s.n * k) pairs ∙ omega arith in
    rw (free, cond_yes (leb (2 * s.n * s.trc) (s.w - 1)) (2 * s.n + 1 + (s.w - 1 - 2 * s.n * s.trc) / s.td) (1 + (s.w - 1) / s.trc) (le→leb (2 * s.n * s.trc) (s.w - 1) ok.room))

-- ---- moves after a set-up that is not refused, from the setting's seeds in both filters

module _ (m : Limits) (s : Setting) (seeds : List ℕ) (before : State) (e : setup_refusal m s seeds before ≡ none) (y : Owned) (os : List Activation) (run : Moves s (owned seeds (fresh s before)) y os) where
  pub spans_after : (bank row start x : ℕ) → 1 ≤ x → times_activated bank row start x os ≤ span_bound s x
  spans_after bank row start x x1 =
      let up = set_up_lem m s seeds before e in
      let most = spans_of_moves m s seeds before e (λ f. seeds) (λ f f2. up.setting.seeds_ok) run.moves run.allowed bank row start x x1 in
      subst (λ l. times_activated bank row start x l ≤ span_bound s x) run.makes most

  -- at most B ..
  bound_after : (bank row start : ℕ) → times_activated bank row start s.w os ≤ row_bound s
  bound_after bank row start =
      let ok = (set_up_lem m s seeds before e).setting in
      omega (arith, spans_after bank row start s.w (omega (arith, ok.ranges.w_low)), window_bound m s seeds ok)

  -- .. which is at most L
  pub demand3_after : (bank row start : ℕ) → times_activated bank row start s.w os ≤ s.l
  demand3_after bank row start = omega (arith, bound_after bank row start, (set_up_lem m s seeds before e).setting.bound)

-- ---- lists of calls, for every policy

pub spans : (p : Policy) → Spans p
spans p s seeds before e cs = spans_after p.limits s seeds before e _ _ (run_moves p s seeds cs (fresh s before))

pub within_bound : (p : Policy) → WithinBound p
within_bound p s seeds before e cs = bound_after p.limits s seeds before e _ _ (run_moves p s seeds cs (fresh s before))

-- Demand 3
pub demand_3 : (p : Policy) → Demand3 p
demand_3 p s seeds before e cs = demand3_after p.limits s seeds before e _ _ (run_moves p s seeds cs (fresh s before))
