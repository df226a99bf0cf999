-- `ends::delays_within`: the tests are those of the definition, in its order.
use mathlib.Core.Path.{◌≡◌, ap, ◌∙◌}
use Prim.Native.Nat.{ℕ, ◌*◌, ◌/◌, ◌≤◌, min}
use native.Mathlib.Omega.{arith}
use borrow.Author.Tests.{le-leb, lt-leb}
use Rattle.rules.specs.declared.Setting.{Setting}
use Rattle.rules.specs.declared.Limits.{Limits}
use Rattle.rules.specs.declared.Profile.{Profile}
use Rattle.rules.specs.Setting.{profile_of}
use Rattle.plan_rules.specs.delays.Answer.{own_greatest, delays_within}
use Rattle.plan.proofs.ends.Served.{own_small}
use Rattle.plan.proofs.ends.delays_within.Goals as goal
use Rattle.plan.proofs.ends.delays_within.Goals.{then-own-s-via-then-own-s, then-own-s-via-else-own-s+then-last-least}

pub overflow_mul-own : goal.overflow_mul-own
overflow_mul-own c =
    rw c.profile-own.ensures (omega (arith, own_small c.args.s.profile c.args.s.tfaw c.requires.0))

pub returns-then-own-s : goal.returns-then-own-s
unfolding delays_within own_greatest
returns-then-own-s c =
    let m : Limits = c.args.m in
    let s : Setting = c.args.s in
    let last : c.min-last.result ≡ own_greatest m s = let a = c.args in
    c.min-last.ensures
    ∙ ap (λ (p : Profile). min a.greatest (p.history / 4 * a.s.tfaw)) c.profile-own.ensures
    ∙ ap (λ (x : ℕ). min x ((profile_of a.s.profile).history / 4 * a.s.tfaw)) c.requires.2 in
    elim c.then-own-s.branch [
      | then-own-s-via-then-own-s w ↦ simp (lt-leb _ _ (rw c.profile-own.ensures at w.if-own-s.true))
      | then-own-s-via-else-own-s+then-last-least w ↦
          let banks : s.banks ≤ (profile_of s.profile).banks = rw c.profile-own.ensures at w.if-own-s.false in
          simp (le-leb _ _ banks, ← last, ← c.requires.1, lt-leb _ _ w.if-last-least.true)
    ]

pub returns : goal.returns
unfolding delays_within own_greatest
returns c =
    let m : Limits = c.args.m in
    let s : Setting = c.args.s in
    let last : c.min-last.result ≡ own_greatest m s = let a = c.args in
    c.min-last.ensures
    ∙ ap (λ (p : Profile). min a.greatest (p.history / 4 * a.s.tfaw)) c.profile-own.ensures
    ∙ ap (λ (x : ℕ). min x ((profile_of a.s.profile).history / 4 * a.s.tfaw)) c.requires.2 in
    let banks : s.banks ≤ (profile_of s.profile).banks = rw c.profile-own.ensures at c.if-own-s.false in
    simp (le-leb _ _ banks, ← last, ← c.requires.1, le-leb _ _ c.if-last-least.false)
