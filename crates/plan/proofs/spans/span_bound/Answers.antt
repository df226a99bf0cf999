-- `spans::span_bound`: the two cases of the definition; the bound is at most x.
use mathlib.Core.Path.{sym, subst}
use Prim.Native.Nat.{ℕ, ◌-◌, ◌*◌, ◌^◌, ◌≤◌, ◌<◌}
use native.Mathlib.Omega.{arith}
use native.Mathlib.Nat.{div-le_self}
use borrow.Author.Tests.{le-leb, lt-leb}
use Rattle.rules.specs.declared.Setting.{Setting}
use Rattle.rules.specs.Claims.{span_bound}
use Rattle.plan_rules.specs.spans.Spans.{Room}
use Rattle.plan_rules.proofs.spans.Free.{free_apart, free_fits}
use borrow.Author.Rules.{rules}
use Rattle.plan.proofs.spans.span_bound.Goals as goal

pub overflow_mul-ticks : goal.overflow_mul-ticks
overflow_mul-ticks c =
    let s : Setting = c.args.s in
    let x : ℕ = c.args.x in
    let ok : Room s = c.requires.0 in
    let free : ℕ = c.free_most-free.result in
    let small : free * s.trc < 2 ^ 64 = subst (λ (f : ℕ). f * s.trc < 2 ^ 64) (sym c.free_most-free.ensures) (free_fits s x ok (search rules)) in
    omega (arith, small)

pub overflow_add-result : goal.overflow_add-result
overflow_add-result c =
    let s : Setting = c.args.s in
    let x : ℕ = c.args.x in
    let ok : Room s = c.requires.0 in
    let free : ℕ = c.free_most-free.result in
    let apart : free ≤ free * s.trc = subst (λ (f : ℕ). f ≤ f * s.trc) (sym c.free_most-free.ensures) (free_apart s x ok) in
    omega (arith, apart)

pub overflow_add-result-then-ticks-x : goal.overflow_add-result-then-ticks-x
overflow_add-result-then-ticks-x c =
    let s : Setting = c.args.s in
    let x : ℕ = c.args.x in
    let ok : Room s = c.requires.0 in
    let free : ℕ = c.free_most-free.result in
    let apart : free ≤ free * s.trc = subst (λ (f : ℕ). f ≤ f * s.trc) (sym c.free_most-free.ensures) (free_apart s x ok) in
    omega (arith, apart, div-le_self (x - 1 - free * s.trc) s.td)

pub returns-then-ticks-x : goal.returns-then-ticks-x
unfolding span_bound
returns-then-ticks-x c =
    simp (← c.free_most-free.ensures, le-leb _ _ c.if-ticks-x.true)

pub overflow_add-result-2 : goal.overflow_add-result-2
overflow_add-result-2 c =
    let s : Setting = c.args.s in
    let x : ℕ = c.args.x in
    omega (arith, div-le_self (x - 1) s.trc)

pub returns : goal.returns
unfolding span_bound
returns c =
    simp (← c.free_most-free.ensures, lt-leb _ _ c.if-ticks-x.false)
