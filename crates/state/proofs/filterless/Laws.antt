-- The decision from what is read of the state.
use Prim.Native.Nat.{ℕ, ◌^◌, ◌≤◌}
use mathlib.Core.Path.{◌≡◌, ap, ◌∙◌}
use mathlib.Core.Bool.{Bool, true, false, not}
use mathlib.Core.List.{List}
use native.Mathlib.Omega.{arith}
use Rattle.head.specs.declared.Head.{Head}
use Rattle.rules.specs.declared.Setting.{Setting}
use Rattle.rules.specs.declared.Decision.{Decision}
use Rattle.rules.specs.Policy.{narrow}
use Rattle.decision.specs.declared.View.{View}
use Rattle.decision.specs.Numbers.{decide_from, view_of}
use Rattle.state.specs.Ready.{Ready}
use Rattle.state.specs.DecisionBy.{decision_by}

-- a test that was made by its opposite
pub not_not : (b q : Bool) → not b ≡ q → b ≡ not q
not_not true q e = ap not e
not_not false q e = ap not e

module _ (s : Setting) (active other : ℕ) (h : Head) (ticks rows threads : List ℕ) (bank thread row : ℕ) where
  -- the stored ticks that the decision looks at are small
  pub view_small : (v : View) → Ready s h ticks rows threads bank thread → v ≡ view_of narrow s active other h ticks rows threads bank thread row
      → (v.bank ≤ 2 ^ 62) × (v.rank ≤ 2 ^ 62)
  unfolding view_of
  view_small v r e =
      rw e (omega (arith, r.memory.bank bank r.bank_in, r.early), omega (arith, r.memory.rank 3 (omega arith), r.early))

  -- the decision that the code reaches
  pub decided : (v : View) (d : Decision) → v ≡ view_of narrow s active other h ticks rows threads bank thread row → d ≡ decide_from s h.last v
      → d ≡ decision_by s active other h ticks rows threads bank thread row
  unfolding decision_by
  decided v d ev ed = ed ∙ ap (decide_from s h.last) ev
