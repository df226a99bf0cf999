-- The same of what a C program sees: the counters in its memory are filled by the openings that it sees.
use mathlib.Core.Path.{◌≡◌, refl, sym, subst}
use mathlib.Core.List.{List, [], ◌∷◌, map}
use Prim.Native.Nat.{ℕ, ◌<◌}
use Rattle.rules.specs.Setting.{setting_of}
use Rattle.rules.specs.Clock.{epoch}
use Rattle.rules.specs.Policy.{Policy}
use Rattle.rules.specs.Answers.{none}
use Rattle.rules.specs.Calls.{call_tick, refusal_of}
use Rattle.interface.specs.Claims.{Lent, Asked, call_of, found_in, left_by, lent_after, left_by_all, lent_after_all, opening_of, openings}
use Rattle.interface.proofs.Program.{step_seen}
use Rattle.consequences.specs.order.Claims.{InEpoch, FilledForC}
use Rattle.consequences.proofs.order.Calls.{Fills, fills_none, fills_then, step_within}

module _ (p : Policy) (setting seeds : List ℕ) (bank f e : ℕ) (f2 : f < 2) where
  call_fills : (m : Lent) (c : Asked) → epoch (setting_of setting) (found_in m).head.last ≡ e
      → (refusal_of p.limits (setting_of setting) seeds (found_in m) (call_of c) ≡ none → epoch (setting_of setting) (call_tick (call_of c)) ≡ e)
      → let l = left_by p setting seeds m c in
      Fills (setting_of setting) seeds bank f e (found_in m) (found_in (lent_after l)) (opening_of c l)
  call_fills m c a h =
      let k = step_seen p setting seeds m c in
      rw (k.state, k.opening) (step_within p (setting_of setting) seeds bank f f2 e (found_in m) (call_of c) a h)

  calls_fill : (cs : List Asked) (m : Lent) → epoch (setting_of setting) (found_in m).head.last ≡ e → InEpoch p (setting_of setting) seeds e (found_in m) (map call_of cs)
      → Fills (setting_of setting) seeds bank f e (found_in m) (found_in (lent_after_all p setting seeds m cs)) (openings cs (left_by_all p setting seeds m cs))
  calls_fill [] m a h = fills_none (setting_of setting) seeds bank f e (found_in m) a
  calls_fill (c ∷ cs) m a h =
      let s = setting_of setting in
      let first = call_fills m c a h.0 in
      let rest = subst (λ st. InEpoch p s seeds e st (map call_of cs)) (sym (step_seen p setting seeds m c).state) h.1 in
      fills_then s seeds bank f e first (calls_fill cs (lent_after (left_by p setting seeds m c)) first.stays rest)

pub filled_for_c : (p : Policy) → FilledForC p
filled_for_c p setting seeds m cs h bank f f2 = (calls_fill p setting seeds bank f (epoch (setting_of setting) (found_in m).head.last) f2 cs m refl h).filter
