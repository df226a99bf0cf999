-- Lists with a change-over. It is a move of the state, so demand 3 and the theorem about spans hold of them; the calls after it answer as before, so none is
-- refused with 6 or 7.
use mathlib.Core.Path.{◌≡◌, refl}
use mathlib.Core.List.{List, [], ◌∷◌, ◌++◌}
use Prim.Native.Nat.{ℕ}
use Rattle.rules.specs.declared.Setting.{Setting}
use Rattle.rules.specs.Cells.{All}
use Rattle.rules.specs.Answers.{none}
use Rattle.rules.specs.State.{State, fresh}
use Rattle.rules.specs.Policy.{Policy, limits01, narrow, wide}
use Rattle.rules.specs.Calls.{Call, Reply, step, replies, after}
use Rattle.rules.specs.Moves.{renew, SameParts, Moves}
use Rattle.rules.proofs.Step.{and_then, owned, run_moves}
use Rattle.rules.proofs.Demand.{spans_after, demand3_after}
use Rattle.rules.proofs.Theorems.{theorems as rules}
use Rattle.widths.specs.ChangeOver.{change_over_refusal, changed_state}
use Rattle.widths.specs.Claims.{activations_over, SpansOver, Demand3Over, NeverMemoryOver}
use Rattle.widths.proofs.Answers.{over_same, answers_as_before}

-- the change-over renews the memory
pub over_moves : (s : Setting) (seeds : List ℕ) (old : State) (new : List ℕ) → change_over_refusal s seeds old new ≡ none
    → Moves s (owned seeds old) (owned seeds (changed_state s seeds old new)) []
over_moves s seeds old new e = record { moves = renew (changed_state s seeds old new) ∷ []; allowed = (same, tt); end = refl; makes = refl }
  where
    same : SameParts s old (changed_state s seeds old new)
    same =
        let u = (over_same s seeds old new e).used in
        record {
          head = u.head;
          counters_long = u.long_too.counters;
          ticks_long = u.long_too.ticks;
          rows_long = u.long_too.rows;
          counters = u.counters;
          ticks = u.ticks;
          rows = u.rows;
        }

list_moves : (s : Setting) (seeds : List ℕ) (st : State) (earlier : List Call) (new : List ℕ) (later : List Call)
    → change_over_refusal s seeds (after narrow s seeds st earlier) new ≡ none
    → Moves s (owned seeds st) (owned seeds (after wide s seeds (changed_state s seeds (after narrow s seeds st earlier) new) later)) (activations_over s seeds st earlier new later)
list_moves s seeds st earlier new later e =
    let end = after narrow s seeds st earlier in
    and_then s (run_moves narrow s seeds earlier st) (and_then s (over_moves s seeds end new e) (run_moves wide s seeds later (changed_state s seeds end new)))

pub spans_over : SpansOver
spans_over s seeds before e earlier new k later = spans_after limits01 s seeds before e _ _ (list_moves s seeds (fresh s before) earlier new later k)

pub demand3_over : Demand3Over
demand3_over s seeds before e earlier new k later = demand3_after limits01 s seeds before e _ _ (list_moves s seeds (fresh s before) earlier new later k)

-- what holds of the replies of a list holds of those of its later calls
of_later : (p : Policy) (s : Setting) (seeds : List ℕ) (P : Reply → Type 0) (earlier later : List Call) (st : State)
    → All P (replies p s seeds st (earlier ++ later)) → All P (replies p s seeds (after p s seeds st earlier) later)
of_later p s seeds P [] later st h = h
of_later p s seeds P (c ∷ cs) later st h = of_later p s seeds P cs later (step p s seeds st c).state h.1

pub never_memory_over : NeverMemoryOver
never_memory_over s seeds before e earlier new k later =
    rw (answers_as_before s seeds (after narrow s seeds (fresh s before) earlier) new k later).0
    (of_later narrow s seeds _ earlier later (fresh s before) (rules.never_memory narrow s seeds before e (earlier ++ later)))
