-- A view, put together from what the leaves give.
use Prim.Native.Nat.{ℕ, ◌+◌, ◌*◌, ◌/◌, ◌^◌, ◌≤◌, ◌<◌}
use Rattle.std.proofs.Common.{Option}
use mathlib.Core.Path.{◌≡◌, sym, ap, ◌∙◌}
use mathlib.Core.List.{List}
use mathlib.Core.Bool.{Bool, true, false, ◌&&◌, cond}
use native.Mathlib.Omega.{arith}
use native.Mathlib.Nat.{div-mul-le_self}
use lib.Dec.{ltb}
use lib.ListN.{get_or}
use Rattle.head.specs.declared.Head.{Head}
use Rattle.rules.specs.declared.Setting.{Setting}
use Rattle.rules.specs.Cells.{sum_below, every}
use Rattle.rules.specs.Setting.{epoch_length, history_length}
use Rattle.rules.specs.State.{thread_cell, row_word}
use Rattle.rules.specs.Clock.{epoch, active_filter}
use Rattle.rules.specs.History.{not_after, never_rises, find}
use Rattle.rules.specs.Quota.{quota_even, in_flight_here, index_counter}
use Rattle.rules.specs.Policy.{limits01, narrow}
use Rattle.rules.proofs.Tests.{is_true, every_all}
use Rattle.rules.proofs.Memory.{after_not}
use Rattle.rules.proofs.Regular.{in_force_sums}
use Rattle.rules.specs.Tested.{Memory}
use Rattle.history.specs.Found.{place_found, end_of}
use Rattle.history.proofs.Found.{end_found}
use Rattle.decision.specs.declared.View.{View}
use Rattle.decision.specs.Numbers.{delay_end, view_of}

-- ---- numbers

-- the end of the epoch of a tick below 2^62
pub end_small : (t d : ℕ) → d ≤ 2 ^ 30 → t < 2 ^ 62 → (t / d + 1) * d ≤ 2 ^ 62 + 2 ^ 30
end_small t d h k = omega (arith, div-mul-le_self t d)

-- ---- the history is searched

pub searchable : (s : Setting) (h : Head) (ticks : List ℕ) → Memory s h ticks
    → (never_rises (history_length s) h.next ticks ≡ true) × (every (history_length s) (λ p. not_after h.last (get_or ticks p 0)) ≡ true)
searchable s h ticks m = (
  is_true (never_rises (history_length s) h.next ticks) m.steady,
  is_true (every (history_length s) (λ p. not_after h.last (get_or ticks p 0)))
      (every_all (history_length s) (λ p. not_after h.last (get_or ticks p 0)) (λ p k. after_not h.last (get_or ticks p 0) (m.history p k))),
)

pub delay_found : (s : Setting) (h : Head) (ticks rows : List ℕ) (bank row : ℕ) (skip : Bool) (places : ℕ) (found : Option ℕ) (word d : ℕ)
    → skip ≡ false → places ≡ history_length s → word ≡ row_word bank row
    → found ≡ place_found places (find places s.td h.next ticks rows word h.last) → d ≡ end_of ticks s.td found
    → d ≡ cond skip 0 (delay_end s h ticks rows bank row)
unfolding delay_end
delay_found s h ticks rows bank row skip places found word d left ep ew ef ed =
    rw (left, ed, ef, end_found ticks s.td places (find places s.td h.next ticks rows word h.last), ep, ew)

-- ---- the view

pub view_parts : (s : Setting) (active other : ℕ) (h : Head) (ticks rows threads : List ℕ) (bank thread row f cell : ℕ) (v : View)
    → f ≡ active_filter s h.last → cell ≡ thread_cell s bank thread 0
    → v.flying ≡ sum_below s.banks (λ b. in_flight_here s threads b thread) → v.quota ≡ quota_even s (get_or threads (cell + f) 0)
    → v.bank ≡ get_or h.bank bank 0 → v.rank ≡ get_or h.rank 3 0 → v.active ≡ active → v.other ≡ other
    → v.delay ≡ cond (ltb active s.n && ltb other s.n) 0 (delay_end s h ticks rows bank row)
    → v.end ≡ (epoch s h.last + 1) * epoch_length s
    → v ≡ view_of narrow s active other h ticks rows threads bank thread row
unfolding view_of
view_parts s active other h ticks rows threads bank thread row f cell v ef ec e1 e2 e3 e4 e5 e6 e7 e8 =
    let cell_at : (k : ℕ) → cell + k ≡ thread_cell s bank thread k = λ k. omega (arith, ec) in
    let q : get_or threads (cell + f) 0 ≡ index_counter s threads bank thread (active_filter s h.last) =
    ap (λ x. get_or threads x 0) (cell_at f) ∙ ap (λ x. index_counter s threads bank thread x) ef in
    λ i. record {
      flying = (e1 ∙ sym (in_force_sums limits01 s threads bank thread)) i;
      quota = (e2 ∙ ap (quota_even s) q) i;
      bank = e3 i;
      rank = e4 i;
      active = e5 i;
      other = e6 i;
      delay = e7 i;
      end = e8 i;
    }
