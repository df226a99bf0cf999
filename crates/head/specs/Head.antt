-- What a move of the clock and an activation make of the state head.
use Rattle.std.specs.Prelude.{List, [], ◌∷◌, cond, ℕ, zero, suc, ◌+◌, eqb, get_or, set}
use Rattle.head.specs.declared.Head.{Head}

-- "moves the last tick to its tick t"
unfoldable pub moved_head : Head → ℕ → Head
moved_head h t = record { last = t; next = h.next; bank = h.bank; rank = h.rank }

-- "An opening is written at the next history place, which then moves on by one, from H − 1 to 0."
unfoldable pub next_place : ℕ → ℕ → ℕ
next_place h p = cond (eqb (p + 1) h) 0 (p + 1)

-- the n cells from cell i on
abbrev pub cells : List ℕ → ℕ → ℕ → List ℕ
cells w i zero = []
cells w i (suc n) = get_or w i 0 ∷ cells w (suc i) n

-- The head after an activation: the bank's tick, the rank's four shifted, the next place moved on. A kept tick is stored plus one.
unfoldable pub activated_head : ℕ → Head → ℕ → Head
activated_head h d bank =
    record {
      last = d.last;
      next = next_place h d.next;
      bank = set d.bank bank (d.last + 1);
      rank = (d.last + 1) ∷ cells d.rank 0 3;
    }
