-- The history buffer: a ring of H places, the test of its contents, the row rule's look at it, and the search.
use Rattle.std.specs.Prelude.{List, Bool, true, false, not, ◌&&◌, ◌||◌, cond, ℕ, zero, suc, ◌+◌, ◌-◌, leb, ltb, eqb, get_or}
use Rattle.rules.specs.declared.Setting.{Setting}
use Rattle.rules.specs.Cells.{every}
use Rattle.rules.specs.Setting.{history_length}
use Rattle.rules.specs.State.{State}

-- the place i steps back from the newest, in a ring of h places whose next one is p
unfoldable pub back : ℕ → ℕ → ℕ → ℕ
back h p i = cond (ltb i p) (p - 1 - i) (p + h - 1 - i)

-- a stored tick, 0 for none, is not after the last tick
abbrev pub not_after : ℕ → ℕ → Bool
not_after last stored = eqb stored 0 || leb (stored - 1) last

-- the stored ticks rise nowhere when read from the newest place back
unfoldable pub never_rises : ℕ → ℕ → List ℕ → Bool
never_rises h p ticks = every (h - 1) (λ i. leb (get_or ticks (back h p (suc i)) 0) (get_or ticks (back h p i) 0))

-- Refusal 7 does not apply: the next place is below H, no kept tick is after the last tick, the stored history ticks never rise.
unfoldable pub memory_ok : Setting → State → Bool
memory_ok s st =
    ltb st.head.next (history_length s)
    && every s.banks (λ b. not_after st.head.last (get_or st.head.bank b 0))
    && every 4 (λ k. not_after st.head.last (get_or st.head.rank k 0))
    && every (history_length s) (λ p. not_after st.head.last (get_or st.ticks p 0))
    && never_rises (history_length s) st.head.next st.ticks

-- a place with this stored tick and row word holds an activation of the row that is "at most t and under tD ticks old"
abbrev pub matches : ℕ → ℕ → ℕ → ℕ → ℕ → Bool
matches td word t stored w = not (eqb stored 0) && eqb w word && leb (stored - 1) t && ltb t (stored - 1 + td)

-- "no opening of that row in the history that is at most t and under tD ticks old"
unfoldable pub row_free : ℕ → ℕ → List ℕ → List ℕ → ℕ → ℕ → Bool
row_free h td ticks rows word t = every h (λ p. not (matches td word t (get_or ticks p 0) (get_or rows p 0)))

-- the first of n places, from the i-th newest on, that matches; h for none
abbrev pub find_from : ℕ → ℕ → ℕ → List ℕ → List ℕ → ℕ → ℕ → ℕ → ℕ → ℕ
find_from h td p ticks rows word t i zero = h
find_from h td p ticks rows word t i (suc n) =
    elim (matches td word t (get_or ticks (back h p i) 0) (get_or rows (back h p i) 0)) [
      | true ↦ back h p i
      | false ↦ find_from h td p ticks rows word t (suc i) n
    ]

-- "Search the history newest first and stop with the place of the first match."
unfoldable pub find : ℕ → ℕ → ℕ → List ℕ → List ℕ → ℕ → ℕ → ℕ
find h td p ticks rows word t = find_from h td p ticks rows word t 0 h
