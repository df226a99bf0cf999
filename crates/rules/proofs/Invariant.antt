-- What ties the state to the activations so far, newest first.
use mathlib.Core.Path.{◌≡◌}
use mathlib.Core.List.{List, map}
use Prim.Native.Nat.{ℕ, ◌+◌, ◌*◌, ◌%◌, ◌≤◌, ◌<◌, min}
use lib.Dec.{T}
use lib.ListN.{length, get_or, drop}
use Rattle.head.specs.declared.Head.{Head}
use Rattle.rules.specs.declared.Setting.{Setting}
use Rattle.rules.specs.Cells.{member, All}
use Rattle.rules.specs.Setting.{history_length, seeds_in_range}
use Rattle.rules.specs.State.{State, counter_cell, row_word}
use Rattle.rules.specs.Clock.{epoch}
use Rattle.rules.specs.Hash.{places}
use Rattle.rules.specs.History.{back}
use Rattle.rules.specs.Calls.{Activation}
use Rattle.rules.proofs.Trace.{Lawful, since}
use Rattle.rules.proofs.Old.{Ranked}

-- filter f, whose seeds these are, has counted n b r activations of each row, up to N
abbrev pub CountedBy : Setting → List ℕ → List ℕ → ℕ → (ℕ → ℕ → ℕ) → Type 0
CountedBy s seeds cs f n = (b r h : ℕ) → b < s.banks → T (member h (places seeds r)) → min s.n (n b r) ≤ get_or cs (counter_cell b f h) 0

-- and those of epoch k - 1 and later
abbrev pub Counted : Setting → List ℕ → List ℕ → ℕ → ℕ → List Activation → Type 0
Counted s seeds cs f k tr = CountedBy s seeds cs f (λ b r. since s k b r tr)

abbrev pub stored : Activation → ℕ
stored o = o.tick + 1

abbrev pub word_of : Activation → ℕ
word_of o = row_word o.bank o.row

-- The fields that decide, and not the whole state: what a done changes plays no part. own f are the seeds of filter f.
pub record Inv (s : Setting) (own : ℕ → List ℕ) (d : Head) (cs ticks rows : List ℕ) (tr : List Activation) : Type 0 where
  pub lawful : Lawful s tr
  pub ranked : Ranked s.tfaw tr
  pub latest : All (λ x. x.tick ≤ d.last) tr
  pub in_ring : d.next < history_length s
  pub banks_long : s.banks ≤ length d.bank
  pub counters_long : s.banks * 2048 ≤ length cs
  pub ticks_long : history_length s ≤ length ticks
  pub rows_long : history_length s ≤ length rows
  pub bank_last : (b : ℕ) → b < s.banks → All (λ x. x.bank ≡ b → stored x ≤ get_or d.bank b 0) tr
  pub rank_last : (i : ℕ) → i < 4 → All (λ x. stored x ≤ get_or d.rank i 0) (drop i tr)
  pub bank_past : (b : ℕ) → b < s.banks → get_or d.bank b 0 ≤ d.last + 1
  pub rank_past : (i : ℕ) → i < 4 → get_or d.rank i 0 ≤ d.last + 1
  pub ring : (i : ℕ) → i < history_length s
      → (get_or ticks (back (history_length s) d.next i) 0 ≡ get_or (map stored tr) i 0)
      × (get_or rows (back (history_length s) d.next i) 0 ≡ get_or (map word_of tr) i 0)
  pub seeds_in : (f : ℕ) → f < 2 → T (seeds_in_range (own f))
  pub active : Counted s (own (epoch s d.last % 2)) cs (epoch s d.last % 2) (epoch s d.last) tr
  pub passive : Counted s (own ((epoch s d.last + 1) % 2)) cs ((epoch s d.last + 1) % 2) (epoch s d.last + 1) tr

abbrev pub Holds : Setting → (ℕ → List ℕ) → State → List Activation → Type 0
Holds s own st tr = Inv s own st.head st.counters st.ticks st.rows tr
