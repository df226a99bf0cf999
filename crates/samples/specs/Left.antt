-- The cases of document 02, e: the words that requests write, with the openings left as the third.
use Rattle.std.specs.Prelude.{◌≡◌, List, [], ◌∷◌, map, ℕ, replicate}
use Rattle.rules.specs.Answers.{none}
use Rattle.rules.specs.State.{State, fresh}
use Rattle.rules.specs.Policy.{limits01, narrow}
use Rattle.rules.specs.Calls.{Call, request, out_words, setup_refusal, replies}
use Rattle.rules.specs.Samples.{house, S}
use Rattle.samples.specs.Cases.{before, ask}

-- what the requests of a list write under S with these seeds, from this state on
abbrev pub words_of : List ℕ → State → List Call → List (List ℕ)
words_of seeds st cs = map (λ r. out_words r []) (replies narrow S seeds st cs)

-- after set-up
abbrev pub words : List ℕ → List Call → List (List ℕ)
words seeds cs = words_of seeds (fresh S before) cs

-- what is written where a row is opened with so many openings left, and where the row rule holds it until u
abbrev pub opened_with : ℕ → List ℕ
opened_with left = 0 ∷ 0 ∷ left ∷ []

abbrev pub held : ℕ → List ℕ
held u = 3 ∷ u ∷ 0 ∷ []

-- a request for a row, of the one bank and thread of S
abbrev pub ask_row : ℕ → ℕ → Call
ask_row t row = request t 0 0 row

-- seeds with which every row has the places 0, 0, 0, 0
unfoldable pub zeros : List ℕ
zeros = replicate 64 0

-- after set-up, but with counters that are all above N
unfoldable pub full : State
full =
    record {
      head = (fresh S before).head;
      counters = replicate 2048 9;
      ticks = (fresh S before).ticks;
      rows = (fresh S before).rows;
      threads = (fresh S before).threads;
    }

pub record Left : Type 0 where
  -- S, row 5: 1 left after tick 0, 0 after ticks 1 and 7; none told while it waits
  pub row5 : words house (ask 0 ∷ ask 1 ∷ ask 2 ∷ ask 7 ∷ []) ≡ opened_with 1 ∷ opened_with 0 ∷ held 7 ∷ opened_with 0 ∷ []
  -- row 0, whose four places coincide
  pub row0 : words house (ask_row 0 0 ∷ ask_row 1 0 ∷ []) ≡ opened_with 1 ∷ opened_with 0 ∷ []
  -- Rows 5 and 9 share counters where the seeds are all 0: the second one sees 0 left, and its own count says 1. With the house seeds they share none.
  pub accepted : setup_refusal limits01 S zeros before ≡ none
  pub shared : words zeros (ask_row 0 5 ∷ ask_row 1 9 ∷ []) ≡ opened_with 1 ∷ opened_with 0 ∷ []
  pub apart : words house (ask_row 0 5 ∷ ask_row 1 9 ∷ []) ≡ opened_with 1 ∷ opened_with 1 ∷ []
  -- Epoch 1 tests filter 1, which has counted ticks 18 and 19; filter 0 was cleared on entering it. At tick 40 two epochs have passed, and both are
  -- cleared.
  pub next_epoch : words house (ask 18 ∷ ask 19 ∷ ask 37 ∷ []) ≡ opened_with 1 ∷ opened_with 0 ∷ opened_with 0 ∷ []
  pub after_two : words house (ask 18 ∷ ask 19 ∷ ask 40 ∷ []) ≡ opened_with 1 ∷ opened_with 0 ∷ opened_with 1 ∷ []
  -- "never below 0": lent counters above N
  pub above : words_of house full (ask 0 ∷ []) ≡ opened_with 0 ∷ []
