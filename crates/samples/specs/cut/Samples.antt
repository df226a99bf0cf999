-- A log of three records cut down, and logs that are refused: computed cases of document 02, k.
use Rattle.std.specs.Prelude.{◌≡◌, List, [], ◌∷◌, true, false, ℕ, replicate}
use Rattle.rules.specs.Policy.{narrow}
use Rattle.log_format.specs.declared.Entry.{Entry}
use Rattle.samples.specs.log.Samples.{log_s}
use Rattle.cut_rules.specs.selections.Selections.{pass}
use Rattle.cut_rules.specs.Cut.{differs_with, refused_with, keeps, cut_of, code_of, out_of}

-- records of the one bank and thread of S: a request of row 2 with the answer that the log claims, and a done
abbrev pub asks : ℕ → ℕ → Entry
asks tick answer = record { tick = tick; wait = 0; row = 2; bank = 0; thread = 0; kind = 0; answer = answer }

abbrev pub ends : ℕ → Entry
ends tick = record { tick = tick; wait = 0; row = 0; bank = 0; thread = 0; kind = 1; answer = 0 }

-- opened at 3, done at 8, and a quota answer at 16 that the rules do not give
unfoldable pub three : List ℕ
three = log_s (asks 3 0 ∷ ends 8 ∷ asks 16 4 ∷ [])

pub record Cases : Type 0 where
  -- the done goes in the first pass, and record 0, without which it is refused, in the second; the third removes none
  pub first_pass : pass (differs_with narrow three) (true ∷ true ∷ true ∷ []) ≡ true ∷ false ∷ true ∷ []
  pub second_pass : pass (differs_with narrow three) (true ∷ false ∷ true ∷ []) ≡ false ∷ false ∷ true ∷ []
  pub third_pass : pass (differs_with narrow three) (false ∷ false ∷ true ∷ []) ≡ false ∷ false ∷ true ∷ []
  pub result : cut_of narrow three ≡ keeps (false ∷ false ∷ true ∷ [])
  -- "a 64-bit number, bit i set exactly if record i, from 0, stays"
  pub code : code_of (cut_of narrow three) ≡ 0
  pub out : out_of (cut_of narrow three) (7 ∷ []) ≡ 4 ∷ []
  -- "21 records that do not differ": all agree, there are none, or the first event is a refusal
  pub agree : cut_of narrow (log_s (asks 3 0 ∷ ends 8 ∷ [])) ≡ refused_with 21
  pub none : cut_of narrow (log_s []) ≡ refused_with 21
  pub refused : cut_of narrow (log_s (ends 8 ∷ asks 16 4 ∷ [])) ≡ refused_with 21
  -- "11 input empty or ending within a block"
  pub empty : cut_of narrow [] ≡ refused_with 11
  -- "20 more than 64 records"
  pub many : cut_of narrow (log_s (replicate 65 (asks 3 0))) ≡ refused_with 20
