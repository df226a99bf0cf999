-- Document 01's sample runs for the checker, by the rules in force, in one table with a joint statement.
use Rattle.std.specs.Prelude.{◌≡◌, List, [], ◌∷◌, ℕ, replicate}
use Rattle.rules.specs.Policy.{narrow}
use Rattle.rules.specs.Samples.{house}
use Rattle.log_format.specs.declared.Entry.{Entry}
use Rattle.log_format.specs.Refusals.{cut}
use Rattle.log_format.specs.Verdict.{agrees, differs, refused_after, judged, verdict}
use Rattle.log_format.specs.Encode.{log_bytes}

-- a request of row 5 under S, with the answer and the wait tick that the log claims
abbrev pub asks : ℕ → ℕ → ℕ → Entry
asks tick answer wait = record { tick = tick; wait = wait; row = 5; bank = 0; thread = 0; kind = 0; answer = answer }

-- "S with house seeds": W 40, tRC 1, tFAW 4, N 2, tD 6, L 10, Q 4, 1 bank, 1 thread, of the large profile
unfoldable pub log_s : List Entry → List ℕ
log_s es = log_bytes (replicate 512 0) (40 ∷ 1 ∷ 4 ∷ 2 ∷ 6 ∷ 10 ∷ 4 ∷ 1 ∷ 1 ∷ 0 ∷ []) house es

pub record Cases : Type 0 where
  -- "four records (ticks 0, 1, 2 wait 7, 7) prints `records 4`, `opened 3`, `agrees`"
  pub four : verdict narrow (log_s (asks 0 0 0 ∷ asks 1 0 0 ∷ asks 2 3 7 ∷ asks 7 0 0 ∷ [])) ≡ judged 4 3 agrees
  -- "Block 0 alone: `records 0`, `opened 0`, `agrees`."
  pub start : verdict narrow (log_s []) ≡ judged 0 0 agrees
  -- "The same four records with wait 8 in the third: `records 3`, `opened 2`, `differs 1 3`."
  pub wait8 : verdict narrow (log_s (asks 0 0 0 ∷ asks 1 0 0 ∷ asks 2 3 8 ∷ asks 7 0 0 ∷ [])) ≡ judged 3 2 (differs 1 3)
  -- "Empty input: `refused 11 0`."
  pub empty : verdict narrow [] ≡ refused_after cut 0
