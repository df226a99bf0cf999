-- The setting: what is computed from it, the profiles of cards, and refusals 1 to 5 and 16.
use Rattle.std.specs.Prelude.{List, [], ◌∷◌, Bool, not, ◌&&◌, ◌||◌, ℕ, ◌+◌, ◌-◌, ◌*◌, ◌/◌, ◌%◌, ◌^◌, leb, ltb, eqb, length, get_or}
use Rattle.rules.specs.declared.Setting.{Setting}
use Rattle.rules.specs.declared.Limits.{Limits}
use Rattle.rules.specs.declared.Profile.{Profile}
use Rattle.rules.specs.Cells.{ceil_div, between, every}
use Rattle.rules.specs.Answers.{Refusal, none, out_of_range, short_window, bad_delay, long_history, above_limit, above_profile, refuse}

-- The setting lies in ten words: nine in the order of the table, and "a profile mark in the setting" (document 02, g).
unfoldable pub setting_of : List ℕ → Setting
setting_of x =
    record {
      w = get_or x 0 0;
      trc = get_or x 1 0;
      tfaw = get_or x 2 0;
      n = get_or x 3 0;
      td = get_or x 4 0;
      l = get_or x 5 0;
      q = get_or x 6 0;
      banks = get_or x 7 0;
      threads = get_or x 8 0;
      profile = get_or x 9 0;
    }

-- the setting with another profile mark
abbrev pub with_mark : ℕ → Setting → Setting
with_mark mark s =
    record { w = s.w; trc = s.trc; tfaw = s.tfaw; n = s.n; td = s.td; l = s.l; q = s.q; banks = s.banks; threads = s.threads; profile = mark }

-- "the epoch E is W/2"
abbrev pub epoch_length : Setting → ℕ
epoch_length s = s.w / 2

-- "History length H = 4 × ceil(tD/tFAW)."
unfoldable pub history_length : Setting → ℕ
history_length s = 4 * ceil_div s.td s.tfaw

-- "Row bound B = 2N + 1 + floor((W − 1 − 2 × N × tRC)/tD)."
unfoldable pub row_bound : Setting → ℕ
row_bound s = 2 * s.n + 1 + (s.w - 1 - 2 * s.n * s.trc) / s.td

-- "D = L − N", the full scale of the RowHammer likelihood index
abbrev pub index_scale : Setting → ℕ
index_scale s = s.l - s.n

-- "big cards keep their limits" (document 02, g): 16 banks, and as many history places as the longest delay of the table needs with tFAW 1
abbrev pub large : Profile
large = record { banks = 16; history = 2 ^ 31 }

-- "The small card's controller has at most 4 banks and 1,024 history places."
abbrev pub small : Profile
small = record { banks = 4; history = 1024 }

-- the limits of the profiles, by their marks: "0 large, 1 small"
abbrev pub profiles : List Profile
profiles = large ∷ small ∷ []

-- a profile has this mark
abbrev pub known : ℕ → Bool
known mark = ltb mark (length profiles)

-- the limits of the profile with this mark; where none has it, those of the large one
abbrev pub profile_of : ℕ → Profile
profile_of mark = get_or profiles mark large

-- so many banks, or so long a history, are above the profile
abbrev pub exceeds : Profile → ℕ → ℕ → Bool
exceeds p banks history = ltb p.banks banks || ltb p.history history

-- the table's ranges, in its order; "Any other mark is 1 in a call"
unfoldable pub fields_in_range : Limits → Setting → Bool
fields_in_range m s =
    between 2 (2 ^ 30) s.w
    && eqb (s.w % 2) 0
    && between 1 65535 s.trc
    && between 1 65535 s.tfaw
    && between 1 m.threshold s.n
    && between 1 (2 ^ 29) s.td
    && between 1 (2 ^ 24) s.l
    && between 1 255 s.q
    && between 1 16 s.banks
    && between 1 32 s.threads
    && known s.profile

-- "64 words, 0 to 1,023"
unfoldable pub seeds_in_range : List ℕ → Bool
seeds_in_range seeds = eqb (length seeds) 64 && every (length seeds) (λ i. leb (get_or seeds i 0) 1023)

-- Refusals 1 to 5, in their order, and "16 a setting above the small profile, after 5". "An accepted setting is one that meets none of the refusals
-- about the setting".
unfoldable pub setting_refusal : Limits → Setting → List ℕ → Refusal
setting_refusal m s seeds =
    refuse (not (fields_in_range m s && seeds_in_range seeds)) out_of_range
    (refuse (ltb (s.w - 1) (2 * s.n * s.trc)) short_window
    (refuse (ltb s.td s.trc || ltb (epoch_length s) s.td) bad_delay
    (refuse (ltb m.history (history_length s)) long_history
    (refuse (ltb s.l (row_bound s)) above_limit
    (refuse (exceeds (profile_of s.profile) s.banks (history_length s)) above_profile none)))))
