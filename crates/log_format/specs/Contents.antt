-- What a block holds: block 0 the setting, the seeds and the profile mark, later blocks records.
use Rattle.std.specs.Prelude.{List, [], ◌∷◌, cond, ℕ, zero, suc, ◌+◌, ◌*◌, eqb, get_or}
use Rattle.rules.specs.declared.Setting.{Setting}
use Rattle.rules.specs.Calls.{Call, request, done}
use Rattle.log_format.specs.declared.Entry.{Entry}
use Rattle.log_format.specs.Bytes.{little}

-- "4 record count"
abbrev pub count_in : List ℕ → ℕ
count_in s = get_or s 4 0

-- "The mark lies in the first zero byte after the seeds in block 0" (document 02, g)
abbrev pub mark_in : List ℕ → ℕ
mark_in s = get_or s 172 0

-- "Block 0 has .. the nine numbers of the setting in table order (32 bits each; banks, then threads)": the body starts at byte 8. The mark is the tenth.
unfoldable pub setting_in : List ℕ → Setting
setting_in s =
    record {
      w = little s 8 4;
      trc = little s 12 4;
      tfaw = little s 16 4;
      n = little s 20 4;
      td = little s 24 4;
      l = little s 28 4;
      q = little s 32 4;
      banks = little s 36 4;
      threads = little s 40 4;
      profile = mark_in s;
    }

-- the n numbers of 16 bits from place k on
unfoldable pub halves : List ℕ → ℕ → ℕ → List ℕ
halves s k zero = []
halves s k (suc n) = little s k 2 ∷ halves s (2 + k) n

-- "64 seeds (16 bits, function by function)"
unfoldable pub seeds_in : List ℕ → List ℕ
seeds_in s = halves s 44 64

-- "records of 24 bytes": where record k of a block starts, k from 0
abbrev pub record_at : ℕ → ℕ
record_at k = 8 + 24 * k

-- "A record: tick (8), wait tick (8), row (2), bank (1), thread (1), kind (1 ..), answer (1 ..), two zeros."
unfoldable pub entry_in : List ℕ → ℕ → Entry
entry_in s k =
    record {
      tick = little s (record_at k) 8;
      wait = little s (record_at k + 8) 8;
      row = little s (record_at k + 16) 2;
      bank = get_or s (record_at k + 18) 0;
      thread = get_or s (record_at k + 19) 0;
      kind = get_or s (record_at k + 20) 0;
      answer = get_or s (record_at k + 21) 0;
    }

-- "kind (1: 0 request, 1 done)". "The row of a done is not used."
abbrev pub call_of : Entry → Call
call_of e = cond (eqb e.kind 0) (request e.tick e.bank e.thread e.row) (done e.tick e.bank e.thread)

-- the n records from record k on
abbrev pub entries_from : List ℕ → ℕ → ℕ → List Entry
entries_from s k zero = []
entries_from s k (suc n) = entry_in s k ∷ entries_from s (suc k) n

-- the records of a block, in order
abbrev pub entries_in : List ℕ → List Entry
entries_in s = entries_from s 0 (count_in s)
