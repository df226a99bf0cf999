-- What two probes recorded, and the verdict about it (document 02, i).
use Rattle.std.specs.Prelude.{List, [], ◌∷◌, Bool, not, ◌&&◌, ◌||◌, cond, ℕ, ◌/◌, ◌%◌, ◌^◌, leb, ltb, eqb, length, get_or, ℤ, nat_abs, ◌-ℤ◌}
use Rattle.std.specs.Prelude.{Option, Some, None, Result, Ok, Err}
use Rattle.std.specs.Option.{option_map_or}
use Rattle.std.proofs.Math.IntN.{sub_ℕ}
use Rattle.std.specs.Int.{w64}
use Rattle.std.proofs.Common.{of_z}
use Rattle.rules.specs.Cells.{every, least_from}
use Rattle.probe_rules.specs.declared.ProbeRefusal.{ProbeRefusal}
use Rattle.probe_rules.specs.declared.ProbeRefusal.TheVariants.{ShortBuffer, BadInput}

-- What a caller lends of one probe: the list "in recorded order", its ticks in one buffer and its rows in another, and how many records it has.
pub record Probe : Type 0 where
  pub ticks : List ℕ
  pub rows : List ℕ
  pub count : ℕ

-- a probe from the buffers and the count of a call
abbrev pub lent : List ℕ → List ℕ → ℕ → Probe
lent ts rs n = record { ticks = ts; rows = rs; count = n }

-- Record i. The buffer of rows has bank × 65,536 + row.
abbrev pub tick_at : Probe → ℕ → ℕ
tick_at p i = get_or p.ticks i 0

abbrev pub word_at : Probe → ℕ → ℕ
word_at p i = get_or p.rows i 0

abbrev pub bank_at : Probe → ℕ → ℕ
bank_at p i = word_at p i / 65536

abbrev pub row_at : Probe → ℕ → ℕ
row_at p i = word_at p i % 65536

-- ---- refusals

-- "6 a buffer too short" (document 01): more records than one of the list's buffers has cells
abbrev pub too_short : Probe → Bool
too_short p = ltb (length p.ticks) p.count || ltb (length p.rows) p.count

-- the tick at place i is below 2^62
abbrev pub on_time : List ℕ → ℕ → Bool
on_time ticks i = ltb (get_or ticks i 0) (2 ^ 62)

-- "a tick of 2^62 or more", of any record of the list, whether or not the other list has a partner for it
unfoldable pub late_tick : Probe → Bool
late_tick p = not (every p.count (on_time p.ticks))

-- "18 a jitter above 1,000 or a tick of 2^62 or more, before any verdict"; a short buffer comes before it, and nothing is for neither
unfoldable pub refusal_of : Probe → Probe → ℕ → Option ProbeRefusal
refusal_of x y j = cond (too_short x || too_short y) (Some ShortBuffer) (cond (ltb 1000 j || late_tick x || late_tick y) (Some BadInput) None)

-- the numbers of document 01
abbrev pub refusal_number : ProbeRefusal → ℕ
refusal_number ShortBuffer = 6
refusal_number BadInput = 18

-- the refusal's number, and 0 where nothing is refused
unfoldable pub probes_refusal : Probe → Probe → ℕ → ℕ
probes_refusal x y j = option_map_or refusal_number (refusal_of x y j) 0

-- ---- the verdict

-- "the same bank and row"
unfoldable pub same_row : Probe → Probe → ℕ → Bool
same_row x y i = eqb (bank_at x i) (bank_at y i) && eqb (row_at x i) (row_at y i)

-- "second tick minus first tick within j of d", in integers
unfoldable pub near : ℕ → ℤ → Probe → Probe → ℕ → Bool
near j d x y i = leb (nat_abs (sub_ℕ (tick_at y i) (tick_at x i) -ℤ d)) j

-- "each pair has the same bank and row and second tick minus first tick within j of d"; lists that "differ in length" fit with no d
unfoldable pub fits : ℕ → ℤ → Probe → Probe → Bool
fits j d x y = eqb x.count y.count && every x.count (λ i. same_row x y i && near j d x y i)

-- "d, from −1,000 to 1,000", by its number from 0 to 2,000
abbrev pub offset : ℕ → ℤ
offset number = sub_ℕ number 1000

-- "the least d for which" they fit, by its number; 2,001 where none of them does
unfoldable pub least_offset : ℕ → Probe → Probe → ℕ
least_offset j x y = least_from (λ e. fits j (offset e) x y) 0 2001

-- what the number that the search found says: the lists fit with that offset, or they do not fit
abbrev pub decided : ℕ → Option ℕ
decided number = cond (leb number 2000) (Some number) None

-- the refusal if there is one, else what the search says
unfoldable pub verdict_of : Probe → Probe → ℕ → Result (Option ℕ) ProbeRefusal
verdict_of x y j = option_map_or Err (refusal_of x y j) (Ok (decided (least_offset j x y)))

-- ---- what the call leaves

-- the number that it returns
abbrev pub code_of : Result (Option ℕ) ProbeRefusal → ℕ
code_of (Ok (Some number)) = 0
code_of (Ok None) = 0
code_of (Err refusal) = refusal_number refusal

-- The two words of out: 1 and d as a two's complement number of 64 bits, or 0 and 0 where the lists do not fit; as they were on a refusal.
abbrev pub out_of : Result (Option ℕ) ProbeRefusal → List ℕ → List ℕ
out_of (Ok (Some number)) before = 1 ∷ of_z w64 (offset number) ∷ []
out_of (Ok None) before = 0 ∷ 0 ∷ []
out_of (Err refusal) before = before
