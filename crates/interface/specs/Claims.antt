-- Demand 3 of what a C program sees: its calls one after another, each given the memory that the one before it left; and lists with a change-over.
use Rattle.std.specs.Prelude.{◌≡◌, ◌≢◌, List, [], ◌∷◌, ◌++◌, map, ◌&&◌, cond, ℕ, ◌≤◌, eqb, get_or, take}
use Rattle.rules.specs.declared.Setting.{Setting}
use Rattle.rules.specs.Setting.{setting_of}
use Rattle.rules.specs.State.{State, counters_used}
use Rattle.rules.specs.Policy.{Policy, narrow, wide}
use Rattle.rules.specs.Calls.{Call, request, done, index, setup, step, Activation, times_activated}
use Rattle.rules.specs.Claims.{span_bound}
use Rattle.widths.specs.ChangeOver.{ChangedOver, change_over}
use Rattle.interface.specs.Left.{Left, left, found, leaves}

-- the memory that a program lends: the head's 22 words and the four buffers
pub record Lent : Type 0 where
  pub head : List ℕ
  pub counters : List ℕ
  pub ticks : List ℕ
  pub rows : List ℕ
  pub threads : List ℕ

-- a call of the program, with its arguments and what stands in its words for the answer
pub data Asked : Type 0 where
  asks_request : (tick bank thread row : ℕ) (out : List ℕ) → Asked
  asks_done : (tick bank thread : ℕ) → Asked
  asks_index : (tick bank thread : ℕ) (out : List ℕ) → Asked

abbrev pub call_of : Asked → Call
call_of (asks_request t b th r out) = request t b th r
call_of (asks_done t b th) = done t b th
call_of (asks_index t b th out) = index t b th

abbrev pub out_of : Asked → List ℕ
out_of (asks_request t b th r out) = out
out_of (asks_done t b th) = []
out_of (asks_index t b th out) = out

-- the state that lies in the memory
abbrev pub found_in : Lent → State
found_in m = found m.head m.counters m.ticks m.rows m.threads

-- What set-up and a call leave, as the contracts of the exported calls say: under `narrow` of throttle_setup, throttle_request, throttle_done and
-- throttle_index, under `wide` of those with 32-bit counters.
abbrev pub left_by_setup : Policy → List ℕ → List ℕ → Lent → Left
left_by_setup p setting seeds m = leaves (setup p.limits (setting_of setting) seeds (found_in m)) [] m.head

abbrev pub left_by : Policy → List ℕ → List ℕ → Lent → Asked → Left
left_by p setting seeds m c = leaves (step p (setting_of setting) seeds (found_in m) (call_of c)) (out_of c) m.head

abbrev pub lent_after : Left → Lent
lent_after l = record { head = l.head; counters = l.counters; ticks = l.ticks; rows = l.rows; threads = l.threads }

-- what the calls of a list leave, each given the memory that the one before it left
abbrev pub left_by_all : Policy → List ℕ → List ℕ → Lent → List Asked → List Left
left_by_all p setting seeds m [] = []
left_by_all p setting seeds m (c ∷ cs) = left_by p setting seeds m c ∷ left_by_all p setting seeds (lent_after (left_by p setting seeds m c)) cs

-- the memory that a list of calls leaves
abbrev pub lent_after_all : Policy → List ℕ → List ℕ → Lent → List Asked → Lent
lent_after_all p setting seeds m [] = m
lent_after_all p setting seeds m (c ∷ cs) = lent_after_all p setting seeds (lent_after (left_by p setting seeds m c)) cs

-- an opening, as the program sees it: a request that returned 0 and left 0 in out[0]
abbrev pub opening_of : Asked → Left → List Activation
opening_of (asks_request t b th r out) l = cond (eqb l.code 0 && eqb (get_or l.out 0 0) 0) (record { tick = t; bank = b; thread = th; row = r } ∷ []) []
opening_of (asks_done t b th) l = []
opening_of (asks_index t b th out) l = []

abbrev pub openings : List Asked → List Left → List Activation
openings [] ls = []
openings (c ∷ cs) [] = []
openings (c ∷ cs) (l ∷ ls) = opening_of c l ++ openings cs ls

-- ---- lists of calls of one width

-- From any words and buffers that set-up accepts, for every list of calls: no row of any bank is opened more than `span_bound` times in x ticks ..
abbrev pub SpansForC : Policy → Type 0
SpansForC p =
    (setting seeds : List ℕ) (m : Lent) → (left_by_setup p setting seeds m).code ≡ 0
    → (cs : List Asked) (bank row start x : ℕ) → 1 ≤ x
    → times_activated bank row start x (openings cs (left_by_all p setting seeds (lent_after (left_by_setup p setting seeds m)) cs)) ≤ span_bound (setting_of setting) x

-- .. and not more than L times in any W successive ticks.
abbrev pub Demand3ForC : Policy → Type 0
Demand3ForC p =
    (setting seeds : List ℕ) (m : Lent) → (left_by_setup p setting seeds m).code ≡ 0
    → (cs : List Asked) (bank row start : ℕ)
    → times_activated bank row start (setting_of setting).w
    (openings cs (left_by_all p setting seeds (lent_after (left_by_setup p setting seeds m)) cs)) ≤ (setting_of setting).l

-- ---- the change-over (document 02, a)

-- What it leaves, as its contract says: the return code and the new counters. The memory m, with the 16-bit counters, is lent to it for reading.
abbrev pub left_by_over : List ℕ → List ℕ → Lent → List ℕ → ChangedOver
left_by_over setting seeds m counters = change_over (setting_of setting) seeds (found_in m) counters

-- the memory of the new-width calls: the counters that a change-over left, and head, history and thread counters as they are
abbrev pub lent_over : Lent → ChangedOver → Lent
lent_over m l = record { head = m.head; counters = l.counters; ticks = m.ticks; rows = m.rows; threads = m.threads }

-- what a call left, and of the counters the used part
abbrev pub used_of : Setting → Left → Left
used_of s l = left l.code l.out l.head (take (counters_used s) l.counters) l.ticks l.rows l.threads

-- "after the change-over it answers every later call under the change-over's setting as it would have before": of any memory and any new counters for
-- which it returns 0, and every list of calls. Each new-width call leaves the return code, the out words, the head's words, the used counters, and
-- the history and thread counters, whole buffers, that the old-width call would have left ..
abbrev pub AnswersAsBeforeForC : Type 0
AnswersAsBeforeForC =
    (setting seeds : List ℕ) (m : Lent) (counters : List ℕ) → (left_by_over setting seeds m counters).code ≡ 0 → (cs : List Asked)
    → map (used_of (setting_of setting)) (left_by_all wide setting seeds (lent_over m (left_by_over setting seeds m counters)) cs)
    ≡ map (used_of (setting_of setting)) (left_by_all narrow setting seeds m cs)

-- .. and so does new-width set-up, which is a call too, after every such list.
abbrev pub SetUpAsBeforeForC : Type 0
SetUpAsBeforeForC =
    (setting seeds : List ℕ) (m : Lent) (counters : List ℕ) → (left_by_over setting seeds m counters).code ≡ 0
    → (cs : List Asked)
    → let old = lent_after_all narrow setting seeds m cs in
    let new = lent_after_all wide setting seeds (lent_over m (left_by_over setting seeds m counters)) cs in
    used_of (setting_of setting) (left_by_setup wide setting seeds new) ≡ used_of (setting_of setting) (left_by_setup narrow setting seeds old)

-- ---- lists with a change-over

-- the width of the filter counters, and the rules of its calls
pub data Width : Type 0 where
  bits16 bits32 : Width

abbrev pub rules_of : Width → Policy
rules_of bits16 = narrow
rules_of bits32 = wide

-- A list as in demand 3, from memory m on: each call is given what the one before it left, and setting and seeds are the same for all. "In a list as
-- in demand 3 only old-width calls precede it": the calls are old-width ones up to a change-over that returns 0 and new-width ones after it.
pub data ListFrom (setting seeds : List ℕ) : Width → Lent → Type 0 where
  ends : (w : Width) (m : Lent) → ListFrom setting seeds w m
  -- a call of the width that the list has come to, refused or not
  call : (w : Width) (m : Lent) (c : Asked) → ListFrom setting seeds w (lent_after (left_by (rules_of w) setting seeds m c)) → ListFrom setting seeds w m
  -- the change-over that returns 0: of the memory that the old-width calls left, into any counters
  over : (m : Lent) (counters : List ℕ) → (left_by_over setting seeds m counters).code ≡ 0
      → ListFrom setting seeds bits32 (lent_over m (left_by_over setting seeds m counters)) → ListFrom setting seeds bits16 m
  -- one that is refused, of any memory, m or another, into counters that are not in m: it writes nothing of m
  over_refused : (w : Width) (m given : Lent) (counters : List ℕ) → (left_by_over setting seeds given counters).code ≢ 0
      → ListFrom setting seeds w m → ListFrom setting seeds w m
  -- one that is refused, of any memory into the counters of the new-width calls: they are given what it leaves
  again_refused : (m given : Lent) → (left_by_over setting seeds given m.counters).code ≢ 0
      → ListFrom setting seeds bits32 (lent_over m (left_by_over setting seeds given m.counters)) → ListFrom setting seeds bits32 m

-- its openings as the program sees them, in order: a change-over opens nothing
abbrev pub openings_from : (setting seeds : List ℕ) {w : Width} {m : Lent} → ListFrom setting seeds w m → List Activation
openings_from setting seeds (ends w m) = []
openings_from setting seeds (call w m c cs) = opening_of c (left_by (rules_of w) setting seeds m c) ++ openings_from setting seeds cs
openings_from setting seeds (over m counters e cs) = openings_from setting seeds cs
openings_from setting seeds (over_refused w m given counters e cs) = openings_from setting seeds cs
openings_from setting seeds (again_refused m given e cs) = openings_from setting seeds cs

-- the list that has these calls, of one width, and no change-over
abbrev pub list_of : (setting seeds : List ℕ) (w : Width) (m : Lent) → List Asked → ListFrom setting seeds w m
list_of setting seeds w m [] = ends w m
list_of setting seeds w m (c ∷ cs) = call w m c (list_of setting seeds w (lent_after (left_by (rules_of w) setting seeds m c)) cs)

-- Every list of calls of one width is such a list: it has the openings that `SpansForC` and `Demand3ForC` speak of, under the rules of that width.
pub record OneWidthForC (setting seeds : List ℕ) (m : Lent) (cs : List Asked) : Type 0 where
  pub old : openings_from setting seeds (list_of setting seeds bits16 m cs) ≡ openings cs (left_by_all narrow setting seeds m cs)
  pub new : openings_from setting seeds (list_of setting seeds bits32 m cs) ≡ openings cs (left_by_all wide setting seeds m cs)

-- From any words and buffers that the set-up of a width accepts, for every such list: no row of any bank is opened more than `span_bound` times in x
-- ticks, before and after the change-over together ..
abbrev pub SpansOverForC : Type 0
SpansOverForC =
    (w : Width) (setting seeds : List ℕ) (m : Lent) → (left_by_setup (rules_of w) setting seeds m).code ≡ 0
    → (cs : ListFrom setting seeds w (lent_after (left_by_setup (rules_of w) setting seeds m))) (bank row start x : ℕ) → 1 ≤ x
    → times_activated bank row start x (openings_from setting seeds cs) ≤ span_bound (setting_of setting) x

-- .. and not more than L times in any W successive ticks.
abbrev pub Demand3OverForC : Type 0
Demand3OverForC =
    (w : Width) (setting seeds : List ℕ) (m : Lent) → (left_by_setup (rules_of w) setting seeds m).code ≡ 0
    → (cs : ListFrom setting seeds w (lent_after (left_by_setup (rules_of w) setting seeds m))) (bank row start : ℕ)
    → times_activated bank row start (setting_of setting).w (openings_from setting seeds cs) ≤ (setting_of setting).l

-- ---- all of it

-- those of one width for every policy, `narrow` and `wide` among them
pub record Theorems : Type 0 where
  pub spans : (p : Policy) → SpansForC p
  pub demand3 : (p : Policy) → Demand3ForC p
  pub answers_as_before : AnswersAsBeforeForC
  pub set_up_as_before : SetUpAsBeforeForC
  pub one_width : (setting seeds : List ℕ) (m : Lent) (cs : List Asked) → OneWidthForC setting seeds m cs
  pub spans_over : SpansOverForC
  pub demand3_over : Demand3OverForC
