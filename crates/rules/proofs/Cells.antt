-- Lists of cells: what a change by place and content does to each cell, one change after another, a store; and where a thread's cells lie.
use mathlib.Core.Path.{◌≡◌, refl, sym, ap, ◌∙◌}
use mathlib.Core.Logic.{◌≢◌}
use mathlib.Core.List.{List, [], ◌∷◌}
use Prim.Native.Nat.{ℕ, zero, suc, ◌+◌, ◌*◌, ◌<◌}
use native.Mathlib.Omega.{arith}
use native.Mathlib.Nat.{zero-add, add-zero}
use native.Mathlib.Decide.{dec_lt, ℕ_discrete}
use lib.Arith.{digits_lt}
use lib.ListN.{length, get_or, set, length-set}
use lib.Seq.{ext_get_or, get_or-set_same, get_or-set_other, set_out}
use Rattle.head.specs.Head.{cells}
use Rattle.rules.specs.declared.Setting.{Setting}
use Rattle.rules.specs.Cells.{map_from, map_cells, All}
use Rattle.rules.specs.State.{threads_used, thread_cell}

pub length_map_from : (f : ℕ → ℕ → ℕ) (i : ℕ) (cs : List ℕ) → length (map_from f i cs) ≡ length cs
length_map_from f i [] = refl
length_map_from f i (c ∷ cs) = ap suc (length_map_from f (suc i) cs)

pub get_or_map_from : (f : ℕ → ℕ → ℕ) (i j : ℕ) (cs : List ℕ) → j < length cs → get_or (map_from f i cs) j 0 ≡ f (i + j) (get_or cs j 0)
get_or_map_from f i j [] h = absurd (omega arith)
get_or_map_from f i zero (c ∷ cs) h = ap (λ x. f x c) (sym (add-zero i))
get_or_map_from f i (suc j) (c ∷ cs) h =
    let e : suc i + j ≡ i + suc j = omega arith in
    get_or_map_from f (suc i) j cs (omega arith) ∙ ap (λ x. f x (get_or cs j 0)) e

pub length_map_cells : (f : ℕ → ℕ → ℕ) (cs : List ℕ) → length (map_cells f cs) ≡ length cs
length_map_cells f cs = length_map_from f 0 cs

pub get_or_map_cells : (f : ℕ → ℕ → ℕ) (j : ℕ) (cs : List ℕ) → j < length cs → get_or (map_cells f cs) j 0 ≡ f j (get_or cs j 0)
get_or_map_cells f j cs h = get_or_map_from f 0 j cs h ∙ ap (λ x. f x (get_or cs j 0)) (zero-add j)

-- a list is the change of another if it is as long and each cell is the change of the other's
pub is_map_cells : (f : ℕ → ℕ → ℕ) (new old : List ℕ) → length new ≡ length old
    → ((j : ℕ) → j < length old → get_or new j 0 ≡ f j (get_or old j 0)) → new ≡ map_cells f old
is_map_cells f new old e h =
    ext_get_or 0 new (map_cells f old) (e ∙ sym (length_map_cells f old))
    (λ j k. h j (rw e at k) ∙ sym (get_or_map_cells f j old (rw e at k)))

-- a cell that the change leaves, within the list or past its end
pub get_d_kept : (f : ℕ → ℕ → ℕ) (i j : ℕ) (cs : List ℕ) → ((c : ℕ) → f (i + j) c ≡ c) → get_or (map_from f i cs) j 0 ≡ get_or cs j 0
get_d_kept f i j [] h = refl
get_d_kept f i zero (c ∷ cs) h = ap (λ x. f x c) (sym (add-zero i)) ∙ h c
get_d_kept f i (suc j) (c ∷ cs) h = get_d_kept f (suc i) j cs (λ x. let e : suc i + j ≡ i + suc j = omega arith in ap (λ k. f k x) e ∙ h x)

-- a change that does nothing
pub map_same : (f : ℕ → ℕ → ℕ) → ((i c : ℕ) → f i c ≡ c) → (cs : List ℕ) → map_cells f cs ≡ cs
map_same f h cs = sym (is_map_cells f cs cs refl (λ j k. sym (h j (get_or cs j 0))))

-- one change after another is a change
pub map_map : (f g h : ℕ → ℕ → ℕ) (cs : List ℕ) → ((i c : ℕ) → f i (g i c) ≡ h i c) → map_cells f (map_cells g cs) ≡ map_cells h cs
map_map f g h cs e =
    is_map_cells h (map_cells f (map_cells g cs)) cs (length_map_cells f (map_cells g cs) ∙ length_map_cells g cs)
    (λ j k. get_or_map_cells f j (map_cells g cs) (rw (length_map_cells g cs) k) ∙ ap (f j) (get_or_map_cells g j cs k) ∙ e j (get_or cs j 0))

-- a store after a change is a change that has the stored value at its cell and agrees with the first elsewhere
pub store_map : (f h : ℕ → ℕ → ℕ) (cs : List ℕ) (a v : ℕ) → a < length cs → v ≡ h a (get_or cs a 0)
    → ((i c : ℕ) → i ≢ a → f i c ≡ h i c) → set (map_cells f cs) a v ≡ map_cells h cs
store_map f h cs a v ok ev e =
    is_map_cells h (set (map_cells f cs) a v) cs (length-set (map_cells f cs) a v ∙ length_map_cells f cs)
    (λ j k. go j k (ℕ_discrete j a))
  where
    go : (j : ℕ) → j < length cs → Dec (j ≡ a) → get_or (set (map_cells f cs) a v) j 0 ≡ h j (get_or cs j 0)
    go j k (yes p) = rw p (get_or-set_same (map_cells f cs) a v 0 (rw (length_map_cells f cs) ok) ∙ ev)
    go j k (no p) = get_or-set_other (map_cells f cs) a j v 0 p ∙ get_or_map_cells f j cs k ∙ e j (get_or cs j 0) p

-- what holds of a cell and of a value holds of the cell after the value is stored somewhere
pub set_cell : (P : ℕ → Type 0) (l : List ℕ) (i j v : ℕ) → P v → P (get_or l j 0) → P (get_or (set l i v) j 0)
set_cell P l i j v hv h = go (ℕ_discrete j i) (dec_lt i (length l))
  where
    go : Dec (j ≡ i) → Dec (i < length l) → P (get_or (set l i v) j 0)
    go (yes e) (yes k) = rw (e, get_or-set_same l i v 0 k) hv
    go (yes e) (no k) = rw (set_out l i v (omega arith)) h
    go (no e) d = rw (get_or-set_other l i j v 0 e) h

-- what holds of each cell before, and of each changed cell, holds after
pub all_map_from : (P : ℕ → Type 0) (f : ℕ → ℕ → ℕ) → ((i c : ℕ) → P c → P (f i c)) → (i : ℕ) (cs : List ℕ) → All P cs → All P (map_from f i cs)
all_map_from P f h i [] a = tt
all_map_from P f h i (c ∷ cs) a = (h i c a.0, all_map_from P f h (suc i) cs a.1)

-- a cell of the n cells from i on
pub get_or_cells : (l : List ℕ) (i n k : ℕ) → k < n → get_or (cells l i n) k 0 ≡ get_or l (i + k) 0
get_or_cells l i zero k h = absurd (omega arith)
get_or_cells l i (suc n) zero h = ap (λ x. get_or l x 0) (sym (add-zero i))
get_or_cells l i (suc n) (suc k) h =
    let e : suc i + k ≡ i + suc k = omega arith in
    get_or_cells l (suc i) n k (omega arith) ∙ ap (λ x. get_or l x 0) e

pub get_or_first : (l : List ℕ) (n k : ℕ) → k < n → get_or (cells l 0 n) k 0 ≡ get_or l k 0
get_or_first l n k h = get_or_cells l 0 n k h ∙ ap (λ x. get_or l x 0) (zero-add k)

length_cells : (l : List ℕ) (i n : ℕ) → length (cells l i n) ≡ n
length_cells l i zero = refl
length_cells l i (suc n) = omega (arith, length_cells l (suc i) n)

-- all cells of a list
pub cells_all : (l : List ℕ) (n : ℕ) → length l ≡ n → cells l 0 n ≡ l
cells_all l n e = ext_get_or 0 (cells l 0 n) l (length_cells l 0 n ∙ sym e) (λ i h. get_or_first l n i (omega (arith, length_cells l 0 n)))

-- a thread's three cells are within the used part
pub thread_in : (s : Setting) (bank thread k : ℕ) → bank < s.banks → thread < s.threads → k < 3 → thread_cell s bank thread k < threads_used s
thread_in s bank thread k hb ht hk =
    let h : bank * s.threads + thread < s.banks * s.threads = digits_lt {q = bank} {m = s.banks} {r = thread} {c = s.threads} hb ht in
    omega arith
