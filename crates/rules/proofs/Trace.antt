-- The activations of a run, newest first: what the rules promise of them, and how often one row is among those of a span.
use mathlib.Core.Path.{◌≡◌, refl, sym, ap, ◌∙◌}
use mathlib.Core.Logic.{◌⊎◌, inl, inr}
use mathlib.Core.List.{List, [], ◌∷◌}
use mathlib.Core.Bool.{Bool, true, false, ◌&&◌, cond}
use Prim.Native.Nat.{ℕ, ◌+◌, ◌-◌, ◌*◌, ◌/◌, ◌≤◌, ◌<◌}
use native.Mathlib.Omega.{arith}
use native.Mathlib.Decide.{dec_le}
use lib.Dec.{T, leb, eqb, eqb→eq, le→leb}
use lib.Arith.{lt→nleb}
use Rattle.rules.specs.declared.Setting.{Setting}
use Rattle.rules.specs.Cells.{ceil_div, more, count, All}
use Rattle.rules.specs.Setting.{epoch_length}
use Rattle.rules.specs.Clock.{epoch}
use Rattle.rules.specs.Calls.{Activation, of_row, in_span, times_activated}
use Rattle.rules.specs.Claims.{free_most, span_bound}
use Rattle.rules.proofs.Tests.{and_l, and_r, cond_yes, cond_no, holds}
use Rattle.rules.proofs.Counting.{all_map}
use Rattle.rules.proofs.Accept.{ceil_cover}
use Rattle.rules.proofs.OneRow.{Before, near, Row, row_span, row_span_short}

-- the row's activations in epoch k - 1 or later
abbrev pub since : Setting → ℕ → ℕ → ℕ → List Activation → ℕ
since s k b r os = count (λ x. of_row b r x && leb k (epoch s x.tick + 1)) os

-- Each activation is no earlier than the older ones, tRC after those of its bank, and either fewer than N older ones of its row
-- lie in its epoch and the one before, or it is tD after all older ones of its row.
abbrev pub Lawful : Setting → List Activation → Type 0
Lawful s [] = Unit {0}
Lawful s (o ∷ os) =
    Lawful s os
    × All (λ x. x.tick ≤ o.tick) os
    × All (λ x. x.bank ≡ o.bank → x.tick + s.trc ≤ o.tick) os
    × ((since s (epoch s o.tick) o.bank o.row os < s.n) ⊎ All (λ x. T (of_row o.bank o.row x) → x.tick + s.td ≤ o.tick) os)

pub row_bank : (b r : ℕ) (o : Activation) → T (of_row b r o) → o.bank ≡ b
row_bank b r o h = eqb→eq o.bank b (and_l (eqb o.bank b) (eqb o.row r) h)

pub row_row : (b r : ℕ) (o : Activation) → T (of_row b r o) → o.row ≡ r
row_row b r o h = eqb→eq o.row r (and_r (eqb o.bank b) (eqb o.row r) h)

-- ---- the ticks of one row

abbrev keep_tick : Bool → Activation → List ℕ → List ℕ
keep_tick true o l = o.tick ∷ l
keep_tick false o l = l

abbrev ticks_of : ℕ → ℕ → List Activation → List ℕ
ticks_of b r [] = []
ticks_of b r (o ∷ os) = keep_tick (of_row b r o) o (ticks_of b r os)

count_ticks : (p : ℕ → Bool) (b r : ℕ) (l : List Activation) → count p (ticks_of b r l) ≡ count (λ o. of_row b r o && p o.tick) l
count_ticks p b r [] = refl
count_ticks p b r (o ∷ os) = go (of_row b r o) (count_ticks p b r os)
  where
    go : (a : Bool) → count p (ticks_of b r os) ≡ count (λ o. of_row b r o && p o.tick) os
        → count p (keep_tick a o (ticks_of b r os)) ≡ more (a && p o.tick) (count (λ o. of_row b r o && p o.tick) os)
    go true h = ap (more (p o.tick)) h
    go false h = h

all_before : (b r g t : ℕ) (l : List Activation) → All (λ x. T (of_row b r x) → x.tick + g ≤ t) l → Before g t (ticks_of b r l)
all_before b r g t [] a = tt
all_before b r g t (o ∷ os) a = go (of_row b r o) refl (all_before b r g t os a.1)
  where
    go : (q : Bool) → of_row b r o ≡ q → Before g t (ticks_of b r os) → Before g t (keep_tick q o (ticks_of b r os))
    go true e h = (a.0 (holds (of_row b r o) e), h)
    go false e h = h

lawful_row : (s : Setting) (b r : ℕ) (l : List Activation) → Lawful s l → Row (epoch_length s) s.n s.trc s.td (ticks_of b r l)
lawful_row s b r [] h = tt
lawful_row s b r (o ∷ os) h = go (of_row b r o) refl (lawful_row s b r os h.0)
  where
    go : (q : Bool) → of_row b r o ≡ q → Row (epoch_length s) s.n s.trc s.td (ticks_of b r os)
        → Row (epoch_length s) s.n s.trc s.td (keep_tick q o (ticks_of b r os))
    go false e k = k
    go true e k = (k, all_before b r s.trc o.tick os (all_map (λ x a m. a (row_bank b r x m ∙ sym bk)) os h.2), either h.3)
      where
        mine : T (of_row b r o)
        mine = holds (of_row b r o) e

        bk : o.bank ≡ b
        bk = row_bank b r o mine

        rk : o.row ≡ r
        rk = row_row b r o mine

        either : (since s (epoch s o.tick) o.bank o.row os < s.n) ⊎ All (λ x. T (of_row o.bank o.row x) → x.tick + s.td ≤ o.tick) os
            → (near (epoch_length s) (epoch s o.tick) (ticks_of b r os) < s.n) ⊎ Before s.td o.tick (ticks_of b r os)
        either (inl f) = inl (rw (count_ticks (λ u. leb (epoch s o.tick) (u / epoch_length s + 1)) b r os, ← bk, ← rk) f)
        either (inr d) = inr (all_before b r s.td o.tick os (rw (bk, rk) at d))

-- ---- spans of every length

pub lawful_span : (s : Setting) → 1 ≤ epoch_length s → 1 ≤ s.trc → s.trc ≤ s.td → (l : List Activation) → Lawful s l
    → (b r start x : ℕ) → 1 ≤ x → times_activated b r start x l ≤ span_bound s x
unfolding span_bound
lawful_span s e1 r1 rd l ok b r start x x1 = rw (← (count_ticks (in_span start x) b r l)) (go (dec_le (free_most s x * s.trc) (x - 1)))
  where
    c : ℕ
    c = ceil_div (x - 1) (epoch_length s)

    k : ℕ
    k = ceil_div (c + 1) 2

    one : Row (epoch_length s) s.n s.trc s.td (ticks_of b r l)
    one = lawful_row s b r l ok

    cover : x ≤ c * epoch_length s + 1
    cover = omega (arith, ceil_cover (x - 1) (epoch_length s) e1)

    pairs : c + 1 ≤ 2 * k
    pairs = omega arith

    room : Bool
    room = leb (free_most s x * s.trc) (x - 1)

    long : ℕ
    long = free_most s x + 1 + (x - 1 - free_most s x * s.trc) / s.td

    short : ℕ
    short = 1 + (x - 1) / s.trc

    go : Dec (free_most s x * s.trc ≤ x - 1) → count (in_span start x) (ticks_of b r l) ≤ cond room long short
    go (yes h) =
        rw (cond_yes room long short (le→leb (free_most s x * s.trc) (x - 1) h))
        (row_span (epoch_length s) s.n s.trc s.td start x c k e1 x1 cover pairs r1 rd (ticks_of b r l) one h)
    go (no h) =
        rw (cond_no room long short (lt→nleb (free_most s x * s.trc) (x - 1) (omega arith)))
        (row_span_short (epoch_length s) s.n s.trc s.td start x c k e1 x1 cover pairs r1 (ticks_of b r l) one)
