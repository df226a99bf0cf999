-- What the code computes instead of a search: the greatest and the least difference of the pairs (document 02, i).
use Rattle.std.specs.Prelude.{List, Bool, ◌&&◌, cond, ℕ, zero, suc, ◌+◌, ◌-◌, ◌^◌, min, max, leb, eqb, get_or}
use Rattle.rules.specs.Cells.{every}
use Rattle.probe_rules.specs.Probes.{Probe, same_row}

-- the lists do not "differ in length, bank or row"
unfoldable pub alike : Probe → Probe → Bool
alike x y = eqb x.count y.count && every x.count (same_row x y)

-- "second tick minus first tick", plus 2^62: no negative number where both ticks are below 2^62
abbrev pub difference : List ℕ → List ℕ → ℕ → ℕ
difference firsts seconds i = get_or seconds i 0 + 2 ^ 62 - get_or firsts i 0

-- the greatest and the least of the first n pairs' differences, and the ends of what a difference can be where there is no pair
unfoldable pub greatest : List ℕ → List ℕ → ℕ → ℕ
greatest firsts seconds zero = 0
greatest firsts seconds (suc n) = max (greatest firsts seconds n) (difference firsts seconds n)

unfoldable pub least : List ℕ → List ℕ → ℕ → ℕ
least firsts seconds zero = 2 ^ 63
least firsts seconds (suc n) = min (least firsts seconds n) (difference firsts seconds n)

-- The number of the least offset, from the greatest difference g and the least one l: g less the jitter, at least −1,000. It fits if it is at most 1,000
-- and at most l and the jitter; else 2,001.
unfoldable pub closed : ℕ → ℕ → ℕ → ℕ
closed j g l =
    let e = g + 1000 - (2 ^ 62 + j) in
    cond (leb e 2000 && leb (e + 2 ^ 62) (l + j + 1000)) e 2001
