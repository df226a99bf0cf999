-- The decision from numbers, test by test.
use Prim.Native.Nat.{ℕ, ◌+◌, ◌-◌, max}
use mathlib.Core.Path.{◌≡◌, refl, sym}
use mathlib.Core.Bool.{Bool, true, false, ◌||◌, cond}
use native.Mathlib.Omega.{arith}
use lib.Dec.{leb, ltb, eqb}
use borrow.Author.Tests.{le-leb}
use Rattle.rules.specs.declared.Setting.{Setting}
use Rattle.rules.specs.Decision.{passed, first_failing}
use Rattle.rules.specs.Claims.{gap_end, closed_tick}
use Rattle.decision.specs.declared.View.{View}
use Rattle.decision.specs.Numbers.{gaps_end, wait_from, decide_from}

-- a rule passes from the end of its gap on
pub passed_leb : (gap stored t : ℕ) → passed gap stored t ≡ leb (gap_end gap stored) t
passed_leb gap stored t = go (eqb stored 0)
  where
    go : (q : Bool) → q || leb (stored - 1 + gap) t ≡ leb (cond q 0 (stored - 1 + gap)) t
    go true = sym (le-leb 0 t (omega arith))
    go false = refl

-- the decision from the ends of the gaps and the wait tick
pub decide_tests : (s : Setting) (t : ℕ) (v : View) {bank rank both gaps until : ℕ} → bank ≡ gap_end s.trc v.bank → rank ≡ gap_end s.tfaw v.rank
    → both ≡ max bank rank → gaps ≡ max t both → until ≡ closed_tick s.n v.end gaps v.delay v.active v.other
    → decide_from s t v ≡ first_failing (ltb v.flying v.quota) (leb bank t) (leb rank t) (ltb v.active s.n || leb v.delay t) until
unfolding decide_from wait_from gaps_end
decide_tests s t v eb er ex eg eu =
    rw (passed_leb s.trc v.bank t, passed_leb s.tfaw v.rank t, ← eb, ← er, ← ex, ← eg, ← eu)
