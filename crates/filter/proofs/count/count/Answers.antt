-- `count` meets its contract: what filter 0 and then filter 1 gain is what the rules count, and the estimate is the one that the tested filter reported.
use Rattle.std.proofs.Common.{◌≡◌, map, length, sym, ap, ◌∙◌, arith, rules}
use Rattle.std.proofs.lemmas.List.{length-map}
use Rattle.rules.specs.Filter.{two, estimate, counted}
use Rattle.filter.proofs.count.Counting.{counted_row, first_estimate}
use Rattle.filter.proofs.count.count.Goals as goal

pub returns-then-f-eq0 : goal.returns-then-f-eq0
returns-then-f-eq0 g c =
    let a = c.args in
    let v = g.C.Counter.value in
    let n = v a.n in
    let old = map v a.counters.now in
    let middle = map v c.count_in-first.new.counters in
    let new = map v c.count_in-second.new.counters in
    let fours : (length a.«at» ≡ 4) × (length a.other ≡ 4) = (search rules, search rules) in
    let gained : new ≡ counted n a.bank (two a.«at» a.other) old =
    counted_row n a.bank a.«at» a.other old middle new fours.0 c.requires.3 fours.1 c.requires.4 c.count_in-first.ensures.0 c.count_in-second.ensures.0 in
    let kept : estimate new a.bank 0 a.«at» ≡ estimate middle a.bank 0 a.«at» =
    ap (λ l. estimate l a.bank 0 a.«at») c.count_in-second.ensures.0
    ∙ first_estimate n a.bank a.«at» a.other middle fours.0 c.requires.3 fours.1 c.requires.4 (simp length-map (omega (arith, c.requires.1, c.count_in-first.auto.counters))) in
    (gained, rw c.if-f-eq0.true (c.count_in-first.ensures.1 ∙ sym kept))

pub returns-else-f-eq0 : goal.returns-else-f-eq0
returns-else-f-eq0 g c =
    let a = c.args in
    let v = g.C.Counter.value in
    let old = map v a.counters.now in
    let middle = map v c.count_in-first.new.counters in
    let new = map v c.count_in-second.new.counters in
    let fours : (length a.«at» ≡ 4) × (length a.other ≡ 4) = (search rules, search rules) in
    let gained : new ≡ counted (v a.n) a.bank (two a.«at» a.other) old =
    counted_row (v a.n) a.bank a.«at» a.other old middle new fours.0 c.requires.3 fours.1 c.requires.4 c.count_in-first.ensures.0 c.count_in-second.ensures.0 in
    let one : a.f ≡ 1 = search rules in
    (gained, rw one c.count_in-second.ensures.1)
