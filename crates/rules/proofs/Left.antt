-- Openings left: an activation raises each of the row's counters in the active filter that is below N, and so takes 1 from what is left of N.
use mathlib.Core.Path.{◌≡◌, refl, sym, ap, ◌∙◌}
use mathlib.Core.List.{List}
use mathlib.Core.Bool.{Bool, true, false, cond}
use Prim.Native.Nat.{ℕ, ◌+◌, ◌-◌, ◌*◌, ◌≤◌, ◌<◌, min}
use native.Mathlib.Omega.{arith}
use native.Mathlib.Decide.{dec_le}
use lib.Dec.{T, ltb}
use lib.ListN.{length, get_or}
use borrow.Author.Tests.{ltb-false}
use Rattle.head.specs.Head.{activated_head}
use Rattle.rules.specs.declared.Answer.TheVariants.{Opened}
use Rattle.rules.specs.Setting.{seeds_in_range}
use Rattle.rules.specs.Clock.{active_filter, turned}
use Rattle.rules.specs.Hash.{places}
use Rattle.rules.specs.Filter.{counter_at, estimate, raised, counted}
use Rattle.rules.specs.Policy.{Policy}
use Rattle.rules.specs.Decision.{decide, activated, openings_left}
use Rattle.rules.specs.Claims.{LeftAfter, LeftOfOpened}
use Rattle.rules.proofs.Accept.{taken}
use Rattle.rules.proofs.Places.{place_lt}
use Rattle.rules.proofs.Filter.{counted_raises, place_member}
use Rattle.rules.proofs.Memory.{turned_long}
use Rattle.rules.proofs.Decisions.{left_of}
use Rattle.rules.proofs.Step.{answers}

-- what is left of n when a counter has gained 1 if it was below n
left_raised : (n c : ℕ) → n - raised n c ≡ n - (c + 1)
unfolding raised
left_raised n c = go (ltb c n) refl
  where
    go : (b : Bool) → ltb c n ≡ b → n - cond b (c + 1) c ≡ n - (c + 1)
    go true e = refl
    go false e = omega (arith, ltb-false c n e)

first_lesser : (a b : ℕ) → a ≤ b → min a b ≡ a
first_lesser a b h = omega arith

second_lesser : (a b : ℕ) → b ≤ a → min a b ≡ b
second_lesser a b h = omega arith

left_between : (n a b x y : ℕ) → a ≤ b → y ≤ x → n - a ≡ n - (x + 1) → n - b ≡ n - (y + 1) → n - a ≡ n - (y + 1)
left_between n a b x y p q h k = omega arith

-- the same of the lesser of two counters
left_lesser : (n a b x y : ℕ) → n - a ≡ n - (x + 1) → n - b ≡ n - (y + 1) → n - min a b ≡ n - (min x y + 1)
left_lesser n a b x y h k = go (dec_le a b) (dec_le x y)
  where
    go : Dec (a ≤ b) → Dec (x ≤ y) → n - min a b ≡ n - (min x y + 1)
    go (yes p) (yes q) = rw (first_lesser a b p, first_lesser x y q) h
    go (yes p) (no q) = rw (first_lesser a b p, second_lesser x y (omega arith)) (left_between n a b x y p (omega arith) h k)
    go (no p) (yes q) = rw (second_lesser a b (omega arith), first_lesser x y q) (left_between n b a y x (omega arith) q k h)
    go (no p) (no q) = rw (second_lesser a b (omega arith), second_lesser x y (omega arith)) k

-- the same of an estimate, in any filter of the bank
estimate_left : (n b f r : ℕ) (own : ℕ → List ℕ) (cs : List ℕ) → f < 2 → T (seeds_in_range (own f)) → b * 2048 + 2048 ≤ length cs
    → n - estimate (counted n b (λ g. places (own g) r) cs) b f (places (own f) r) ≡ n - (estimate cs b f (places (own f) r) + 1)
unfolding estimate
estimate_left n b f r own cs f2 fit long =
    left_lesser n (min (after 0) (after 1)) (min (after 2) (after 3)) (min (before 0) (before 1)) (min (before 2) (before 3))
    (left_lesser n (after 0) (after 1) (before 0) (before 1) (one 0 (omega arith)) (one 1 (omega arith)))
    (left_lesser n (after 2) (after 3) (before 2) (before 3) (one 2 (omega arith)) (one 3 (omega arith)))
  where
    before : ℕ → ℕ
    before k = counter_at cs b f (places (own f) r) k

    after : ℕ → ℕ
    after k = counter_at (counted n b (λ g. places (own g) r) cs) b f (places (own f) r) k

    one : (k : ℕ) → k < 4 → n - after k ≡ n - (before k + 1)
    one k k4 =
        let h = get_or (places (own f) r) k 0 in
        let m = place_member (own f) r k k4 in
        ap (λ c. n - c) (counted_raises n b (λ g. places (own g) r) cs f h f2 m (omega (arith, place_lt (own f) fit r h m))) ∙ left_raised n (before k)

pub left_after : LeftAfter
unfolding activated activated_head
left_after s own fit st b th r bh long =
    let f = active_filter s st.head.last in
    estimate_left s.n b f r own st.counters (omega arith) (fit f (omega arith)) (omega arith)

pub left_of_opened : (p : Policy) → LeftOfOpened p
left_of_opened p s seeds st t b th r left e =
    let k = answers p s seeds st t b th r (Opened left) e in
    let ok = taken p.limits s seeds st t b th k.free in
    let at : ℕ → List ℕ = λ f. places seeds r in
    let moved = turned s st t in
    sym (left_of (decide p s at moved b th r) (openings_left s at (activated s at moved b th r) b) left k.says)
    ∙ left_after s (λ f. seeds) (λ f f2. ok.setting.seeds_ok) moved b th r ok.bank_in (turned_long s st t ok.long).counters
