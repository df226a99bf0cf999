-- The test of the head's stored ticks, in the words where they lie: one by one, and by or-ed differences.
use Rattle.std.proofs.Common.{◌≡◌, ℕ, zero, suc, add-one, ◌&&◌, ap, ap₂, take, drop, length, length-drop, ◌+◌, ◌-◌, ◌%◌, ◌^◌, ◌<◌, ◌≤◌, Bool, true, T, List, get_or, refl, ◌∙◌, arith}
use native.Mathlib.Nat.{mod-le}
use Rattle.std.specs.List.{list_all}
use Rattle.std.proofs.lemmas.List.{get_or-take, get_or-drop}
use Rattle.std.proofs.lemmas.List.Folds.{list_all_more}
use lib.Bits.{bit_or}
use Rattle.rules.specs.Cells.{every}
use Rattle.rules.specs.History.{not_after}
use Rattle.rules.proofs.Tests.{holds, is_true, every_at, every_all}
use Rattle.rules.proofs.Memory.{after_not}
use Rattle.history.proofs.runs.Near.{or_parts}
use Rattle.refusal.specs.Words.{words_past}

-- ---- a test of every number below n, one by one

pub every_none : (p : ℕ → Bool) → every 0 p ≡ true
every_none p = refl

pub every_more : (n : ℕ) (p : ℕ → Bool) → every n p ≡ true → p n ≡ true → every (n + 1) p ≡ true
every_more n p a b = is_true (every (n + 1) p) (every_all (n + 1) p (λ i k. go i k))
  where
    go : (i : ℕ) → i < n + 1 → T (p i)
    go i k = every_at (suc n) p (rw (a, b) tt) i (omega arith)

-- ---- one by one

module _ (words : List ℕ) (i : ℕ) where
  abbrev pub one : ℕ → Bool
  one k = not_after (get_or words 0 0) (get_or words (i + k) 0)

  pub past_none : words_past words i 0 ≡ true
  unfolding words_past
  past_none = every_none one

  pub past_more : (k : ℕ) → words_past words i k ≡ true → one k ≡ true → words_past words i (k + 1) ≡ true
  unfolding words_past
  past_more k a b = every_more k one a b

-- the words as a part of the list
all_past : (words : List ℕ) (i n : ℕ) → i + n ≤ length words → list_all (not_after (get_or words 0 0)) (take n (drop i words)) ≡ words_past words i n
unfolding words_past
all_past words i n h = go n h
  where
    test : ℕ → Bool
    test = not_after (get_or words 0 0)

    go : (k : ℕ) → i + k ≤ length words → list_all test (take k (drop i words)) ≡ every k (one words i)
    go zero l = refl
    go (suc k) l =
        let room : k < length (drop i words) = simp length-drop (omega arith) in
        rw (← add-one k) (list_all_more test (drop i words) k 0 room ∙ ap₂ (λ x y. x && y) (go k (omega arith)) (ap test (get_or-drop i words k 0)))

-- the words from i on as far as j
pub part_past : (words : List ℕ) (i n : ℕ) → i + n ≤ length words → list_all (not_after (get_or words 0 0)) (take (i + n - i) (drop i words)) ≡ words_past words i n
part_past words i n h =
    let e : i + n - i ≡ n = omega arith in
    rw e (all_past words i n h)

-- a part of the words that hold no later tick
pub past_part : (words : List ℕ) (i n j m : ℕ) → words_past words i n ≡ true → j + m ≤ n → words_past words (i + j) m ≡ true
unfolding words_past
past_part words i n j m e h = is_true (every m (one words (i + j))) (every_all m (one words (i + j)) (λ k l. at k l))
  where
    at : (k : ℕ) → k < m → T (one words (i + j) k)
    at k l =
        let z : i + (j + k) ≡ i + j + k = omega arith in
        rw z at (every_at n (one words i) (holds (every n (one words i)) e) (j + k) (omega arith))

-- ---- by or-ed differences

-- a small stored tick that leaves a small difference of the limit is not above it
quick_low : (stored limit : ℕ) → limit < 2 ^ 64 → stored < 2 ^ 63 → (limit + (2 ^ 64 - stored)) % 2 ^ 64 < 2 ^ 63 → stored ≤ limit
quick_low stored limit a b h = omega arith

-- one word more: `all` is the or so far, the limit is the last tick plus one
pub quick_more : (words : List ℕ) (k all : ℕ) → (all < 2 ^ 63 → words_past words 2 k ≡ true) → k < 20
    → let stored = get_or (take 20 (drop 2 words)) k 0 in
    bit_or (bit_or all stored) (((get_or words 0 0 + 1) % 2 ^ 64 + (2 ^ 64 - stored)) % 2 ^ 64) < 2 ^ 63 → words_past words 2 (k + 1) ≡ true
quick_more words k all f below h =
    let last = get_or words 0 0 in
    let stored = get_or (take 20 (drop 2 words)) k 0 in
    let same : stored ≡ get_or words (2 + k) 0 = get_or-take 20 (drop 2 words) k 0 below ∙ get_or-drop 2 words k 0 in
    let o = or_parts (bit_or all stored) _ (2 ^ 63) h in
    let q = or_parts all stored (2 ^ 63) o.0 in
    let most = mod-le (last + 1) (2 ^ 64) in
    let low : stored ≤ last + 1 = omega (arith, quick_low stored ((last + 1) % 2 ^ 64) (omega arith) q.1 o.1) in
    past_more words 2 k (f q.0) (is_true (one words 2 k) (after_not last (get_or words (2 + k) 0) (rw same at low)))
