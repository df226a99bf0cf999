-- A part of a list that is written over, as stores one after another.
use mathlib.Core.Path.{◌≡◌, sym, ap, ◌∙◌}
use mathlib.Core.List.{List}
use Prim.Native.Nat.{ℕ, ◌+◌, ◌≤◌}
use native.Mathlib.Omega.{arith}
use lib.ListN.{length, take, drop}
use lib.Seq.{sets}
use borrow.Rule.Slice.PartMut.{mid_of, put_mid}
use Rattle.std.proofs.Common.{append_assoc}
use Rattle.std.proofs.lemmas.List.{append-nil, drop_all, drop-drop, length-drop, length-take-le}
use Rattle.std.proofs.lemmas.List.Edits.{sets-eq}

pub part_long : (l : List ℕ) (a k : ℕ) → a + k ≤ length l → length (mid_of a k l) ≡ k
part_long l a k h = length-take-le k (drop a l) (omega (arith, length-drop a l))

-- stores over a whole list
sets_all : (l vs : List ℕ) → length vs ≡ length l → sets l 0 vs ≡ vs
sets_all l vs e =
    let z : 0 + length vs ≡ length vs = omega arith in
    sets-eq vs l 0 (omega arith) ∙ rw (z, drop_all (length vs) l (omega arith)) (append-nil vs)

-- a part with other elements in its place
pub put_part : (l vs : List ℕ) (a k : ℕ) → k ≡ length vs → a + k ≤ length l → put_mid a k l vs ≡ sets l a vs
put_part l vs a k e h =
    let t : a + length vs ≤ length l = omega arith in
    rw (drop-drop k a l, e) (sym (append_assoc (take a l) vs (drop (a + length vs) l)) ∙ sym (sets-eq vs l a t))

-- stores over a part
pub put_sets : (l vs : List ℕ) (a k : ℕ) → k ≡ length vs → a + k ≤ length l → put_mid a k l (sets (mid_of a k l) 0 vs) ≡ sets l a vs
put_sets l vs a k e h =
    let m = part_long l a k h in
    ap (λ (ys : List ℕ). put_mid a k l ys) (sets_all (mid_of a k l) vs (omega arith)) ∙ put_part l vs a k e h
