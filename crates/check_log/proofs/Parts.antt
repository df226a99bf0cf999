-- Bytes that were put together of whole blocks, and a rest.
use Prim.Native.Nat.{ℕ, suc, ◌+◌, ◌*◌, ◌/◌, ◌%◌, ◌<◌}
use mathlib.Core.Path.{◌≡◌, refl, ap₂, ◌∙◌, subst}
use mathlib.Core.List.{List, [], ◌∷◌, ◌++◌, append_assoc}
use native.Mathlib.Omega.{arith}
use lib.Dec.{eqb}
use lib.ListN.{length, length-append}
use lib.Seq.{take_at, drop_at}
use Rattle.rules.specs.Policy.{limits01, narrow}
use Rattle.log_format.specs.Bytes.{block_at, blocks_from}
use Rattle.log_format.specs.Verdict.{judge_blocks, unread, verdict}

-- every block is whole
abbrev pub Whole : List (List ℕ) → Type 0
Whole [] = Unit {0}
Whole (s ∷ ss) = (length s ≡ 512) × Whole ss

-- the bytes of the blocks, and then the rest
abbrev pub joined : List (List ℕ) → List ℕ → List ℕ
joined [] t = t
joined (s ∷ ss) t = s ++ joined ss t

length_joined : (ss : List (List ℕ)) (t : List ℕ) → Whole ss → length (joined ss t) ≡ 512 * length ss + length t
length_joined [] t w = omega arith
length_joined (s ∷ ss) t w =
    let e = length_joined ss t w.1 in
    let h = w.0 in
    length-append s (joined ss t) ∙ omega arith

-- behind so many bytes stand these blocks
blocks_behind : (b : ℕ) (front : List ℕ) (ss : List (List ℕ)) (t : List ℕ) → length front ≡ 512 * b → Whole ss → blocks_from (front ++ joined ss t) b (length ss) ≡ ss
unfolding block_at
blocks_behind b front [] t e w = refl
blocks_behind b front (s ∷ ss) t e w =
    let h = w.0 in
    let f : length (front ++ s) ≡ 512 * suc b = length-append front s ∙ omega arith in
    ap₂ (λ (x : List ℕ) (xs : List (List ℕ)). x ∷ xs)
    (rw (drop_at front (s ++ joined ss t) (512 * b) e) (take_at s (joined ss t) 512 h))
    (subst (λ (x : List ℕ). blocks_from x (suc b) (length ss) ≡ ss) (append_assoc front s (joined ss t)) (blocks_behind (suc b) (front ++ s) ss t f w.1))

pub whole_more : (ss : List (List ℕ)) (s : List ℕ) → Whole ss → length s ≡ 512 → Whole (ss ++ (s ∷ []))
whole_more [] s w e = (e, tt)
whole_more (x ∷ ss) s w e = (w.0, whole_more ss s w.1 e)

-- the verdict of whole blocks and a rest shorter than a block
pub verdict_joined : (ss : List (List ℕ)) (t : List ℕ) → Whole ss → length t < 512
    → verdict narrow (joined ss t) ≡ judge_blocks narrow (unread limits01) ss (eqb (length t) 0)
unfolding verdict
verdict_joined ss t w h =
    let e = length_joined ss t w in
    let d : length (joined ss t) / 512 ≡ length ss = omega arith in
    let m : length (joined ss t) % 512 ≡ length t = omega arith in
    rw (d, m, blocks_behind 0 [] ss t refl w)
