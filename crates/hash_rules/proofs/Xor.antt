-- Exclusive or is associative, so that its operands can be regrouped (its other laws are in lib.Bits).
use Prim.Native.Nat.{ℕ, zero, suc, ◌/◌, ◌%◌, ◌<◌}
use mathlib.Core.Path.{◌≡◌, refl, sym, ap, ◌∙◌}
use native.Mathlib.Omega.{arith}
use lib.Arith.{bin_ind}
use lib.Bits.{bit_xor, differ, xor_step, xor_shr, xor_comm}

-- of two binary digits
differ_assoc : (x y z : ℕ) → x < 2 → y < 2 → z < 2 → differ (differ x y) z ≡ differ x (differ y z)
differ_assoc zero y z p q r = refl
differ_assoc (suc zero) zero z p q r = refl
differ_assoc (suc zero) (suc zero) zero p q r = refl
differ_assoc (suc zero) (suc zero) (suc zero) p q r = refl
differ_assoc (suc zero) (suc zero) (suc (suc z)) p q r = absurd (omega arith)
differ_assoc (suc zero) (suc (suc y)) z p q r = absurd (omega arith)
differ_assoc (suc (suc x)) y z p q r = absurd (omega arith)

differ_lt : (x y : ℕ) → x < 2 → y < 2 → differ x y < 2
differ_lt zero y p q = q
differ_lt (suc x) zero p q = p
differ_lt (suc zero) (suc zero) p q = omega arith
differ_lt (suc zero) (suc (suc y)) p q = absurd (omega arith)
differ_lt (suc (suc x)) (suc y) p q = absurd (omega arith)

odd : (a b : ℕ) → bit_xor a b % 2 ≡ differ (a % 2) (b % 2)
odd a b =
    let d = differ_lt (a % 2) (b % 2) (omega arith) (omega arith) in
    rw (xor_step a b) (omega arith)

-- the lowest digits apart, the rest by halves
by_halves : (n b c : ℕ) → bit_xor (bit_xor (n / 2) (b / 2)) (c / 2) ≡ bit_xor (n / 2) (bit_xor (b / 2) (c / 2)) → bit_xor (bit_xor n b) c ≡ bit_xor n (bit_xor b c)
by_halves n b c ih =
    xor_step (bit_xor n b) c
    ∙ rw (xor_shr n b 1, odd n b, ih, differ_assoc (n % 2) (b % 2) (c % 2) (omega arith) (omega arith) (omega arith), ← xor_shr b c 1, ← odd b c) refl
    ∙ sym (xor_step n (bit_xor b c))

pub xor_assoc : (a b c : ℕ) → bit_xor (bit_xor a b) c ≡ bit_xor a (bit_xor b c)
xor_assoc a = bin_ind (λ (n : ℕ). (b c : ℕ) → bit_xor (bit_xor n b) c ≡ bit_xor n (bit_xor b c)) (λ b c. refl) (λ n ih b c. by_halves n b c (ih (b / 2) (c / 2))) a

-- the two in the middle exchanged
pub xor_swap : (a b c d : ℕ) → bit_xor (bit_xor a b) (bit_xor c d) ≡ bit_xor (bit_xor a c) (bit_xor b d)
xor_swap a b c d =
    xor_assoc a b (bit_xor c d)
    ∙ ap (bit_xor a) (sym (xor_assoc b c d) ∙ ap (λ x. bit_xor x d) (xor_comm b c) ∙ xor_assoc c b d)
    ∙ sym (xor_assoc a c (bit_xor b d))

-- four at once, or one by one
pub xor_four : (h a b c d : ℕ) → bit_xor h (bit_xor (bit_xor (bit_xor a b) c) d) ≡ bit_xor (bit_xor (bit_xor (bit_xor h a) b) c) d
xor_four h a b c d =
    sym (xor_assoc h (bit_xor (bit_xor a b) c) d)
    ∙ ap (λ x. bit_xor x d) (sym (xor_assoc h (bit_xor a b) c) ∙ ap (λ x. bit_xor x c) (sym (xor_assoc h a b)))
