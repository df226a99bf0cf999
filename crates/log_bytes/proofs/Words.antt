-- A number's bytes, copied from a block, and read by the library.
use mathlib.Core.Path.{◌≡◌, refl, ◌∙◌}
use mathlib.Core.List.{List}
use Prim.Native.Nat.{ℕ, zero, suc, ◌+◌, ◌-◌, ◌≤◌}
use native.Mathlib.Omega.{arith}
use lib.ListN.{get_or, take, drop}
use Rattle.std.specs.Int.{w16, w32, w64, from_le_bytes}
use Rattle.std.proofs.lemmas.List.{get_or-take, get_or-drop}
use Rattle.log_format.specs.Bytes.{little}

-- the number in a part is that of the list
little_part : (s u : List ℕ) (k n j m : ℕ) → u ≡ take n (drop k s) → j + m ≤ n → little u j m ≡ little s (k + j) m
unfolding little
little_part s u k n j zero e h = refl
little_part s u k n j (suc m) e h =
    let b : get_or u j 0 ≡ get_or s (k + j) 0 = rw (e, get_or-take n (drop k s) j 0 (omega arith)) (get_or-drop k s j 0) in
    let z : k + suc j ≡ suc (k + j) = omega arith in
    rw (b, little_part s u k n (suc j) m e (omega arith), z)

-- the part of n bytes from place k on, as the code cuts it
pub little_cut : (s u : List ℕ) (k n : ℕ) → u ≡ take (k + n - k) (drop k s) → little u 0 n ≡ little s k n
little_cut s u k n e =
    let z : k + 0 ≡ k = omega arith in
    little_part s u k (k + n - k) 0 n e (omega arith) ∙ rw z

pub read_2 : (u : List ℕ) → from_le_bytes w16 u ≡ little u 0 2
unfolding little
read_2 u = omega arith

pub read_4 : (u : List ℕ) → from_le_bytes w32 u ≡ little u 0 4
unfolding little
read_4 u = omega arith

pub read_8 : (u : List ℕ) → from_le_bytes w64 u ≡ little u 0 8
unfolding little
read_8 u = omega arith
