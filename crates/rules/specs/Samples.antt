-- The settings of document 01's cases and of the published numbers of BlockHammer, and the house seeds. The cases are those of `samples::cases`.
use Rattle.std.specs.Prelude.{List, [], ◌∷◌, ◌++◌, ℕ, zero, suc, ◌+◌, ◌*◌, ◌%◌}
use Rattle.rules.specs.declared.Setting.{Setting}
use Rattle.rules.specs.Setting.{setting_of}

-- "House seeds: function f, bit i: (37(i+1)² + 211f + 89if) mod 1,024."
abbrev pub house_seed : ℕ → ℕ → ℕ
house_seed f i = (37 * ((i + 1) * (i + 1)) + 211 * f + 89 * i * f) % 1024

abbrev pub house_from : ℕ → ℕ → ℕ → List ℕ
house_from f i zero = []
house_from f i (suc n) = house_seed f i ∷ house_from f (suc i) n

unfoldable pub house : List ℕ
house = house_from 0 0 16 ++ (house_from 1 0 16 ++ (house_from 2 0 16 ++ house_from 3 0 16))

-- "Setting S: W 40, tRC 1, tFAW 4, N 2, tD 6, L 10, Q 4, 1 bank, 1 thread.", with any L and Q
abbrev pub setting_s : ℕ → ℕ → Setting
setting_s l q = setting_of (40 ∷ 1 ∷ 4 ∷ 2 ∷ 6 ∷ l ∷ q ∷ 1 ∷ 1 ∷ 0 ∷ [])

abbrev pub S : Setting
S = setting_s 10 4

-- BlockHammer's Table 1: 64 ms, 46.25 ns and 35 ns in quarter nanoseconds; 16 banks, 8 threads; Q is ours
abbrev pub table_one : ℕ → ℕ → ℕ → Setting
table_one n td l = setting_of (256000000 ∷ 185 ∷ 140 ∷ n ∷ td ∷ l ∷ 64 ∷ 16 ∷ 8 ∷ 0 ∷ [])
