-- Small cases, computed by the definitions.
use Rattle.std.specs.Prelude.{◌≡◌, List, [], ◌∷◌, Bool, true, false, not, ◌&&◌, ◌||◌, ℕ}
use Rattle.cut_rules.specs.selections.Selections.{stays, chosen, pass, cut_down, word, bits}

-- Record 2 differs; record 1 is refused without record 0, and such a selection counts as not differing. (An opened request, its done, a wrong answer.)
abbrev done_of_opened : List Bool → Bool
done_of_opened sel = stays sel 2 && (not (stays sel 1) || stays sel 0)

-- one of the first two records is enough
abbrev either : List Bool → Bool
either sel = stays sel 0 || stays sel 1

-- records 0 and 2 together, or one of them without record 1
abbrev ends : List Bool → Bool
ends sel = stays sel 0 && stays sel 2 || not (stays sel 1) && (stays sel 0 || stays sel 2)

-- records 1 and 2, or record 0 alone
abbrev two_or_one : List Bool → Bool
two_or_one sel = stays sel 1 && stays sel 2 || stays sel 0 && not (stays sel 1 || stays sel 2)

pub record Cases : Type 0 where
  -- a second pass leaves out what the first could not, and a third removes none: one pass only would give records 0 and 2
  pub first_pass : pass done_of_opened (true ∷ true ∷ true ∷ []) ≡ true ∷ false ∷ true ∷ []
  pub second_pass : pass done_of_opened (true ∷ false ∷ true ∷ []) ≡ false ∷ false ∷ true ∷ []
  pub third_pass : pass done_of_opened (false ∷ false ∷ true ∷ []) ≡ false ∷ false ∷ true ∷ []
  pub result : cut_down done_of_opened 3 ≡ false ∷ false ∷ true ∷ []
  pub answer : word (cut_down done_of_opened 3) ≡ 4
  -- last to first would give record 0, and tries of each record against all others neither
  pub first_to_last : cut_down either 2 ≡ false ∷ true ∷ []
  -- a pass that started again after each removal would give record 2
  pub whole_pass : cut_down ends 3 ≡ true ∷ false ∷ false ∷ []
  -- record 0 alone differs as well
  pub not_fewest : cut_down two_or_one 3 ≡ false ∷ true ∷ true ∷ []
  pub fewest : two_or_one (true ∷ false ∷ false ∷ []) ≡ true
  -- nothing can be left out; everything can
  pub all_stay : cut_down (λ sel. false) 2 ≡ true ∷ true ∷ []
  pub none_stays : cut_down (λ sel. true) 1 ≡ false ∷ []
  -- the lowest bit is record 0
  pub selected : bits 3 6 ≡ false ∷ true ∷ true ∷ []
  pub records : chosen {A = ℕ} (bits 3 6) (5 ∷ 9 ∷ 7 ∷ []) ≡ 9 ∷ 7 ∷ []
