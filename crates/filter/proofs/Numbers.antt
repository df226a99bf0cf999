-- Counters as the numbers that they hold: a counter that is read, and four that are stored.
use Rattle.std.proofs.Common.{◌≡◌, ℕ, ◌<◌, List, map, length, get_or, sym, ap, ◌∙◌}
use Rattle.std.proofs.Math.ListN.{set}
use Rattle.std.proofs.lemmas.List.{map-set, get_or-map}

module _ {A : Type 0} (value : A → ℕ) where
  pub number_read : (cs : List A) (i : ℕ) (c : A) → i < length cs → c ≡ get_or cs i c → value c ≡ get_or (map value cs) i 0
  number_read cs i c h e = ap value e ∙ sym (get_or-map value cs i c 0 h)

  pub numbers_stored : (cs : List A) (a0 a1 a2 a3 : ℕ) (v0 v1 v2 v3 : A)
      → map value (set (set (set (set cs a3 v3) a2 v2) a1 v1) a0 v0)
      ≡ set (set (set (set (map value cs) a3 (value v3)) a2 (value v2)) a1 (value v1)) a0 (value v0)
  numbers_stored cs a0 a1 a2 a3 v0 v1 v2 v3 = simp map-set
