-- A text that grows at its end: a line part by part.
use Prim.Native.Nat.{ℕ}
use mathlib.Core.Path.{◌≡◌, ◌∙◌}
use mathlib.Core.List.{List, [], ◌∷◌, ◌++◌, append_assoc}
use Rattle.report.specs.Bytes.{bytes}
use Rattle.report.specs.Lines.{decimal_of, line_of, line_of_two}

-- t0 is the text before the line, and each further one has a part more
pub line_law : (word : List ℕ) (n : ℕ) (t0 t1 t2 t3 : List ℕ) → t1 ≡ t0 ++ word → t2 ≡ t1 ++ decimal_of n → t3 ≡ t2 ++ bytes "\n" → t3 ≡ t0 ++ line_of word n
unfolding line_of
line_law word n t0 t1 t2 t3 e1 e2 e3 =
    let d = decimal_of n in
    e3 ∙ rw (e2, e1) (append_assoc (t0 ++ word) d (10 ∷ []) ∙ append_assoc t0 word (d ++ (10 ∷ [])))

pub two_law : (word : List ℕ) (m n : ℕ) (t0 t1 t2 t3 t4 t5 : List ℕ) → t1 ≡ t0 ++ word → t2 ≡ t1 ++ decimal_of m → t3 ≡ t2 ++ bytes " " → t4 ≡ t3 ++ decimal_of n → t5 ≡ t4 ++ bytes "\n"
    → t5 ≡ t0 ++ line_of_two word m n
unfolding line_of_two
two_law word m n t0 t1 t2 t3 t4 t5 e1 e2 e3 e4 e5 =
    let a = decimal_of m in
    let b = decimal_of n in
    e5 ∙ rw (e4, e3, e2, e1)
    (append_assoc (((t0 ++ word) ++ a) ++ (32 ∷ [])) b (10 ∷ [])
    ∙ append_assoc ((t0 ++ word) ++ a) (32 ∷ []) (b ++ (10 ∷ []))
    ∙ append_assoc (t0 ++ word) a ((32 ∷ []) ++ (b ++ (10 ∷ [])))
    ∙ append_assoc t0 word (a ++ ((32 ∷ []) ++ (b ++ (10 ∷ [])))))
