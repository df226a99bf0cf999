-- Tries, passes, and the passes until one removes none, for any test.
use mathlib.Core.Path.{◌≡◌, refl, sym, ap, ap₂, ◌∙◌, subst}
use mathlib.Core.List.{List, [], ◌∷◌}
use mathlib.Core.Bool.{Bool, true, false, not, ◌&&◌, cond}
use Prim.Native.Nat.{ℕ, zero, suc, ◌+◌, ◌≤◌, ◌<◌}
use native.Mathlib.Omega.{arith}
use native.Mathlib.Decide.{ℕ_discrete, dec_lt}
use lib.Dec.{T}
use lib.ListN.{length, replicate, length-set, get_or-eq_default}
use borrow.Author.Tests.{eq-eqb, ne_eqb}
use Rattle.cut_rules.specs.selections.Selections.{kept, stays, without, tried, tried_from, pass, passes, Repeated, stop, again, cut_down}

-- ---- how many records stay

pub kept_all : (n : ℕ) → kept (replicate n true) ≡ n
kept_all zero = refl
kept_all (suc n) = ap suc (kept_all n)

pub kept_without : (sel : List Bool) (i : ℕ) → T (stays sel i) → kept sel ≡ suc (kept (without sel i))
kept_without [] i t = absurd t
kept_without (true ∷ sel) zero t = refl
kept_without (false ∷ sel) zero t = absurd t
kept_without (true ∷ sel) (suc i) t = ap suc (kept_without sel i t)
kept_without (false ∷ sel) (suc i) t = kept_without sel i t

module _ (differs : List Bool → Bool) where
  -- no single record can be left out
  abbrev pub Tight : List Bool → Type 0
  Tight sel = (i : ℕ) → T (stays sel i) → T (not (differs (without sel i)))

  -- ---- one try: a record is left out, and what is left differs; or nothing changes, and it could not be left out

  try_cases : (P : List Bool → Type 0) (i : ℕ) (sel : List Bool)
      → (T (stays sel i) → T (differs (without sel i)) → P (without sel i))
      → ((T (stays sel i) → T (not (differs (without sel i)))) → P sel)
      → P (tried differs i sel)
  unfolding tried
  try_cases P i sel = go (stays sel i) (differs (without sel i))
    where
      go : (a b : Bool) → (T a → T b → P (without sel i)) → ((T a → T (not b)) → P sel) → P (cond (a && b) (without sel i) sel)
      go true true f g = f tt tt
      go true false f g = g (λ t. tt)
      go false b f g = g (λ t. absurd t)

  try_length : (i : ℕ) (sel : List Bool) → length (tried differs i sel) ≡ length sel
  try_length i sel = try_cases (λ r. length r ≡ length sel) i sel (λ a b. length-set sel i false) (λ n. refl)

  try_kept : (i : ℕ) (sel : List Bool) → kept (tried differs i sel) ≤ kept sel
  try_kept i sel = try_cases (λ r. kept r ≤ kept sel) i sel (λ a b. omega (arith, kept_without sel i a)) (λ n. omega arith)

  try_differs : (i : ℕ) (sel : List Bool) → T (differs sel) → T (differs (tried differs i sel))
  try_differs i sel d = try_cases (λ r. T (differs r)) i sel (λ a b. b) (λ n. d)

  -- a try that removes none changes nothing
  abbrev Unmoved : ℕ → List Bool → List Bool → Type 0
  Unmoved i sel r = kept sel ≤ kept r → (r ≡ sel) × (T (stays sel i) → T (not (differs (without sel i))))

  try_none : (i : ℕ) (sel : List Bool) → Unmoved i sel (tried differs i sel)
  try_none i sel = try_cases (Unmoved i sel) i sel (λ a b k. absurd (omega (arith, kept_without sel i a))) (λ n k. (refl, n))

  -- a try, by what code asks: does the record stay, and do the others differ without it
  pub tried_gone : (i : ℕ) (sel : List Bool) → stays sel i ≡ false → tried differs i sel ≡ sel
  unfolding tried
  tried_gone i sel a = ap (λ b. cond (b && differs (without sel i)) (without sel i) sel) a

  pub tried_out : (i : ℕ) (sel : List Bool) → stays sel i ≡ true → differs (without sel i) ≡ true → tried differs i sel ≡ without sel i
  unfolding tried
  tried_out i sel a d = ap₂ (λ b c. cond (b && c) (without sel i) sel) a d

  pub tried_needed : (i : ℕ) (sel : List Bool) → stays sel i ≡ true → differs (without sel i) ≡ false → tried differs i sel ≡ sel
  unfolding tried
  tried_needed i sel a d = ap₂ (λ b c. cond (b && c) (without sel i) sel) a d

  -- ---- tries of some records

  from_length : (i n : ℕ) (sel : List Bool) → length (tried_from differs i n sel) ≡ length sel
  from_length i zero sel = refl
  from_length i (suc n) sel = from_length (suc i) n (tried differs i sel) ∙ try_length i sel

  from_kept : (i n : ℕ) (sel : List Bool) → kept (tried_from differs i n sel) ≤ kept sel
  from_kept i zero sel = omega arith
  from_kept i (suc n) sel = omega (arith, from_kept (suc i) n (tried differs i sel), try_kept i sel)

  from_differs : (i n : ℕ) (sel : List Bool) → T (differs sel) → T (differs (tried_from differs i n sel))
  from_differs i zero sel d = d
  from_differs i (suc n) sel d = from_differs (suc i) n (tried differs i sel) (try_differs i sel d)

  -- where they remove none, none of their records could be left out
  abbrev Each : ℕ → ℕ → List Bool → Type 0
  Each i n sel = (k : ℕ) → i ≤ k → k < i + n → T (stays sel k) → T (not (differs (without sel k)))

  from_none : (i n : ℕ) (sel : List Bool) → kept sel ≤ kept (tried_from differs i n sel) → (tried_from differs i n sel ≡ sel) × Each i n sel
  from_none i zero sel h = (refl, λ k ik kn. absurd (omega arith))
  from_none i (suc n) sel h =
      go (try_none i sel (omega (arith, from_kept (suc i) n (tried differs i sel)))) (from_none (suc i) n (tried differs i sel) (omega (arith, try_kept i sel)))
    where
      go : (tried differs i sel ≡ sel) × (T (stays sel i) → T (not (differs (without sel i))))
          → (tried_from differs (suc i) n (tried differs i sel) ≡ tried differs i sel) × Each (suc i) n (tried differs i sel)
          → (tried_from differs (suc i) n (tried differs i sel) ≡ sel) × Each i (suc n) sel
      go (same, here) (rest, later) = (rest ∙ same, λ k ik kn. at k ik kn (ℕ_discrete i k))
        where
          at : (k : ℕ) → i ≤ k → k < i + suc n → Dec (i ≡ k) → T (stays sel k) → T (not (differs (without sel k)))
          at k ik kn (yes e) = subst (λ w. T (stays sel w) → T (not (differs (without sel w)))) e here
          at k ik kn (no e) = subst (λ s. T (stays s k) → T (not (differs (without s k)))) same (later k (omega arith) (omega arith))

  -- one record more at the end
  pub from_more : (i n : ℕ) (sel : List Bool) → tried_from differs i (suc n) sel ≡ tried differs (i + n) (tried_from differs i n sel)
  from_more i zero sel = let e : i ≡ i + zero = omega arith in ap (λ k. tried differs k sel) e
  from_more i (suc n) sel =
      let e : suc i + n ≡ i + suc n = omega arith in
      from_more (suc i) n (tried differs i sel) ∙ ap (λ k. tried differs k (tried_from differs (suc i) n (tried differs i sel))) e

  -- ---- a pass

  pub pass_length : (sel : List Bool) → length (pass differs sel) ≡ length sel
  unfolding pass
  pass_length sel = from_length 0 (length sel) sel

  pub pass_kept : (sel : List Bool) → kept (pass differs sel) ≤ kept sel
  unfolding pass
  pass_kept sel = from_kept 0 (length sel) sel

  pub pass_differs : (sel : List Bool) → T (differs sel) → T (differs (pass differs sel))
  unfolding pass
  pass_differs sel d = from_differs 0 (length sel) sel d

  -- one that removes none changes nothing, and no record could be left out
  pub pass_none : (sel : List Bool) → kept sel ≤ kept (pass differs sel) → (pass differs sel ≡ sel) × Tight sel
  unfolding pass
  pass_none sel h = go (from_none 0 (length sel) sel h)
    where
      go : (tried_from differs 0 (length sel) sel ≡ sel) × Each 0 (length sel) sel → (tried_from differs 0 (length sel) sel ≡ sel) × Tight sel
      go (same, each) = (same, λ k. at k (dec_lt k (length sel)))
        where
          at : (k : ℕ) → Dec (k < length sel) → T (stays sel k) → T (not (differs (without sel k)))
          at k (yes l) t = each k (omega arith) (omega arith) t
          at k (no l) t = let z : length sel ≤ k = omega arith in absurd (subst T (get_or-eq_default sel false z) t)

  -- and one that changes something removes a record
  pub pass_less : (sel : List Bool) → (pass differs sel ≡ sel → ⊥) → kept (pass differs sel) < kept sel
  pass_less sel ne = go (dec_lt (kept (pass differs sel)) (kept sel))
    where
      go : Dec (kept (pass differs sel) < kept sel) → kept (pass differs sel) < kept sel
      go (yes l) = l
      go (no l) = absurd (ne (pass_none sel (omega arith)).0)

  -- ---- the passes

  passes_stop : (n : ℕ) (sel : List Bool) → kept (pass differs sel) ≡ kept sel → passes differs n sel ≡ sel
  passes_stop zero sel e = refl
  passes_stop (suc n) sel e = ap (λ b. cond b sel (passes differs n (pass differs sel))) (eq-eqb (kept (pass differs sel)) (kept sel) e)

  passes_again : (n : ℕ) (sel : List Bool) → kept (pass differs sel) < kept sel → passes differs (suc n) sel ≡ passes differs n (pass differs sel)
  passes_again n sel l = ap (λ b. cond b sel (passes differs n (pass differs sel))) (ne_eqb (kept (pass differs sel)) (kept sel) (λ e. omega arith))

  -- a pass removes none, or it removes a record
  pass_cases : {P : Type 0} (sel : List Bool) → (kept (pass differs sel) ≡ kept sel → P) → (kept (pass differs sel) < kept sel → P) → P
  pass_cases {P = P} sel f g = go (ℕ_discrete (kept (pass differs sel)) (kept sel))
    where
      go : Dec (kept (pass differs sel) ≡ kept sel) → P
      go (yes e) = f e
      go (no e) = g (omega (arith, pass_kept sel))

  -- what a pass keeps, the passes keep
  pub passes_keep : (P : List Bool → Type 0) → ((sel : List Bool) → P sel → P (pass differs sel)) → (n : ℕ) (sel : List Bool) → P sel → P (passes differs n sel)
  passes_keep P f zero sel p = p
  passes_keep P f (suc n) sel p =
      let ih = passes_keep P f n (pass differs sel) (f sel p) in
      pass_cases sel (λ e. subst P (sym (passes_stop (suc n) sel e)) p) (λ l. subst P (sym (passes_again n sel l)) ih)

  -- As many passes as records stay are enough: they end, each of them has removed a record.
  abbrev pub Ended : List Bool → List Bool → Type 0
  Ended sel r = (k : ℕ) × (k + kept r ≤ kept sel) × Repeated differs k sel r

  pub ended : (n : ℕ) (sel : List Bool) → kept sel ≤ n → Ended sel (passes differs n sel)
  ended zero sel h = (0, omega arith, stop {sel = sel} (omega (arith, pass_kept sel)))
  ended (suc n) sel h =
      pass_cases sel
      (λ e. subst (Ended sel) (sym (passes_stop (suc n) sel e)) (0, omega arith, stop {sel = sel} e))
      (λ l. subst (Ended sel) (sym (passes_again n sel l)) (further l (ended n (pass differs sel) (omega arith))))
    where
      further : kept (pass differs sel) < kept sel → Ended (pass differs sel) (passes differs n (pass differs sel)) → Ended sel (passes differs n (pass differs sel))
      further l (k, few, r) = (suc k, omega arith, again l r)

  -- and passes that end give their result for every bound that is not below their number
  pub repeated_passes : {k : ℕ} {sel r : List Bool} → Repeated differs k sel r → (m : ℕ) → k ≤ m → passes differs m sel ≡ r
  repeated_passes (stop {sel = sel} e) m h = passes_stop m sel e
  repeated_passes (again l r) zero h = absurd (omega arith)
  repeated_passes (again {sel = sel} l r) (suc m) h = passes_again m sel l ∙ repeated_passes r m (omega arith)

  pub repeated_few : {k : ℕ} {sel r : List Bool} → Repeated differs k sel r → k ≤ kept sel
  repeated_few (stop e) = omega arith
  repeated_few (again l r) = let ih = repeated_few r in omega arith

  -- where they end, a pass removes none
  pub repeated_rest : {k : ℕ} {sel r : List Bool} → Repeated differs k sel r → kept (pass differs r) ≡ kept r
  repeated_rest (stop e) = e
  repeated_rest (again l r) = repeated_rest r

  -- two bounds that are enough
  pub enough : (n m : ℕ) (sel : List Bool) → kept sel ≤ n → kept sel ≤ m → passes differs m sel ≡ passes differs n sel
  enough n m sel a b = let t = ended n sel a in repeated_passes t.2 m (omega (arith, repeated_few t.2))

-- ---- for a loop over passes

module _ (differs : List Bool → Bool) (n : ℕ) where
  -- the passes from a selection on come to the result
  abbrev pub Settles : List Bool → Type 0
  Settles sel = (k : ℕ) → kept sel ≤ k → passes differs k sel ≡ cut_down differs n

  pub settles_start : Settles (replicate n true)
  unfolding cut_down
  settles_start k h = enough differs n k (replicate n true) (omega (arith, kept_all n)) h

  pub settles_more : (sel : List Bool) → Settles sel → (pass differs sel ≡ sel → ⊥) → Settles (pass differs sel)
  settles_more sel s ne k h =
      let l = pass_less differs sel ne in
      enough differs (k + kept sel) k (pass differs sel) (omega arith) h ∙ sym (passes_again differs (k + kept sel) sel l) ∙ s (suc (k + kept sel)) (omega arith)

  pub settles_end : (sel : List Bool) → Settles sel → pass differs sel ≡ sel → sel ≡ cut_down differs n
  settles_end sel s e = sym (passes_stop differs (kept sel) sel (ap kept e)) ∙ s (kept sel) (omega arith)
