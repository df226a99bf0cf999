-- The blocks of a log in order: none is refused exactly where the log is well-formed and its setting accepted.
use mathlib.Core.Path.{◌≡◌, refl, sym, ap, ◌∙◌}
use mathlib.Core.List.{List, [], ◌∷◌}
use mathlib.Core.Bool.{Bool, true, false, ◌&&◌, cond}
use Prim.Native.Nat.{ℕ, zero, suc, ◌+◌, ◌-◌, ◌/◌, ◌%◌, ◌≤◌, ◌<◌}
use native.Mathlib.Omega.{arith}
use native.Mathlib.Decide.{ℕ_discrete}
use native.Mathlib.Numerals.{add-one}
use lib.Dec.{T, leb, eqb, eqb→eq}
use lib.ListN.{length}
use borrow.Author.Tests.{eq-eqb, ne_eqb, le-leb}
use Rattle.rules.specs.declared.Limits.{Limits}
use Rattle.rules.specs.Answers.{none, refusal_number}
use Rattle.rules.specs.Setting.{setting_refusal, known}
use Rattle.rules.proofs.Accept.{number_none}
use Rattle.rules.proofs.Tests.{and_l, and_r, holds}
use Rattle.log_format.specs.Bytes.{little, zeros, block_at, blocks_from}
use Rattle.log_format.specs.Refusals.{LogRefusal, model, cut, sound, log_refusal_number}
use Rattle.log_format.specs.Contents.{count_in, mark_in}
use Rattle.log_format.specs.Blocks.{start_laid_out, laid_out, block_refusal}
use Rattle.log_format.specs.Claims.{setting_of_log, seeds_of_log, later_of, SoundFrom, WellFormed}
use Rattle.log_format.proofs.Judged.{number_sound}
use Rattle.log_format.proofs.Steps.{sound_laid_out}
use Rattle.cut_rules.specs.Cut.{first, setting_at, blocks_refusal, log_refusal}

-- ---- the first of two refusals

pub first_here : (a b : LogRefusal) → (log_refusal_number a ≡ 0 → ⊥) → first a b ≡ a
first_here a b n = rw (ne_eqb (log_refusal_number a) 0 n)

pub first_next : (a b : LogRefusal) → log_refusal_number a ≡ 0 → first a b ≡ b
first_next a b e = rw (eq-eqb (log_refusal_number a) 0 e)

pub first_none : (a b : LogRefusal) → log_refusal_number (first a b) ≡ 0 → (log_refusal_number a ≡ 0) × (log_refusal_number b ≡ 0)
first_none a b h = go (ℕ_discrete (log_refusal_number a) 0)
  where
    go : Dec (log_refusal_number a ≡ 0) → (log_refusal_number a ≡ 0) × (log_refusal_number b ≡ 0)
    go (yes e) = (e, ap log_refusal_number (sym (first_next a b e)) ∙ h)
    go (no n) = absurd (n (ap log_refusal_number (sym (first_here a b n)) ∙ h))

-- ---- for a loop over blocks: the next block

module _ (m : Limits) where
  pub blocks_next : (bytes : List ℕ) (b before n : ℕ) (whole : Bool) → 0 < n
      → blocks_refusal m b before (blocks_from bytes b n) whole
      ≡ first (block_refusal (block_at bytes b) b before) (first (setting_at m (block_at bytes b) b) (blocks_refusal m (b + 1) (count_in (block_at bytes b)) (blocks_from bytes (b + 1) (n - 1)) whole))
  unfolding blocks_refusal
  blocks_next bytes b before zero whole h = absurd (omega arith)
  blocks_next bytes b before (suc n) whole h =
      let e : suc n - 1 ≡ n = omega arith in
      simp (add-one b, e)

  -- a later block that is sound, and one that is not
  pub later_next : (bytes : List ℕ) (b before n : ℕ) (whole : Bool) → 0 < n → 1 ≤ b → log_refusal_number (block_refusal (block_at bytes b) b before) ≡ 0
      → blocks_refusal m b before (blocks_from bytes b n) whole ≡ blocks_refusal m (b + 1) (count_in (block_at bytes b)) (blocks_from bytes (b + 1) (n - 1)) whole
  later_next bytes b before n whole h l e =
      let z : b ≡ 0 → ⊥ = λ k. omega arith in
      blocks_next bytes b before n whole h ∙ first_next (block_refusal (block_at bytes b) b before) _ e ∙ rw (ne_eqb b 0 z)

  pub later_here : (bytes : List ℕ) (b before n : ℕ) (whole : Bool) → 0 < n → (log_refusal_number (block_refusal (block_at bytes b) b before) ≡ 0 → ⊥)
      → blocks_refusal m b before (blocks_from bytes b n) whole ≡ block_refusal (block_at bytes b) b before
  later_here bytes b before n whole h e = blocks_next bytes b before n whole h ∙ first_here (block_refusal (block_at bytes b) b before) _ e

  -- where they end
  pub end_whole : (b before : ℕ) → 1 ≤ b → blocks_refusal m b before [] true ≡ sound
  unfolding blocks_refusal
  end_whole b before h = rw (le-leb 1 b h)

  pub end_cut : (b before : ℕ) → blocks_refusal m b before [] false ≡ cut
  unfolding blocks_refusal
  end_cut b before = refl

  -- ---- later blocks

  pub later_sound : (b before : ℕ) (ss : List (List ℕ)) → 1 ≤ b → log_refusal_number (blocks_refusal m b before ss true) ≡ 0 → SoundFrom b before ss
  unfolding blocks_refusal
  later_sound b before [] h e = tt
  later_sound b before (s ∷ ss) h e =
      let f = first_none (block_refusal s b before) _ e in
      (number_sound (block_refusal s b before) f.0, later_sound (b + 1) (count_in s) ss (omega arith) (first_none (setting_at m s b) _ f.1).1)

  pub sound_later : (b before : ℕ) (ss : List (List ℕ)) → 1 ≤ b → SoundFrom b before ss → blocks_refusal m b before ss true ≡ sound
  unfolding blocks_refusal
  sound_later b before [] h ok = rw (le-leb 1 b h)
  sound_later b before (s ∷ ss) h ok =
      let n : b ≡ 0 → ⊥ = λ z. omega arith in
      rw (ok.0, ne_eqb b 0 n) (sound_later (b + 1) (count_in s) ss (omega arith) ok.1)

  -- a log that ends within a block is refused
  never_cut : (b before : ℕ) (ss : List (List ℕ)) → log_refusal_number (blocks_refusal m b before ss false) ≡ 0 → ⊥
  unfolding blocks_refusal
  never_cut b before [] e = omega arith
  never_cut b before (s ∷ ss) e = never_cut (b + 1) (count_in s) ss (first_none (setting_at m s b) _ (first_none (block_refusal s b before) _ e).1).1

-- ---- the whole log

-- block 0 has no records
pub start_count : (s : List ℕ) → log_refusal_number (block_refusal s 0 0) ≡ 0 → count_in s ≡ 0
unfolding laid_out start_laid_out
start_count s e =
    let t : T (laid_out s 0 0) = holds (laid_out s 0 0) (sound_laid_out s 0 0 e) in
    eqb→eq (count_in s) 0
    (and_l (eqb (count_in s) 0) (known (mark_in s))
    (and_l (eqb (count_in s) 0 && known (mark_in s)) (zeros s 173 335) (and_r (eqb (little s 0 4) 0 && zeros s 5 3) (eqb (count_in s) 0 && known (mark_in s) && zeros s 173 335) t)))

module _ (m : Limits) (bytes : List ℕ) where
  abbrev whole : Bool
  whole = eqb (length bytes % 512) 0

  -- block 0, its setting and the later blocks
  pub log_refusal_lem : 1 ≤ length bytes / 512
      → log_refusal m bytes
      ≡ first (block_refusal (block_at bytes 0) 0 0)
      (first (model (setting_refusal m (setting_of_log bytes) (seeds_of_log bytes))) (blocks_refusal m 1 (count_in (block_at bytes 0)) (later_of bytes) whole))
  unfolding log_refusal
  log_refusal_lem h = blocks_next m bytes 0 0 (length bytes / 512) whole h

  -- an empty one, or one that ends within block 0
  pub no_block : length bytes / 512 ≡ 0 → log_refusal m bytes ≡ cut
  unfolding log_refusal blocks_refusal
  no_block e = rw e (go whole)
    where
      go : (b : Bool) → cond (b && leb 1 0) sound cut ≡ cut
      go true = refl
      go false = refl

  pub refused_not : log_refusal_number (log_refusal m bytes) ≡ 0 → WellFormed bytes × (setting_refusal m (setting_of_log bytes) (seeds_of_log bytes) ≡ none)
  refused_not e = go (ℕ_discrete (length bytes / 512) 0)
    where
      go : Dec (length bytes / 512 ≡ 0) → WellFormed bytes × (setting_refusal m (setting_of_log bytes) (seeds_of_log bytes) ≡ none)
      go (yes z) = let k : ◌≡◌ {A = ℕ} 11 0 = ap log_refusal_number (sym (no_block z)) ∙ e in absurd (omega arith)
      go (no n) =
          let some : 1 ≤ length bytes / 512 = omega arith in
          let f = first_none (block_refusal (block_at bytes 0) 0 0) _ (ap log_refusal_number (sym (log_refusal_lem some)) ∙ e) in
          let g = first_none (model (setting_refusal m (setting_of_log bytes) (seeds_of_log bytes))) _ f.1 in
          by_whole some f.0 (number_none (setting_refusal m (setting_of_log bytes) (seeds_of_log bytes)) g.0) g.1 (ℕ_discrete (length bytes % 512) 0)
        where
          by_whole : 1 ≤ length bytes / 512 → log_refusal_number (block_refusal (block_at bytes 0) 0 0) ≡ 0 → setting_refusal m (setting_of_log bytes) (seeds_of_log bytes) ≡ none
              → log_refusal_number (blocks_refusal m 1 (count_in (block_at bytes 0)) (later_of bytes) whole) ≡ 0 → Dec (length bytes % 512 ≡ 0)
              → WellFormed bytes × (setting_refusal m (setting_of_log bytes) (seeds_of_log bytes) ≡ none)
          by_whole some start ok later (yes z) =
              let l : log_refusal_number (blocks_refusal m 1 0 (later_of bytes) true) ≡ 0 = rw (start_count (block_at bytes 0) start, eq-eqb (length bytes % 512) 0 z) at later in
              (record { whole = z; some = some; start = number_sound (block_refusal (block_at bytes 0) 0 0) start; later = later_sound m 1 0 (later_of bytes) (omega arith) l }, ok)
          by_whole some start ok later (no z) =
              absurd (never_cut m 1 (count_in (block_at bytes 0)) (later_of bytes) (rw (ne_eqb (length bytes % 512) 0 z) at later))

  pub not_refused : WellFormed bytes → setting_refusal m (setting_of_log bytes) (seeds_of_log bytes) ≡ none → log_refusal m bytes ≡ sound
  not_refused w ok =
      log_refusal_lem w.some ∙ first_next (block_refusal (block_at bytes 0) 0 0) _ (ap log_refusal_number w.start)
      ∙ first_next (model (setting_refusal m (setting_of_log bytes) (seeds_of_log bytes))) _ (ap refusal_number ok)
      ∙ rw (start_count (block_at bytes 0) (ap log_refusal_number w.start), eq-eqb (length bytes % 512) 0 w.whole) (sound_later m 1 0 (later_of bytes) (omega arith) w.later)
