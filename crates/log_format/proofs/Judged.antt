-- Blocks judged one after another: the verdict `agrees` is given exactly where every block is sound and every record is the rules' decision.
use mathlib.Core.Path.{◌≡◌, refl, ap, ◌∙◌, subst}
use mathlib.Core.List.{List, [], ◌∷◌}
use mathlib.Core.Bool.{Bool, true, false, cond}
use Prim.Native.Nat.{ℕ, zero, suc, ◌+◌, ◌≤◌}
use native.Mathlib.Omega.{arith}
use lib.Dec.{eqb}
use lib.ListN.{length, length-append}
use borrow.Author.Tests.{ne_eqb, eqb-true}
use Rattle.rules.specs.Answers.{Refusal, refusal_number}
use Rattle.rules.specs.State.{State}
use Rattle.rules.specs.Policy.{Policy}
use Rattle.rules.specs.Calls.{Reply, refused, answered, finished, shown, setup_refusal, after}
use Rattle.rules.proofs.Accept.{number_none}
use Rattle.log_format.specs.declared.Entry.{Entry}
use Rattle.log_format.specs.Refusals.{LogRefusal, model, cut, wrong_check, bad_contents, sound, log_refusal_number}
use Rattle.log_format.specs.Contents.{count_in, setting_in, seeds_in, entries_from, entries_in}
use Rattle.log_format.specs.Blocks.{block_refusal}
use Rattle.log_format.specs.Verdict.{agrees, differs, Verdict, refused_after, judged, Running, Step, over, on, claims, counted, differs_here, judge_reply, judge_record, and_then, judge_records, next_block, none_counted, set_up, unless_refused_by, judge_start, judge_later, judge_sound, judge_block, verdict_of, judge_blocks}
use Rattle.log_format.specs.Claims.{entries_of, calls_of, SoundFrom}
use Rattle.log_format.proofs.Records.{not_over, same_on, outcome_of, advanced, DecidedFrom, records_on, on_records, open_in, counts, decided_append, open_append}

-- a refusal with number 0 is none
pub number_sound : (r : LogRefusal) → log_refusal_number r ≡ 0 → r ≡ sound
number_sound (model r) e = ap model (number_none r e)
number_sound cut e = absurd (omega arith)
number_sound wrong_check e = absurd (omega arith)
number_sound bad_contents e = absurd (omega arith)

-- ---- a step that ends the log never says `agrees`

abbrev pub Stops : Verdict → Type 0
Stops (refused_after r b) = Unit {0}
Stops (judged r o agrees) = ⊥
Stops (judged r o (differs b p)) = Unit {0}

abbrev StopsIf : Step → Type 0
StopsIf (over v) = Stops v
StopsIf (on x) = Unit {0}

stops_cond : (b : Bool) (x y : Step) → StopsIf x → StopsIf y → StopsIf (cond b x y)
stops_cond true x y p q = p
stops_cond false x y p q = q

stops_then : (s : Step) (f : Running → Step) → StopsIf s → ((x : Running) → StopsIf (f x)) → StopsIf (and_then s f)
stops_then (over v) f p q = p
stops_then (on x) f p q = q x

stops_reply : (x : Running) (e : Entry) (r : Reply) (st : State) → StopsIf (judge_reply x e r st)
stops_reply x e (refused r) st = tt
stops_reply x e (answered a) st = stops_cond (claims e (answered a)) (on (counted x (answered a) st)) (over (differs_here (counted x (answered a) st))) tt tt
stops_reply x e finished st = stops_cond (claims e finished) (on (counted x finished st)) (over (differs_here (counted x finished st))) tt tt
stops_reply x e (shown c scale quota) st = tt

pub never_agrees : (v : Verdict) (r o : ℕ) → Stops v → v ≡ judged r o agrees → ⊥
never_agrees v r o p e = subst Stops e p

pub length_entries : (s : List ℕ) (k n : ℕ) → length (entries_from s k n) ≡ n
length_entries s k zero = refl
length_entries s k (suc n) = ap suc (length_entries s (suc k) n)

-- the counts of two verdicts `agrees`
pub judged_same : (r r' o o' : ℕ) → r ≡ r' → o ≡ o' → judged r o agrees ≡ judged r' o' agrees
judged_same r r' o o' e f = cc

module _ (p : Policy) where
  stops_records : (x : Running) (es : List Entry) → StopsIf (judge_records p x es)
  unfolding judge_records judge_record
  stops_records x [] = tt
  stops_records x (e ∷ es) =
      let o = outcome_of p x.setting x.seeds x.state e in
      stops_then (judge_reply x e o.reply o.state) (λ (y : Running). judge_records p y es) (stops_reply x e o.reply o.state) (λ y. stops_records y es)

  stops_refused : (r : Refusal) (n : ℕ) (x : Running) → StopsIf (unless_refused_by r n x)
  stops_refused r n x = stops_cond (eqb (refusal_number r) 0) (on x) (over (refused_after (model r) n)) tt tt

  stops_start : (x : Running) (s : List ℕ) → StopsIf (judge_start p x s)
  unfolding judge_start
  stops_start x s = stops_refused (setup_refusal p.limits (setting_in s) (seeds_in s) x.state) 0 (set_up (setting_in s) (seeds_in s) x.state)

  stops_later : (x : Running) (s : List ℕ) → StopsIf (judge_later p x s)
  unfolding judge_later
  stops_later x s = stops_then (judge_records p (none_counted x) (entries_in s)) (λ (y : Running). on (next_block y)) (stops_records (none_counted x) (entries_in s)) (λ y. tt)

  pub stops_block : (x : Running) (s : List ℕ) → StopsIf (judge_block p x s)
  unfolding judge_block judge_sound
  stops_block x s =
      let r = block_refusal s x.progress.blocks x.progress.last in
      stops_cond (eqb (log_refusal_number r) 0) (cond (eqb x.progress.blocks 0) (judge_start p x s) (judge_later p x s)) (over (refused_after r x.progress.blocks))
      (stops_cond (eqb x.progress.blocks 0) (judge_start p x s) (judge_later p x s) (stops_start x s) (stops_later x s)) tt

  -- a block that ends the log is not followed by `agrees`
  pub over_agrees : (x : Running) (s : List ℕ) (v : Verdict) (r o : ℕ) → judge_block p x s ≡ over v → v ≡ judged r o agrees → ⊥
  over_agrees x s v r o e h = never_agrees v r o (subst StopsIf e (stops_block x s)) h

  -- ---- one block

  pub block_sound : (x : Running) (s : List ℕ) → block_refusal s x.progress.blocks x.progress.last ≡ sound → judge_block p x s ≡ judge_sound p x s
  unfolding judge_block
  block_sound x s e = rw e

  pub sound_block : (x : Running) (s : List ℕ) (y : Running) → judge_block p x s ≡ on y
      → (block_refusal s x.progress.blocks x.progress.last ≡ sound) × (judge_sound p x s ≡ on y)
  unfolding judge_block
  sound_block x s y h = go (eqb (log_refusal_number r) 0) refl h
    where
      r : LogRefusal
      r = block_refusal s x.progress.blocks x.progress.last

      go : (b : Bool) → eqb (log_refusal_number r) 0 ≡ b → cond b (judge_sound p x s) (over (refused_after r x.progress.blocks)) ≡ on y
          → (r ≡ sound) × (judge_sound p x s ≡ on y)
      go true e k = (number_sound r (eqb-true (log_refusal_number r) 0 e), k)
      go false e k = absurd (not_over _ y k)

  -- the progress and the state after a later block
  abbrev pub after_block : Running → List ℕ → Running
  after_block x s = next_block (advanced p (none_counted x) (entries_in s))

  pub later_on : (x : Running) (s : List ℕ) → 1 ≤ x.progress.blocks → DecidedFrom p x.setting x.seeds x.state (entries_in s)
      → judge_sound p x s ≡ on (after_block x s)
  unfolding judge_sound judge_later
  later_on x s h d =
      let n : x.progress.blocks ≡ 0 → ⊥ = λ z. omega arith in
      rw (ne_eqb x.progress.blocks 0 n, records_on p (none_counted x) (entries_in s) d)

  pub on_later : (x : Running) (s : List ℕ) (y : Running) → 1 ≤ x.progress.blocks → judge_sound p x s ≡ on y
      → DecidedFrom p x.setting x.seeds x.state (entries_in s) × (after_block x s ≡ y)
  unfolding judge_sound judge_later
  on_later x s y h k =
      let n : x.progress.blocks ≡ 0 → ⊥ = λ z. omega arith in
      go (judge_records p (none_counted x) (entries_in s)) refl (rw (ne_eqb x.progress.blocks 0 n) at k)
    where
      go : (t : Step) → judge_records p (none_counted x) (entries_in s) ≡ t → and_then t (λ (z : Running). on (next_block z)) ≡ on y
          → DecidedFrom p x.setting x.seeds x.state (entries_in s) × (after_block x s ≡ y)
      go (over v) e j = absurd (not_over v y j)
      go (on z) e j =
          let r = on_records p (none_counted x) (entries_in s) z e in
          (r.0, ap next_block r.1 ∙ same_on (next_block z) y j)

  -- what is counted after a later block
  pub record Next (x y : Running) (s : List ℕ) : Type 0 where
    pub blocks : y.progress.blocks ≡ x.progress.blocks + 1
    pub records : y.progress.records ≡ x.progress.records + length (entries_in s)
    pub opened : y.progress.opened ≡ x.progress.opened + open_in p x.setting x.seeds x.state (entries_in s)
    pub last : y.progress.last ≡ count_in s
    pub setting : y.setting ≡ x.setting
    pub seeds : y.seeds ≡ x.seeds
    pub state : y.state ≡ after p x.setting x.seeds x.state (calls_of (entries_in s))

  pub next : (x : Running) (s : List ℕ) → Next x (after_block x s) s
  next x s =
      let c = counts p (none_counted x) (entries_in s) in
      record {
        blocks = ap (λ (n : ℕ). n + 1) c.blocks;
        records = c.records;
        opened = c.opened;
        last = c.last ∙ omega (arith, length_entries s 0 (count_in s));
        setting = c.setting;
        seeds = c.seeds;
        state = c.state;
      }

  -- ---- later blocks, one after another

  -- every later block is sound and every record of them is the rules' decision
  pub record Agreeing (x : Running) (ss : List (List ℕ)) : Type 0 where
    pub blocks : SoundFrom x.progress.blocks x.progress.last ss
    pub records : DecidedFrom p x.setting x.seeds x.state (entries_of ss)

  -- the records of the blocks from x on, and how many of them the rules open
  abbrev opened_over : Running → List (List ℕ) → ℕ
  opened_over x ss = open_in p x.setting x.seeds x.state (entries_of ss)

  -- the first of these blocks, and the others
  agreeing_first : (x : Running) (s : List ℕ) (ss : List (List ℕ)) → Agreeing x (s ∷ ss)
      → (block_refusal s x.progress.blocks x.progress.last ≡ sound) × DecidedFrom p x.setting x.seeds x.state (entries_in s) × Agreeing (after_block x s) ss
  agreeing_first x s ss a =
      let n = next x s in
      let d = (decided_append p x.setting x.seeds x.state (entries_in s) (entries_of ss)).0 a.records in
      (a.blocks.0, d.0, record { blocks = rw (n.blocks, n.last) a.blocks.1; records = rw (n.setting, n.seeds, n.state) d.1 })

  first_agreeing : (x : Running) (s : List ℕ) (ss : List (List ℕ)) → block_refusal s x.progress.blocks x.progress.last ≡ sound
      → DecidedFrom p x.setting x.seeds x.state (entries_in s) → Agreeing (after_block x s) ss → Agreeing x (s ∷ ss)
  first_agreeing x s ss e d a =
      let n = next x s in
      record {
        blocks = (e, rw (n.blocks, n.last) at a.blocks);
        records = (decided_append p x.setting x.seeds x.state (entries_in s) (entries_of ss)).1 (d, rw (n.setting, n.seeds, n.state) at a.records);
      }

  -- the counts over the first block and the others
  opened_first : (x : Running) (s : List ℕ) (ss : List (List ℕ))
      → (after_block x s).progress.opened + opened_over (after_block x s) ss ≡ x.progress.opened + opened_over x (s ∷ ss)
  opened_first x s ss =
      let n = next x s in
      rw (n.setting, n.seeds, n.state) (omega (arith, n.opened, open_append p x.setting x.seeds x.state (entries_in s) (entries_of ss)))

  records_first : (x : Running) (s : List ℕ) (ss : List (List ℕ))
      → (after_block x s).progress.records + length (entries_of ss) ≡ x.progress.records + length (entries_of (s ∷ ss))
  records_first x s ss = omega (arith, (next x s).records, length-append (entries_in s) (entries_of ss))

  pub agreeing_judged : (x : Running) (ss : List (List ℕ)) → 1 ≤ x.progress.blocks → Agreeing x ss
      → judge_blocks p x ss true ≡ judged (x.progress.records + length (entries_of ss)) (x.progress.opened + opened_over x ss) agrees
  unfolding judge_blocks
  agreeing_judged x [] h a =
      let n : x.progress.blocks ≡ 0 → ⊥ = λ z. omega arith in
      rw (ne_eqb x.progress.blocks 0 n) (judged_same _ _ _ _ (omega arith) (omega arith))
  agreeing_judged x (s ∷ ss) h a =
      let f = agreeing_first x s ss a in
      let e : judge_block p x s ≡ on (after_block x s) = block_sound x s f.0 ∙ later_on x s h f.1 in
      ap (λ (t : Step). verdict_of t (λ (y : Running). judge_blocks p y ss true)) e
      ∙ agreeing_judged (after_block x s) ss (omega (arith, (next x s).blocks)) f.2
      ∙ judged_same _ _ _ _ (records_first x s ss) (opened_first x s ss)

  pub judged_agreeing : (x : Running) (ss : List (List ℕ)) (r o : ℕ) → 1 ≤ x.progress.blocks → judge_blocks p x ss true ≡ judged r o agrees
      → Agreeing x ss × (r ≡ x.progress.records + length (entries_of ss)) × (o ≡ x.progress.opened + opened_over x ss)
  unfolding judge_blocks
  judged_agreeing x [] r o h k =
      let n : x.progress.blocks ≡ 0 → ⊥ = λ z. omega arith in
      let j : judged x.progress.records x.progress.opened agrees ≡ judged r o agrees = rw (ne_eqb x.progress.blocks 0 n) at k in
      let er : x.progress.records ≡ r = cc in
      let eo : x.progress.opened ≡ o = cc in
      (record { blocks = tt; records = tt }, omega arith, omega arith)
  judged_agreeing x (s ∷ ss) r o h k =
      go (judge_block p x s) refl k (judged_agreeing (after_block x s) ss r o (omega (arith, (next x s).blocks)))
    where
      go : (t : Step) → judge_block p x s ≡ t → verdict_of t (λ (y : Running). judge_blocks p y ss true) ≡ judged r o agrees
          → (judge_blocks p (after_block x s) ss true ≡ judged r o agrees
          → Agreeing (after_block x s) ss
          × (r ≡ (after_block x s).progress.records + length (entries_of ss))
          × (o ≡ (after_block x s).progress.opened + opened_over (after_block x s) ss))
          → Agreeing x (s ∷ ss) × (r ≡ x.progress.records + length (entries_of (s ∷ ss))) × (o ≡ x.progress.opened + opened_over x (s ∷ ss))
      go (over v) e j ih = absurd (over_agrees x s v r o e j)
      go (on y) e j ih =
          let b = sound_block x s y e in
          let l = on_later x s y h b.1 in
          let i = ih (ap (λ (z : Running). judge_blocks p z ss true) l.1 ∙ j) in
          (first_agreeing x s ss b.0 l.0 i.0, i.1 ∙ records_first x s ss, i.2 ∙ opened_first x s ss)

  -- a log that ends within a block never agrees
  pub never_partial : (x : Running) (ss : List (List ℕ)) (r o : ℕ) → judge_blocks p x ss false ≡ judged r o agrees → ⊥
  unfolding judge_blocks
  never_partial x [] r o k = never_agrees (refused_after cut x.progress.blocks) r o tt k
  never_partial x (s ∷ ss) r o k = go (judge_block p x s) refl k (λ y. never_partial y ss r o)
    where
      go : (t : Step) → judge_block p x s ≡ t → verdict_of t (λ (y : Running). judge_blocks p y ss false) ≡ judged r o agrees
          → ((y : Running) → judge_blocks p y ss false ≡ judged r o agrees → ⊥) → ⊥
      go (over v) e j ih = over_agrees x s v r o e j
      go (on y) e j ih = ih y j
