-- A log differs at its first record that is not the rules' decision.
use mathlib.Core.Path.{◌≡◌, refl, sym, ap, ◌∙◌, subst}
use mathlib.Core.List.{List, [], ◌∷◌, ◌++◌, append_assoc}
use mathlib.Core.Logic.{◌≢◌}
use mathlib.Core.Bool.{Bool, true, false, cond}
use Prim.Native.Nat.{ℕ, ◌+◌, ◌-◌, ◌≤◌, ◌<◌}
use native.Mathlib.Omega.{arith}
use lib.ListN.{length, length-append}
use borrow.Author.Tests.{ne_eqb, lt-ltb, le-ltb}
use Rattle.rules.specs.declared.Setting.{Setting}
use Rattle.rules.specs.Answers.{Refusal}
use Rattle.rules.specs.State.{State, fresh}
use Rattle.rules.specs.Policy.{Policy}
use Rattle.rules.specs.Calls.{Reply, refused, answered, finished, shown, replies, after}
use Rattle.log_format.specs.declared.Entry.{Entry}
use Rattle.log_format.specs.Contents.{count_in, entries_in}
use Rattle.log_format.specs.Verdict.{Ending, differs, Verdict, judged, Running, Step, over, claims, counted, differs_here, judge_reply, judge_record, and_then, judge_records, memory, none_counted, set_up, judge_later, judge_sound, judge_block, verdict_of, judge_blocks}
use Rattle.log_format.specs.Claims.{calls_of, entries_of, setting_of_log, seeds_of_log, later_of, Decision, SoundFrom}
use Rattle.log_format.proofs.Records.{true_claims, reply_on, outcome_of, advanced, DecidedFrom, open_in, Counts, counts, decided_append, open_append}
use Rattle.log_format.proofs.Judged.{length_entries, block_sound, after_block, later_on, Next, next}
use Rattle.log_format.proofs.Agrees.{by_later}
use Rattle.consequences.specs.policies.Claims.{differs_at, DiffersAtFirst}
use Rattle.consequences.proofs.policies.Lists.{last_same, never_empty, Stands, first, later, stands}

-- a reply that is no refusal and not what the record claims
record Wrong (e : Entry) (r : Reply) : Type 0 where
  pub answers : (n : Refusal) → r ≢ refused n
  pub differs : Decision e r → ⊥

-- a test of what a record claims, which it does not
claims_not : (e : Entry) (r : Reply) (x : Step) (v : Verdict) → (claims e r ≡ true → ⊥) → cond (claims e r) x (over v) ≡ over v
claims_not e r x v h = go (claims e r) refl
  where
    go : (b : Bool) → claims e r ≡ b → cond b x (over v) ≡ over v
    go true k = absurd (h k)
    go false k = refl

reply_over : (x : Running) (e : Entry) (r : Reply) (st : State) → Wrong e r → judge_reply x e r st ≡ over (differs_here (counted x r st))
reply_over x e (refused n) st w = absurd (w.answers n refl)
reply_over x e (answered a) st w = claims_not e (answered a) _ _ (λ k. w.differs (true_claims e (answered a) k))
reply_over x e finished st w = claims_not e finished _ _ (λ k. w.differs (true_claims e finished k))
reply_over x e (shown c d q) st w = refl

-- two verdicts with equal parts
judged_parts : (r r' o o' : ℕ) (a b : Ending) → r ≡ r' → o ≡ o' → a ≡ b → judged r o a ≡ judged r' o' b
judged_parts r r' o o' a b h k l = cc

-- ---- where a record stands

-- in the first block
here_ends : (b i : ℕ) (s : List ℕ) (ss : List (List ℕ)) → i < count_in s → differs_at b (s ∷ ss) i ≡ differs b (i + 1)
here_ends b i s ss h = rw (lt-ltb i (count_in s) h)

-- in a later one
later_ends : (b i k : ℕ) (s : List ℕ) (ss : List (List ℕ)) → i ≡ count_in s + k → differs_at b (s ∷ ss) i ≡ differs_at (b + 1) ss k
later_ends b i k s ss h =
    let le : count_in s ≤ i = omega arith in
    let e : i - count_in s ≡ k = omega arith in
    rw (le-ltb i (count_in s) le, e)

length_with : (before tail : List Entry) (e : Entry) → length (before ++ (e ∷ tail)) ≡ length before + 1 + length tail
length_with before tail e = omega (arith, length-append before (e ∷ tail))

module _ (p : Policy) where
  -- ---- the records of a block

  -- the rules' reply to one more record
  abbrev reply_after : Setting → List ℕ → State → List Entry → Entry → Reply
  reply_after s seeds st before e = (outcome_of p s seeds (after p s seeds st (calls_of before)) e).reply

  after_append : (s : Setting) (seeds : List ℕ) (st : State) (es fs : List Entry)
      → after p s seeds st (calls_of (es ++ fs)) ≡ after p s seeds (after p s seeds st (calls_of es)) (calls_of fs)
  after_append s seeds st [] fs = refl
  after_append s seeds st (e ∷ es) fs = after_append s seeds (outcome_of p s seeds st e).state es fs

  records_over : (x : Running) (before tail : List Entry) (e : Entry) → DecidedFrom p x.setting x.seeds x.state before
      → Wrong e (reply_after x.setting x.seeds x.state before e)
      → judge_records p x (before ++ (e ∷ tail)) ≡ over (differs_here (advanced p x (before ++ (e ∷ []))))
  unfolding judge_records judge_record advanced
  records_over x [] tail e d w =
      let o = outcome_of p x.setting x.seeds x.state e in
      ap (λ (s : Step). and_then s (λ (z : Running). judge_records p z tail)) (reply_over x e o.reply o.state w)
  records_over x (b ∷ before) tail e d w =
      let o = outcome_of p x.setting x.seeds x.state b in
      ap (λ (s : Step). and_then s (λ (z : Running). judge_records p z (before ++ (e ∷ tail)))) (reply_on x b o.reply o.state d.0)
      ∙ records_over (counted x o.reply o.state) before tail e d.1 w

  -- ---- blocks

  later_over : (x : Running) (s : List ℕ) (v : Verdict) → 1 ≤ x.progress.blocks → judge_records p (none_counted x) (entries_in s) ≡ over v
      → judge_sound p x s ≡ over v
  unfolding judge_sound judge_later
  later_over x s v h k =
      let n : x.progress.blocks ≡ 0 → ⊥ = λ z. omega arith in
      rw (ne_eqb x.progress.blocks 0 n, k)

  -- the verdict where the record after these is the first wrong one
  abbrev differs_after : Running → List (List ℕ) → List Entry → Entry → Verdict
  differs_after x ss before e =
      judged (x.progress.records + (length before + 1))
      (x.progress.opened + open_in p x.setting x.seeds x.state (before ++ (e ∷ [])))
      (differs_at x.progress.blocks ss (length before))

  -- it stands in the first block
  here_over : (x : Running) (s : List ℕ) (ss : List (List ℕ)) (before tail : List Entry) (e : Entry) → 1 ≤ x.progress.blocks
      → entries_in s ≡ before ++ (e ∷ tail) → DecidedFrom p x.setting x.seeds x.state before
      → Wrong e (reply_after x.setting x.seeds x.state before e) → judge_sound p x s ≡ over (differs_after x (s ∷ ss) before e)
  here_over x s ss before tail e h k d w =
      later_over x s (differs_here z) h (ap (judge_records p (none_counted x)) k ∙ records_over (none_counted x) before tail e d w)
      ∙ ap over (judged_parts _ _ _ _ _ _ (c.records ∙ omega (arith, one)) c.opened (ends ∙ sym (here_ends x.progress.blocks (length before) s ss in_block)))
    where
      z : Running
      z = advanced p (none_counted x) (before ++ (e ∷ []))

      c : Counts p (none_counted x) z (before ++ (e ∷ []))
      c = counts p (none_counted x) (before ++ (e ∷ []))

      one : length (before ++ (e ∷ [])) ≡ length before + 1 + 0
      one = length_with before [] e

      in_block : length before < count_in s
      in_block = omega (arith, length_entries s 0 (count_in s), ap length k, length_with before tail e)

      ends : differs z.progress.blocks z.progress.last ≡ differs x.progress.blocks (length before + 1)
      ends =
          let eb : z.progress.blocks ≡ x.progress.blocks = c.blocks in
          let el : z.progress.last ≡ length before + 1 = c.last ∙ omega (arith, one) in
          cc

  -- what is counted when the first block is, and it stands in a later one
  later_counts : (x : Running) (s : List ℕ) (ss : List (List ℕ)) (before middle : List Entry) (e : Entry) → before ≡ entries_in s ++ middle
      → differs_after (after_block p x s) ss middle e ≡ differs_after x (s ∷ ss) before e
  later_counts x s ss before middle e k = judged_parts _ _ _ _ _ _ records opened ends
    where
      y : Running
      y = after_block p x s

      n : Next p x y s
      n = next p x s

      long : length before ≡ count_in s + length middle
      long = ap length k ∙ omega (arith, length-append (entries_in s) middle, length_entries s 0 (count_in s))

      records : y.progress.records + (length middle + 1) ≡ x.progress.records + (length before + 1)
      records = omega (arith, n.records, long, length_entries s 0 (count_in s))

      with_it : before ++ (e ∷ []) ≡ entries_in s ++ (middle ++ (e ∷ []))
      with_it = ap (λ (b : List Entry). b ++ (e ∷ [])) k ∙ append_assoc (entries_in s) middle (e ∷ [])

      opened : y.progress.opened + open_in p y.setting y.seeds y.state (middle ++ (e ∷ []))
          ≡ x.progress.opened + open_in p x.setting x.seeds x.state (before ++ (e ∷ []))
      opened = rw (n.setting, n.seeds, n.state, with_it) (omega (arith, n.opened, open_append p x.setting x.seeds x.state (entries_in s) (middle ++ (e ∷ []))))

      ends : differs_at y.progress.blocks ss (length middle) ≡ differs_at x.progress.blocks (s ∷ ss) (length before)
      ends = ap (λ b. differs_at b ss (length middle)) n.blocks ∙ sym (later_ends x.progress.blocks (length before) (length middle) s ss long)

  -- the record after these is the first wrong one of the blocks from x on, and the verdict says so
  abbrev Over : Running → List (List ℕ) → List Entry → List Entry → Entry → Type 0
  Over x ss before rest e =
      1 ≤ x.progress.blocks → SoundFrom x.progress.blocks x.progress.last ss → entries_of ss ≡ before ++ (e ∷ rest)
      → DecidedFrom p x.setting x.seeds x.state before → Wrong e (reply_after x.setting x.seeds x.state before e)
      → judge_blocks p x ss true ≡ differs_after x ss before e

  blocks_over : (x : Running) (ss : List (List ℕ)) (before rest : List Entry) (e : Entry) → Over x ss before rest e
  unfolding judge_blocks
  blocks_over x [] before rest e h b k d w = absurd (never_empty before rest e k)
  blocks_over x (s ∷ ss) before rest e h b k d w =
      go (stands (entries_in s) (entries_of ss) before rest e k) (λ middle. blocks_over (after_block p x s) ss middle rest e)
    where
      -- the state after the first block, and what is counted then
      y : Running
      y = after_block p x s

      n : Next p x y s
      n = next p x s

      -- the reply after all records before e, by those of the first block and those of later ones
      wrong_later : (middle : List Entry) → before ≡ entries_in s ++ middle
          → Wrong e (reply_after x.setting x.seeds (after p x.setting x.seeds x.state (calls_of (entries_in s))) middle e)
      wrong_later middle q =
          subst (λ st. Wrong e (outcome_of p x.setting x.seeds st e).reply)
          (ap (λ (es : List Entry). after p x.setting x.seeds x.state (calls_of es)) q ∙ after_append x.setting x.seeds x.state (entries_in s) middle) w

      go : Stands (entries_in s) (entries_of ss) before rest e → ((middle : List Entry) → Over y ss middle rest e)
          → verdict_of (judge_block p x s) (λ (z : Running). judge_blocks p z ss true) ≡ differs_after x (s ∷ ss) before e
      go (first tail q) ih = ap (λ (t : Step). verdict_of t (λ (z : Running). judge_blocks p z ss true)) (block_sound p x s b.0 ∙ here_over x s ss before tail e h q d w)
      go (later middle q l) ih =
          let both = (decided_append p x.setting x.seeds x.state (entries_in s) middle).0 (subst (DecidedFrom p x.setting x.seeds x.state) q d) in
          ap (λ (t : Step). verdict_of t (λ (z : Running). judge_blocks p z ss true)) (block_sound p x s b.0 ∙ later_on p x s h both.0)
          ∙ ih middle (omega (arith, n.blocks)) (rw (n.blocks, n.last) b.1) l (rw (n.setting, n.seeds, n.state) both.1)
          (rw (n.setting, n.seeds, n.state) (wrong_later middle q))
          ∙ later_counts x s ss before middle e q

  -- ---- the whole log

  -- the replies to one more record
  pub replies_last : (s : Setting) (seeds : List ℕ) (st : State) (before : List Entry) (e : Entry)
      → replies p s seeds st (calls_of (before ++ (e ∷ []))) ≡ replies p s seeds st (calls_of before) ++ (reply_after s seeds st before e ∷ [])
  replies_last s seeds st [] e = refl
  replies_last s seeds st (b ∷ before) e = ap (λ (rs : List Reply). (outcome_of p s seeds st b).reply ∷ rs) (replies_last s seeds (outcome_of p s seeds st b).state before e)

  pub differs_at_first : DiffersAtFirst p
  differs_at_first bytes wf ok before rest e k d r said answers wrong =
      let s = setting_of_log bytes in
      let seeds = seeds_of_log bytes in
      let st = fresh s (memory p.limits) in
      let same : r ≡ reply_after s seeds st before e =
      last_same (replies p s seeds st (calls_of before)) r (reply_after s seeds st before e) (sym said ∙ replies_last s seeds st before e) in
      by_later p bytes wf ok
      ∙ blocks_over (set_up s seeds (memory p.limits)) (later_of bytes) before rest e (omega arith) wf.later k d
      (subst (Wrong e) same (record { answers = answers; differs = wrong }))
      ∙ judged_parts _ _ _ _ _ _ (omega arith) (omega arith) refl
