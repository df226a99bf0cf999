-- Whether records differ, by the rules' replies to their calls: neither the counts so far nor the memory play a part.
use mathlib.Core.Path.{◌≡◌, refl, sym, ap, ◌∙◌}
use mathlib.Core.List.{List, [], ◌∷◌, ◌++◌}
use mathlib.Core.Bool.{Bool, true, false, cond}
use Rattle.rules.specs.State.{State}
use Rattle.rules.specs.Policy.{Policy}
use Rattle.rules.specs.Calls.{Reply, refused, answered, finished, shown, replies}
use Rattle.log_format.specs.declared.Entry.{Entry}
use Rattle.log_format.specs.Verdict.{Running, Step, over, on, claims, counted, differs_here, judge_reply, judge_record, and_then, judge_records}
use Rattle.log_format.specs.Claims.{calls_of}
use Rattle.log_format.proofs.Records.{outcome_of}
use Rattle.cut_rules.specs.Cut.{says_differs}

-- one record against a reply, where the records after it differ or not
abbrev differs_at : Entry → Reply → Bool → Bool
differs_at e (refused r) rest = false
differs_at e (answered a) rest = cond (claims e (answered a)) rest true
differs_at e finished rest = cond (claims e finished) rest true
differs_at e (shown c scale quota) rest = true

-- the first record that is not the reply differs, and is not refused
abbrev pub differs_in : List Entry → List Reply → Bool
differs_in [] rs = false
differs_in (e ∷ es) [] = false
differs_in (e ∷ es) (r ∷ rs) = differs_at e r (differs_in es rs)

cond_says : (b : Bool) (x : Running) (y : Running) (f : Running → Step) → says_differs (and_then (cond b (on x) (over (differs_here y))) f) ≡ cond b (says_differs (f x)) true
cond_says true x y f = refl
cond_says false x y f = refl

reply_says : (x : Running) (e : Entry) (r : Reply) (st : State) (f : Running → Step)
    → says_differs (and_then (judge_reply x e r st) f) ≡ differs_at e r (says_differs (f (counted x r st)))
reply_says x e (refused r) st f = refl
reply_says x e (answered a) st f = cond_says (claims e (answered a)) (counted x (answered a) st) (counted x (answered a) st) f
reply_says x e finished st f = cond_says (claims e finished) (counted x finished st) (counted x finished st) f
reply_says x e (shown c scale quota) st f = refl

module _ (p : Policy) where
  pub by_replies : (x : Running) (es : List Entry)
      → says_differs (judge_records p x es) ≡ differs_in es (replies p x.setting x.seeds x.state (calls_of es))
  unfolding judge_records judge_record
  by_replies x [] = refl
  by_replies x (e ∷ es) =
      let o = outcome_of p x.setting x.seeds x.state e in
      reply_says x e o.reply o.state (λ (y : Running). judge_records p y es)
      ∙ ap (differs_at e o.reply) (by_replies (counted x o.reply o.state) es)

  -- two runs that get the same replies
  pub same_differs : (x y : Running) (es : List Entry)
      → replies p x.setting x.seeds x.state (calls_of es) ≡ replies p y.setting y.seeds y.state (calls_of es)
      → says_differs (judge_records p x es) ≡ says_differs (judge_records p y es)
  same_differs x y es e = by_replies x es ∙ ap (differs_in es) e ∙ sym (by_replies y es)

  -- records, and then others
  pub records_append : (x : Running) (es fs : List Entry) → judge_records p x (es ++ fs) ≡ and_then (judge_records p x es) (λ (y : Running). judge_records p y fs)
  unfolding judge_records
  records_append x [] fs = refl
  records_append x (e ∷ es) fs = go (judge_record p x e) (λ y. records_append y es fs)
    where
      go : (t : Step)
          → ((y : Running) → judge_records p y (es ++ fs) ≡ and_then (judge_records p y es) (λ (z : Running). judge_records p z fs))
          → and_then t (λ (y : Running). judge_records p y (es ++ fs))
          ≡ and_then (and_then t (λ (y : Running). judge_records p y es)) (λ (z : Running). judge_records p z fs)
      go (over v) ih = refl
      go (on y) ih = ih y
