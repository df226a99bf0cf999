-- A request as its lemmas take it: what it is asked with, and what its parts have given, from what its contract asks and what they ensure.
use Prim.Native.Nat.{ℕ, ◌-◌, ◌%◌, ◌^◌, ◌≤◌}
use mathlib.Core.Path.{◌≡◌, ap₂, ◌∙◌}
use mathlib.Core.List.{List}
use Rattle.head.specs.declared.Head.{Head}
use Rattle.head.specs.Head.{moved_head}
use Rattle.rules.specs.declared.Setting.{Setting}
use Rattle.rules.specs.declared.Limits.{Limits}
use Rattle.rules.specs.Answers.{none}
use Rattle.rules.specs.State.{State, counters_used, threads_used}
use Rattle.rules.specs.Clock.{epoch, turned_counters, turned_threads}
use Rattle.rules.specs.Hash.{places}
use Rattle.rules.specs.Filter.{two, estimate}
use Rattle.rules.specs.Calls.{call_refusal}
use Rattle.rules.proofs.Accept.{taken}
use Rattle.state.specs.Ready.{WithinWidest}
use Rattle.state.proofs.filterless.Requests.{Asked, Read}

-- the limits of a counter's width, by its laws
pub within : {m : Limits} → m.threshold ≤ 2 ^ 20 → m.history ≤ 32768 → WithinWidest m
within t h = record { threshold = t; history = h }

abbrev pub asked : (m : Limits) → WithinWidest m → (s : Setting) (seeds : List ℕ) (st : State) (tick bank thread row : ℕ)
    → call_refusal m s seeds st tick bank thread ≡ none → Asked m
asked m w s seeds st tick bank thread row free =
    record {
      widest = w;
      s = s;
      seeds = seeds;
      found = st;
      tick = tick;
      bank = bank;
      thread = thread;
      row = row;
      taken = taken m s seeds st tick bank thread free;
    }

-- the clock turned, the row's places, the filters turned, and the two estimates
abbrev pub read : {m : Limits} (q : Asked m) (h : Head) (from to : ℕ) (threads four counters : List ℕ) (active other : ℕ)
    → h ≡ moved_head q.found.head q.tick
    → threads ≡ turned_threads (threads_used q.s) (epoch q.s q.found.head.last) (epoch q.s q.tick) q.found.threads
    → from ≡ epoch q.s q.found.head.last → to ≡ epoch q.s q.tick → four ≡ places q.seeds q.row
    → counters ≡ turned_counters (counters_used q.s) from to q.found.counters
    → active ≡ estimate counters q.bank (to % 2) (two four four (to % 2))
    → other ≡ estimate counters q.bank (1 - to % 2) (two four four (1 - to % 2)) → Read q
read q h from to threads four counters active other eh eth ef et e4 ec ea eo =
    record {
      head = h;
      to = to;
      threads = threads;
      four = four;
      counters = counters;
      active = active;
      other = other;
      head_is = eh;
      to_is = et;
      threads_is = eth;
      four_is = e4;
      counters_is = ec ∙ ap₂ (λ x y. turned_counters (counters_used q.s) x y q.found.counters) ef et;
      active_is = ea;
      other_is = eo;
    }
