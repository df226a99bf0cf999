-- What a call of the C interface finds and leaves: its return code, the words it writes, the head's words and the four buffers.
use Rattle.std.specs.Prelude.{ℕ, List}
use Rattle.head.specs.declared.Head.{Head}
use Rattle.rules.specs.State.{State, state, head_of, head_words}
use Rattle.rules.specs.Calls.{Reply, refused, answered, finished, shown, Outcome, return_code, out_words}

pub record Left : Type 0 where
  pub code : ℕ
  pub out : List ℕ
  pub head : List ℕ
  pub counters : List ℕ
  pub ticks : List ℕ
  pub rows : List ℕ
  pub threads : List ℕ

abbrev pub left : ℕ → List ℕ → List ℕ → List ℕ → List ℕ → List ℕ → List ℕ → Left
left code out head counters ticks rows threads =
    record { code = code; out = out; head = head; counters = counters; ticks = ticks; rows = rows; threads = threads }

-- the state that a call finds in the caller's memory
abbrev pub found : List ℕ → List ℕ → List ℕ → List ℕ → List ℕ → State
found words counters ticks rows threads = state (head_of words) counters ticks rows threads

-- the head's words after a call: those of the new head, or as they were where the call is refused
abbrev pub words_left : Reply → List ℕ → Head → List ℕ
words_left (refused r) words h = words
words_left (answered a) words h = head_words h
words_left finished words h = head_words h
words_left (shown c scale quota) words h = head_words h

-- what an outcome of the rules leaves, where out and the head's words were these before
unfoldable pub leaves : Outcome → List ℕ → List ℕ → Left
leaves o out words =
    left (return_code o.reply) (out_words o.reply out) (words_left o.reply words o.state.head)
    o.state.counters o.state.ticks o.state.rows o.state.threads
