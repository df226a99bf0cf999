-- A head stored in 22 words and read back is the same head, if it has sixteen bank cells and four rank cells; every call keeps these.
use mathlib.Core.Path.{◌≡◌, refl}
use mathlib.Core.List.{List}
use Prim.Native.Nat.{ℕ}
use lib.ListN.{length, length-set}
use Rattle.head.specs.declared.Head.{Head}
use Rattle.head.specs.Head.{moved_head, activated_head}
use Rattle.rules.specs.declared.Setting.{Setting}
use Rattle.rules.specs.declared.Decision.{Decision}
use Rattle.rules.specs.declared.Decision.TheVariants.{Open, Hold, OverQuota}
use Rattle.rules.specs.State.{State, head_of, head_words, fresh_head, fresh}
use Rattle.rules.specs.Clock.{turned}
use Rattle.rules.specs.Hash.{places}
use Rattle.rules.specs.Policy.{Policy}
use Rattle.rules.specs.Decision.{decide, activated}
use Rattle.rules.specs.Calls.{Call, request, done, index, after_decision, requested, reported, index_shown, performed}
use Rattle.rules.proofs.Cells.{cells_all}

-- sixteen banks and the rank's four
pub record Shape (h : Head) : Type 0 where
  pub bank : length h.bank ≡ 16
  pub rank : length h.rank ≡ 4

pub words_back : (h : Head) → Shape h → head_of (head_words h) ≡ h
unfolding head_of head_words
words_back h s = λ k. record { last = h.last; next = h.next; bank = cells_all h.bank 16 s.bank k; rank = cells_all h.rank 4 s.rank k }

-- a head that is read from words has this shape
pub head_shape : (words : List ℕ) → Shape (head_of words)
unfolding head_of
head_shape words = record { bank = refl; rank = refl }

pub fresh_shape : (s : Setting) (st : State) → Shape (fresh s st).head
unfolding fresh fresh_head
fresh_shape s st = record { bank = refl; rank = refl }

turned_shape : (s : Setting) (st : State) (t : ℕ) → Shape st.head → Shape (turned s st t).head
unfolding turned moved_head
turned_shape s st t h = record { bank = h.bank; rank = h.rank }

activated_shape : (s : Setting) (at : ℕ → List ℕ) (st : State) (b th r : ℕ) → Shape st.head → Shape (activated s at st b th r).head
unfolding activated activated_head
activated_shape s at st b th r h = record { bank = rw length-set h.bank; rank = refl }

-- every call that is not refused keeps it
pub performed_shape : (p : Policy) (s : Setting) (own : ℕ → List ℕ) (st : State) (c : Call) → Shape st.head → Shape (performed p s own st c).state.head
unfolding requested reported index_shown
performed_shape p s own st (request t b th r) h = go (decide p s (λ f. places (own f) r) (turned s st t) b th r)
  where
    go : (a : Decision) → Shape (after_decision a (turned s st t) (activated s (λ f. places (own f) r) (turned s st t) b th r)).head
    go Open = activated_shape s (λ f. places (own f) r) (turned s st t) b th r (turned_shape s st t h)
    go (Hold c u) = turned_shape s st t h
    go OverQuota = turned_shape s st t h
performed_shape p s own st (done t b th) h = turned_shape s st t h
performed_shape p s own st (index t b th) h = turned_shape s st t h
