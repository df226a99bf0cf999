-- A decision and the answer that it becomes: the answer tells the decision again, and the openings left where it opens the row.
use mathlib.Core.Path.{◌≡◌, refl, sym, ap, ◌∙◌}
use Prim.Native.Nat.{ℕ}
use native.Mathlib.Omega.{arith}
use Rattle.rules.specs.declared.Decision.{Decision}
use Rattle.rules.specs.declared.Decision.TheVariants.{Open, Hold, OverQuota}
use Rattle.rules.specs.declared.Answer.{Answer}
use Rattle.rules.specs.declared.Answer.TheVariants.{Opened, Wait, Quota}
use Rattle.rules.specs.Answers.{answer_number, answer_left}
use Rattle.rules.specs.Decision.{answer_of}

-- which kind of decision it is
abbrev pub kind_of : Decision → ℕ
kind_of Open = 0
kind_of (Hold c u) = 1
kind_of OverQuota = 2

-- the number of its answer, in which the openings left play no part
abbrev pub number_of : Decision → ℕ
number_of d = answer_number (answer_of d 0)

-- the decision that an answer comes from
abbrev pub decision_of : Answer → Decision
decision_of (Opened left) = Open
decision_of (Wait c u) = Hold c u
decision_of Quota = OverQuota

decision_back : (d : Decision) (left : ℕ) → decision_of (answer_of d left) ≡ d
decision_back Open left = refl
decision_back (Hold c u) left = refl
decision_back OverQuota left = refl

pub decision_of_lem : (d : Decision) (left : ℕ) (a : Answer) → answer_of d left ≡ a → d ≡ decision_of a
decision_of_lem d left a e = sym (decision_back d left) ∙ ap decision_of e

-- decisions whose answers are the same are the same
pub same_decision : (d e : Decision) (m n : ℕ) → answer_of d m ≡ answer_of e n → d ≡ e
same_decision d e m n h = decision_of_lem d m (answer_of e n) h ∙ decision_back e n

-- an opened answer tells the openings left
pub left_of : (d : Decision) (left n : ℕ) → answer_of d left ≡ Opened n → left ≡ n
left_of Open left n e = ap answer_left e
left_of (Hold c u) left n e = absurd (omega (arith, ap (λ a. kind_of (decision_of a)) e))
left_of OverQuota left n e = absurd (omega (arith, ap (λ a. kind_of (decision_of a)) e))
