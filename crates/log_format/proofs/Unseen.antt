-- The openings left of an opened answer play no part in a log.
use mathlib.Core.Path.{◌≡◌, refl}
use Prim.Native.Nat.{ℕ}
use Rattle.rules.specs.declared.Answer.TheVariants.{Opened}
use Rattle.rules.specs.Calls.{Call, request, done, index, answered, activation_of}
use Rattle.log_format.specs.Verdict.{claims}
use Rattle.log_format.specs.Claims.{LeftUnseen}

activation_same : (c : Call) (m n : ℕ) → activation_of c (answered (Opened m)) ≡ activation_of c (answered (Opened n))
activation_same (request t b th r) m n = refl
activation_same (done t b th) m n = refl
activation_same (index t b th) m n = refl

pub left_unseen : LeftUnseen
unfolding claims
left_unseen = record { claimed = λ e m n. refl; opened = λ m n. refl; activation = activation_same; judged = λ x e st m n. refl }
