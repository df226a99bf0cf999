-- Before the first block anything can be judged.
use mathlib.Core.Path.{◌≡◌, ap}
use native.Mathlib.Omega.{arith}
use Rattle.rules.specs.Policy.{limits01}
use Rattle.log_format.specs.Verdict.{Running, unread}
use Rattle.judge.specs.Blocks.{Ready}

pub start_ready : (x : Running) → x.progress ≡ (unread limits01).progress → Ready x
unfolding unread
start_ready x e =
    let z : x.progress.blocks ≡ 0 = ap (λ p. p.blocks) e in
    let r : x.progress.records ≡ 0 = ap (λ p. p.records) e in
    let o : x.progress.opened ≡ 0 = ap (λ p. p.opened) e in
    record {
      blocks = omega arith;
      records = omega arith;
      opened = omega arith;
      model = λ k. absurd (omega arith);
    }
