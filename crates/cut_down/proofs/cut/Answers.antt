-- `cut`: each return is a case of the answer.
use mathlib.Core.Path.{refl}
use mathlib.Core.List.{[]}
use native.Mathlib.Omega.{arith}
use Rattle.std.proofs.lemmas.Result.{err_from_is_err_and}
use Rattle.log_format.specs.Claims.{WellFormed}
use Rattle.cut_down.proofs.Coded.{refusal_some}
use Rattle.cut_down.proofs.Parts.{leaves_refused, well_formed, leaves_many, leaves_same, leaves_kept}
use Rattle.cut_down.proofs.cut.Goals as goal

pub returns-in_err-n : goal.returns-in_err-n
returns-in_err-n c =
    let p = err_from_is_err_and c.from_residual.result c.from_residual.ensures.1 in
    λ before. rw (p.1, p.2) (leaves_refused c.args.log.now before _ c.in_err-n.ensures.coded (refusal_some _))

pub returns-then-n-gt64 : goal.returns-then-n-gt64
returns-then-n-gt64 c = λ before. leaves_many c.args.log.now before 0 c.in_ok-n.ensures.coded refl c.in_ok-n.n c.in_ok-n.ensures.counted c.if-n-gt64.true

pub differs-requires : goal.differs-requires
differs-requires c =
    let formed : WellFormed c.args.log.now = well_formed c.args.log.now [] 0 c.in_ok-n.ensures.coded refl c.in_ok-n.n c.in_ok-n.ensures.counted in
    (formed, c.in_ok-n.ensures.counted, omega (arith, c.if-n-gt64.false))

pub returns-then-not-differs : goal.returns-then-not-differs
returns-then-not-differs c =
    λ before. leaves_same c.args.log.now before 0 c.in_ok-n.ensures.coded refl c.in_ok-n.n c.in_ok-n.ensures.counted (omega (arith, c.if-n-gt64.false))
    c.all_of-all.result c.all_of-all.ensures c.differs.result c.differs.ensures c.if-not-differs.true

pub passes-left-requires : goal.passes-left-requires
passes-left-requires c =
    let formed : WellFormed c.args.log.now = well_formed c.args.log.now [] 0 c.in_ok-n.ensures.coded refl c.in_ok-n.n c.in_ok-n.ensures.counted in
    (formed, c.in_ok-n.ensures.counted, omega (arith, c.if-n-gt64.false), c.all_of-all.ensures)

pub returns : goal.returns
returns c =
    λ before. leaves_kept c.args.log.now before 0 c.in_ok-n.ensures.coded refl c.in_ok-n.n c.in_ok-n.ensures.counted (omega (arith, c.if-n-gt64.false))
    c.all_of-all.result c.all_of-all.ensures c.differs.result c.differs.ensures c.if-not-differs.false c.passes-left.result c.passes-left.ensures
