-- `probes::verdict`: by the refusals in their order, then by what the pass over the records found.
use mathlib.Core.Path.{◌≡◌, sym, ap, ap₂, ◌∙◌}
use Rattle.std.specs.Prelude.{Option, Some, None, Ok, Err}
use Rattle.std.specs.Option.{ok_or}
use Rattle.probe_rules.specs.declared.ProbeRefusal.{ProbeRefusal}
use Rattle.probe_rules.specs.declared.ProbeRefusal.TheVariants.{BadInput}
use Rattle.probes.specs.declared.pairs.Spread.{Spread}
use Rattle.std.proofs.lemmas.Result.{err_from_is_err_and}
use Rattle.probes.specs.Pairs.{records_of}
use Rattle.probes.specs.Records.{cut}
use Rattle.probes.proofs.pairs.All.{records_late, records_told, told_fits}
use Rattle.probes.proofs.Laws.{records_refused, records_held, held_cut, verdict_cut, refused_first, refused_second, refused_jitter, refused_late, verdict_told}
use Rattle.probes.proofs.verdict.Goals as goal

-- the error that takes the place of nothing
err_is : (o : Option Spread) (e d : ProbeRefusal) → o ≡ None → Err e ≡ ok_or o d → e ≡ d
err_is None e d n h = cc
err_is (Some s) e d n h = cc

pub returns-in_err-first : goal.returns-in_err-first
returns-in_err-first c =
    let p = err_from_is_err_and c.from_residual.result c.from_residual.ensures.1 in
    let h = records_refused c.args.x.now c.in_err-first.field-0.0 c.in_err-first.ensures in
    rw (p.1, p.2, h.1) (refused_first c.args.x.now c.args.y.now c.args.jitter h.0)

pub returns-in_err-second : goal.returns-in_err-second
returns-in_err-second c =
    let p = err_from_is_err_and c.from_residual-in_err-second.result c.from_residual-in_err-second.ensures.1 in
    let a = records_held c.args.x.now c.in_ok-first.first c.in_ok-first.ensures in
    let h = records_refused c.args.y.now c.in_err-second.field-0.0 c.in_err-second.ensures in
    rw (p.1, p.2, h.1) (refused_second c.args.x.now c.args.y.now c.args.jitter a.0 h.0)

pub returns-then-jitter-gt1000 : goal.returns-then-jitter-gt1000
returns-then-jitter-gt1000 c =
    let a = records_held c.args.x.now c.in_ok-first.first c.in_ok-first.ensures in
    let b = records_held c.args.y.now c.in_ok-second.second c.in_ok-second.ensures in
    refused_jitter c.args.x.now c.args.y.now c.args.jitter a.0 b.0 c.if-jitter-gt1000.true

pub returns-in_err-spread : goal.returns-in_err-spread
returns-in_err-spread c =
    let p = err_from_is_err_and c.from_residual-in_err-spread.result c.from_residual-in_err-spread.ensures.1 in
    let x = c.args.x.now in
    let y = c.args.y.now in
    let a = records_held x c.in_ok-first.first c.in_ok-first.ensures in
    let b = records_held y c.in_ok-second.second c.in_ok-second.ensures in
    let none : c.look.result ≡ None = c.in_err-spread.ensures.ok_part in
    let late = records_late (cut x) (cut y) (sym none ∙ c.look.ensures ∙ ap₂ records_of a.1 b.1) in
    let refused = refused_late (cut x) (cut y) c.args.jitter (held_cut x a.0) (held_cut y b.0) c.if-jitter-gt1000.false late ∙ verdict_cut x y c.args.jitter a.0 b.0 in
    let bad : c.in_err-spread.field-0.0 ≡ BadInput = err_is c.look.result c.in_err-spread.field-0.0 BadInput none c.in_err-spread.ensures.value in
    rw (p.1, p.2, bad) refused

pub decide-requires : goal.decide-requires
decide-requires c =
    let x = c.args.x.now in
    let y = c.args.y.now in
    let a = records_held x c.in_ok-first.first c.in_ok-first.ensures in
    let b = records_held y c.in_ok-second.second c.in_ok-second.ensures in
    let f = told_fits (cut x) (cut y) (records_told (cut x) (cut y) (sym c.in_ok-spread.ensures.ok_part ∙ c.look.ensures ∙ ap₂ records_of a.1 b.1)) in
    (c.if-jitter-gt1000.false, f.0, f.1)

pub returns : goal.returns
returns c =
    let x = c.args.x.now in
    let y = c.args.y.now in
    let a = records_held x c.in_ok-first.first c.in_ok-first.ensures in
    let b = records_held y c.in_ok-second.second c.in_ok-second.ensures in
    let told = records_told (cut x) (cut y) (sym c.in_ok-spread.ensures.ok_part ∙ c.look.ensures ∙ ap₂ records_of a.1 b.1) in
    ap Ok c.decide.ensures ∙ verdict_told (cut x) (cut y) c.args.jitter (held_cut x a.0) (held_cut y b.0) c.if-jitter-gt1000.false told ∙ verdict_cut x y c.args.jitter a.0 b.0
