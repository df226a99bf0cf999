-- `quota::share`: the product fits 32 bits, and its share of the scale is rounded as the definition says and at most Q.
use Rattle.std.proofs.Common.{◌∙◌, arith}
use Rattle.rules.proofs.Regular.{quota_most}
use Rattle.threads.proofs.quota.Product.{quota_is}
use Rattle.threads.proofs.quota.share.Goals as goal

pub returns : goal.returns
returns c =
    let a = c.args in
    let e = c.nearest.ensures ∙ quota_is a.s a.c c.saturating_sub-left.result c.saturating_sub-left.ensures in
    (c.from.ensures ∙ e, omega (arith, e, c.from.ensures, quota_most a.s a.c (omega arith)))
