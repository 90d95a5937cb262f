use Rattle.std.proofs.Common.{◌≤◌, length, subst, arith}
use Rattle.sot_lang.specs.TableRules.{MeetsTableRules}
use Rattle.sot_formula.proofs.Texts.{ok_reads, err_refuses}
use Rattle.sot_formula.proofs.whole.read.Goals as goal

pub returns-in-Ok-clause-ok : goal.returns-in-Ok-clause-ok
returns-in-Ok-clause-ok c =
    let rules = subst MeetsTableRules c.p.view_is c.p.invariant in
    let short : length c.args.bytes.now ≤ 16777216 = omega (arith, c.if-bytes-gt-MOST_BYTES.false) in
    ok_reads c.args.p.now rules c.args.bytes.now short (λ v. v.items) c.in-Ok.laid c.judged.result c.in-Ok.ensures.ok c.judged.ensures.ok

pub returns-in-Ok-clause-err : goal.returns-in-Ok-clause-err
returns-in-Ok-clause-err c =
    let rules = subst MeetsTableRules c.p.view_is c.p.invariant in
    let short : length c.args.bytes.now ≤ 16777216 = omega (arith, c.if-bytes-gt-MOST_BYTES.false) in
    err_refuses c.args.p.now rules c.args.bytes.now short c.in-Ok.laid c.judged.result c.in-Ok.ensures.ok c.judged.ensures.err
