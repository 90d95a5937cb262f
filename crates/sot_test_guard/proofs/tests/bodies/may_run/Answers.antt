-- The node is there and coded, and what was counted fits.
use Rattle.std.proofs.Common.{◌≡◌, ◌<◌, length, refl, ◌∙◌, ap, subst, arith, eqb-true}
use Rattle.sot_lang.specs.Tables.{Tables}
use Rattle.sot_lists.proofs.Places.{read_at}
use Rattle.sot_test_guard.proofs.tests.bodies.may_run.Goals as goal

pub returns-then-len-eq3 : goal.returns-then-len-eq3
returns-then-len-eq3 c e =
    let info = c.in-Some.info.now in
    let found = c.in-Some.ensures.lookup in
    let same = c.deref.ensures.value ∙ ap (λ (p : Tables). p.nodes) c.p.view_is in
    let reads : c.len.result ≡ info.reads.len = c.len.ensures in
    let locals : c.len-then-len-eq3.result ≡ info.locals.len = c.len-then-len-eq3.ensures in
    let counts = eqb-true _ _ e in
    let counted = c.len-then-len-eq3-2.ensures.count in
    let some = info.reads.ok.0 in
    let own = info.locals.ok.0 in
    record {
      node = info;
      acts = c.in-Some-body.field-0.items;
      is = read_at _ c.args.p.now.nodes c.args.node info same (subst (λ xs. c.args.node < length xs) same found.3.0) found.1;
      coded = (c.in-Some-body.field-0, c.in-Some-body.is, refl);
      reads = omega (arith, c.if-len-eq3.true, reads, some);
      locals_are = omega (arith, counted, counts, locals, own);
    }
