use Rattle.std.proofs.Common.{sym, subst}
use Rattle.sot_guard.specs.Resuming.{AreHeldSafe}
use Rattle.sot_guard.proofs.session.Session.begin.Goals as goal

pub returns-in-Ok-around-clause-held : goal.returns-in-Ok-around-clause-held
returns-in-Ok-around-clause-held c =
    let a = c.args.acc.now in
    subst (λ g. AreHeldSafe a.program a.cert.jitter g.at) (sym c.in-Ok-around.ensures.guarding) c.in-Ok.ensures.held
