use Rattle.std.proofs.Common.{refl}
use Rattle.sot_compose.proofs.check.code_of.Goals as goal

pub trap_free-requires-clause-coded : goal.trap_free-requires-clause-coded
trap_free-requires-clause-coded c = (c.args.info.now, _, c.requires.is, (_, c.in-Some.is, refl))

pub returns-in-Ok : goal.returns-in-Ok
returns-in-Ok c acts coded = (c.trap_free.ensures c.args.info.now acts c.requires.is coded).free.0 c.in-Ok.is

pub returns-in-Err : goal.returns-in-Err
returns-in-Err c =
    let verdict = c.trap_free.ensures c.args.info.now _ c.requires.is (_, c.in-Some.is, refl) in
    (_, (_, c.in-Some.is, refl), (c.in-Err.trap, (verdict.trap c.in-Err.trap).0 c.in-Err.is, c.code_refusal.ensures))
