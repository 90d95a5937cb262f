use Rattle.std.proofs.Common.{refl}
use Rattle.sot_compose.proofs.Composed.{least_output, no_shared_output}
use Rattle.sot_compose.proofs.composition.own_outputs.Goals as goal

pub returns-in-Some : goal.returns-in-Some
returns-in-Some c =
    let clash = c.in-Some.clash in
    (clash.what, clash.a, clash.b, least_output c.args.p.now clash.what clash.a clash.b c.in-Some.ensures.first.0 c.in-Some.ensures.first.1, refl)

pub returns-in-None : goal.returns-in-None
returns-in-None c = no_shared_output c.args.p.now c.requires c.in-None.ensures.first
