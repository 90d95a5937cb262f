use Rattle.std.proofs.Common.{ap, ◌∙◌}
use Rattle.rand_pcg.specs.Lcg.{state_after}
use Rattle.rand_pcg.specs.Pcg.{multiplier_64}
use Rattle.sot_flight.proofs.Jumps.{jump_leads}
use Rattle.sot_flight.proofs.draws.Jump.state_from.Goals as goal

pub returns : goal.returns
returns c =
    let jump = c.self.inside in
    jump_leads jump.given jump.power jump.sum c.args.increment c.args.state c.self.invariant c.ranges.state.fits
    ∙ ap (λ n. state_after 64 multiplier_64 c.args.increment n c.args.state) c.self.view_is
