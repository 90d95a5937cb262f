use Rattle.std.proofs.Common.{◌≡◌, ◌+◌, ◌-◌, ◌%◌, ◌^◌, ap, ◌∙◌}
use Rattle.rand_pcg.specs.Lcg.{advance, state_after}
use Rattle.rand_pcg.specs.Pcg.{multiplier_64}
use Rattle.sot_flight.proofs.Jumps.{is_jump}
use Rattle.sot_flight.proofs.draws.Jump.by.Goals as goal

pub invariant_of-result : goal.invariant_of-result
invariant_of-result c =
    let given = c.args.given in
    let sum = c.state-sum.result in
    let none : sum ≡ state_after 64 multiplier_64 1 given 0 = c.state-sum.ensures
    ∙ ap (λ g. g.state) (c.advance.ensures ∙ ap (advance 64 multiplier_64 given) c.from_state-none.ensures) in
    let one : c.state.result ≡ state_after 64 multiplier_64 1 given 1 = c.state.ensures
    ∙ ap (λ g. g.state) (c.advance-2.ensures ∙ ap (advance 64 multiplier_64 given) c.from_state-one.ensures) in
    is_jump given ((c.state.result + (2 ^ 64 - sum)) % 2 ^ 64) sum none (ap (λ k. (k + (2 ^ 64 - sum)) % 2 ^ 64) one)
