use Rattle.std.proofs.Common.{subst}
use Rattle.sot_invariant_atoms.specs.Walking.{Walked, MayTrapNext, GoesTo}
use Rattle.sot_invariant_atoms.proofs.Walking.{may_step, trap_next, next_long, next_fits, goes_next, goes_to}
use Rattle.sot_invariant_atoms.proofs.walk.Walk.step.Goals as goal

pub iv_plant_over-requires : goal.iv_plant_over-requires
iv_plant_over-requires c = may_step _ c.self.invariant.1

pub returns-in_default-clause-step : goal.returns-in_default-clause-step
returns-in_default-clause-step c = subst MayTrapNext c.self.view_is (trap_next _ c.self.invariant.1 _ c.in_default.ensures)

pub lies_in-settled-requires : goal.lies_in-settled-requires
lies_in-settled-requires c = next_long _ c.self.invariant.1 c.self.invariant.0 c.in-Ok.next c.in-Ok.ensures

pub put_front-requires : goal.put_front-requires
put_front-requires c = next_fits _ c.self.invariant.1 c.self.invariant.0 c.in-Ok.next c.in-Ok.ensures

pub invariant_of-self : goal.invariant_of-self
invariant_of-self c =
    (c.self.invariant.0, goes_next _ c.self.invariant.1 c.self.invariant.0 c.in-Ok.next c.in-Ok.ensures c.put_front.new.sides c.put_front.ensures)

pub returns-clause-step : goal.returns-clause-step
returns-clause-step c =
    let new : Walked = record {
      program = c.self.inside.program.now;
      plant = c.self.inside.plant;
      area = c.in-Ok.next;
      names = c.put_front.new.sides;
      ticks = c.self.inside.ticks;
    } in
    subst (λ (w : Walked). GoesTo w c.in-Ok.next new) c.self.view_is
    (goes_to _ c.self.invariant.1 c.self.invariant.0 c.in-Ok.next c.in-Ok.ensures c.put_front.new.sides c.put_front.ensures)
