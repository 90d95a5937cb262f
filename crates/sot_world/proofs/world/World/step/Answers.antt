use Rattle.std.proofs.Common.{refl, sym, ap, subst, take}
use Rattle.sot_world.specs.declared.outcome.Outcome.TheVariants.{Decided}
use Rattle.sot_world.specs.Configurations.{mode_of}
use Rattle.sot_world.specs.Steps.{is_enabled}
use Rattle.sot_world.specs.Outcomes.{NodeFired, ModuleDecided}
use Rattle.sot_world.specs.Events.{slot_count}
use Rattle.sot_world.specs.StepOutcomes.{IsOutcome}
use Rattle.sot_world.proofs.FiringSteps.{firing_outcome}
use Rattle.sot_world.proofs.world.World.step.Goals as goal

pub returns-in-Code-clause-outcome : goal.returns-in-Code-clause-outcome
returns-in-Code-clause-outcome c =
    let f = c.fire_code.ensures.firing in
    subst (λ e. IsOutcome c.args.self.now.accepted.program c.args.self.now.at e c.fire_code.new.self.at c.outcome_of.result) (sym c.in-Code.is)
    (f.0, f.1, firing_outcome c.fire_code.result f.0 c.outcome_of.result c.outcome_of.ensures f.2)

pub returns-in-Guest-clause-outcome : goal.returns-in-Guest-clause-outcome
returns-in-Guest-clause-outcome c =
    let p = c.args.self.now.accepted.program in
    let C = c.args.self.now.at in
    let r = NodeFired (take (slot_count p c.in-Guest.node) c.in-Guest.draft) (is_enabled p C c.in-Guest.node) in
    subst (λ e. IsOutcome p C e c.fire_guest.new.self.at c.outcome_of-in-Guest.result) (sym c.in-Guest.is)
    (r, refl, firing_outcome c.fire_guest.result r c.outcome_of-in-Guest.result c.outcome_of-in-Guest.ensures c.fire_guest.ensures.firing)

pub returns-in-Decide-clause-outcome : goal.returns-in-Decide-clause-outcome
returns-in-Decide-clause-outcome c =
    subst (λ e. IsOutcome c.args.self.now.accepted.program c.args.self.now.at e c.decide.new.self.at (Decided c.decide.result)) (sym c.in-Decide.is)
    (ModuleDecided (mode_of c.decide.new.self.at c.in-Decide.module), refl, ap Decided c.decide.ensures.mode)
