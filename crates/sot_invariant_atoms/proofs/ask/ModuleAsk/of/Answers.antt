use Rattle.sot_invariant_atoms.proofs.Questions.{seen_fit, seen_safe}
use Rattle.sot_rta.proofs.Found.{plant_there}
use Rattle.sot_invariant_atoms.proofs.ask.ModuleAsk.of.Goals as goal

pub plant_at-plant-requires : goal.plant_at-plant-requires
plant_at-plant-requires c =
    plant_there c.args.program.now c.module_at-info.ensures.rules c.args.«module» c.module_at-info.result.now c.module_at-info.ensures.is

pub seen_hulls-seen-requires-clause-few : goal.seen_hulls-seen-requires-clause-few
seen_hulls-seen-requires-clause-few c =
    seen_fit c.args.program.now c.module_at-info.ensures.rules c.module_at-info.result.now.plant c.plant_at-plant.result.now c.plant_at-plant.ensures.is
    c.deref.result.now c.deref.ensures.value

pub seen_hulls-seen-requires-clause-boxes : goal.seen_hulls-seen-requires-clause-boxes
seen_hulls-seen-requires-clause-boxes c =
    seen_safe c.args.program.now c.module_at-info.ensures.rules c.module_at-info.result.now.plant c.plant_at-plant.result.now c.plant_at-plant.ensures.is
    c.deref.result.now c.deref.ensures.value c.requires.boxes
