use Rattle.std.proofs.Common.{◌∙◌, ap, sym, length}
use Rattle.sot_lang.specs.declared.tables.ModuleInfo.{ModuleInfo}
use Rattle.sot_lang.specs.Tables.{Tables}
use Rattle.sot_lang.specs.OwnerNames.{width_of}
use Rattle.sot_lang.proofs.Owners.{width_at}
use Rattle.sot_invariant_atoms.proofs.Questions.{plant_of}
use Rattle.sot_invariant_atoms.proofs.ask.ModuleAsk.width.Goals as goal

pub plant_at-plant-requires : goal.plant_at-plant-requires
plant_at-plant-requires c =
    plant_of c.args.self.now c.program-p.ensures.rules c.program-p.ensures.asked c.program-p.result.now c.program-p.ensures.value c.info.result.now
    c.info.ensures

pub returns : goal.returns
returns c =
    ap length c.deref-states.ensures.value
    ∙ sym (width_at c.program-p.result.now.plants c.info.result.now.plant c.plant_at-plant.result.now c.plant_at-plant.ensures.is)
    ∙ ap (λ (t : Tables). width_of t.plants c.info.result.now.plant) c.program-p.ensures.value
    ∙ ap (λ (x : ModuleInfo). width_of c.args.self.now.program.plants x.plant) c.info.ensures
