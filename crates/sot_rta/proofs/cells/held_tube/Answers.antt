use Rattle.std.proofs.Common.{◌≡◌, length, sym, ◌∙◌, subst}
use Rattle.std.proofs.lemmas.Option.{same_Some, slice_get_within}
use Rattle.sot_lang.specs.declared.tables.ModuleInfo.{ModuleInfo}
use Rattle.sot_lang.specs.OwnerNames.{width_of}
use Rattle.sot_rta.proofs.HeldTubes.{answers}
use Rattle.sot_rta.proofs.cells.held_tube.Goals as goal

pub held_inside-requires-clause-follow : goal.held_inside-requires-clause-follow
held_inside-requires-clause-follow c = record {
  boxes = c.requires.may.boxes;
  exists' = slice_get_within c.args.p.now.modules c.args.«module» c.args.info.now c.requires.is;
  width =
      λ a at. subst (λ (x : ModuleInfo). length c.args.cell.now ≡ width_of c.args.p.now.plants x.plant) (same_Some c.args.info.now a (sym c.requires.is ∙ at))
      c.requires.width;
}

pub returns : goal.returns
returns c =
    answers c.args.p.now c.requires.rules c.requires.may c.args.«module» c.args.info.now c.requires.is c.plant_at-plant.result.now c.plant_at-plant.ensures.is
    c.node_at-sc.result.now c.node_at-sc.ensures.is c.args.cell.now
    c.args.jitter c.held_commands.new.sides c.held_commands.ensures c.held_inside.result c.held_inside.ensures

pub held_commands-requires-clause-is : goal.held_commands-requires-clause-is
held_commands-requires-clause-is c = (c.args.«module», c.requires.is)
