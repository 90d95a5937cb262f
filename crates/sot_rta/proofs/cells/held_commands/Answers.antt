use Rattle.std.proofs.Common.{refl}
use Rattle.sot_rta.proofs.Found.{plant_there}
use Rattle.sot_rta.proofs.Inputs.{inputs_there}
use Rattle.sot_rta.proofs.HeldTubes.{is_coded, is_ok, commands}
use Rattle.sot_rta.proofs.cells.held_commands.Goals as goal

pub cell_draft-requires-clause-coded : goal.cell_draft-requires-clause-coded
cell_draft-requires-clause-coded c =
    is_coded c.args.p.now c.requires.rules c.requires.may c.requires.is.0 c.args.info.now c.requires.is.1 c.plant_at-plant.result.now
    c.plant_at-plant.ensures.is c.node_at-sc.result.now c.node_at-sc.ensures.is

pub cell_draft-requires-clause-there : goal.cell_draft-requires-clause-there
cell_draft-requires-clause-there c = plant_there c.args.p.now c.requires.rules c.requires.is.0 c.args.info.now c.requires.is.1

pub unwrap-draft-requires : goal.unwrap-draft-requires
unwrap-draft-requires c =
    is_ok c.args.p.now c.requires.rules c.requires.may c.requires.is.0 c.args.info.now c.requires.is.1 c.plant_at-plant.result.now c.plant_at-plant.ensures.is
    c.node_at-sc.result.now c.node_at-sc.ensures.is c.args.cell.now c.requires.ordered c.requires.covered c.cell_draft.result c.cell_draft.ensures

pub put_commands-requires-clause-there : goal.put_commands-requires-clause-there
put_commands-requires-clause-there c =
    inputs_there c.args.p.now c.requires.rules c.args.info.now.plant c.plant_at-plant.result.now c.plant_at-plant.ensures.is c.args.p.now.scalars
    c.deref.result.now refl c.deref.ensures.value

pub returns : goal.returns
returns c =
    commands c.args.p.now c.requires.rules c.requires.may c.requires.is.0 c.args.info.now c.requires.is.1 c.plant_at-plant.result.now
    c.plant_at-plant.ensures.is c.node_at-sc.result.now c.node_at-sc.ensures.is c.args.cell.now c.requires.ordered c.requires.covered c.cell_draft.result
    c.cell_draft.ensures
    c.unwrap-draft.result c.unwrap-draft.ensures c.deref.result.now c.deref-2.result.now c.put_commands.new.sides c.deref.ensures.value c.deref-2.ensures.value
    c.put_commands.ensures
