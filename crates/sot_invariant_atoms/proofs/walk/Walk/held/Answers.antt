use Rattle.std.proofs.Common.{◌∙◌, length, ap, refl}
use Rattle.std.proofs.lemmas.List.{length-map}
use Rattle.sot_rta.proofs.Inputs.{inputs_there}
use Rattle.sot_invariant_atoms.specs.Greatest.{IsAmong}
use Rattle.sot_invariant_atoms.proofs.HeldLeaves.{never_drafts, tube_of, some_tube_of}
use Rattle.sot_invariant_atoms.proofs.Questions.{rules_of, plant_of, coded_of, held_of, hulls_of, tick_of}
use Rattle.sot_invariant_atoms.proofs.Walking.{goes_held}
use Rattle.sot_invariant_atoms.proofs.walk.Walk.held.Goals as goal

pub cell_draft-requires-clause-coded : goal.cell_draft-requires-clause-coded
cell_draft-requires-clause-coded c =
    coded_of c.args.ask.now c.program-p.ensures.rules c.program-p.ensures.asked c.program-p.result.now c.program-p.ensures.value
    c.info-info.result.now c.info-info.ensures
    c.node_at-sc.result.now c.node_at-sc.ensures.is

pub cell_draft-requires-clause-there : goal.cell_draft-requires-clause-there
cell_draft-requires-clause-there c =
    plant_of c.args.ask.now c.program-p.ensures.rules c.program-p.ensures.asked c.program-p.result.now c.program-p.ensures.value
    c.info-info.result.now c.info-info.ensures

pub put_commands-requires-clause-there : goal.put_commands-requires-clause-there
put_commands-requires-clause-there c =
    inputs_there c.program-p.result.now
    (rules_of c.args.ask.now c.program-p.ensures.rules c.program-p.ensures.asked c.program-p.result.now c.program-p.ensures.value
    c.info-info.result.now c.info-info.ensures)
    c.info-info.result.now.plant c.plant_at-plant.result.now c.plant_at-plant.ensures.is c.program-p.result.now.scalars c.deref.result.now refl
    c.deref.ensures.value

pub from-requires-clause-step : goal.from-requires-clause-step
from-requires-clause-step c =
    tick_of c.args.ask.now c.program-p.ensures.rules c.program-p.ensures.asked c.program-p.result.now c.program-p.ensures.value c.info-info.result.now
    c.info-info.ensures
    c.plant_at-plant.result.now c.plant_at-plant.ensures.is c.as_slice-seen.result.now (c.as_slice-seen.ensures.value ∙ c.seen.ensures) c.args.area.now
    c.put_commands.new.sides c.requires (ap length c.put_commands.ensures ∙ length-map c.deref.result.now _ ∙ ap length c.deref.ensures.value)

pub returns-in_default : goal.returns-in_default
returns-in_default c grid set h =
    never_drafts (IsAmong grid set) c.program-p.result.now
    (rules_of c.args.ask.now c.program-p.ensures.rules c.program-p.ensures.asked c.program-p.result.now c.program-p.ensures.value
    c.info-info.result.now c.info-info.ensures)
    c.args.ask.now.jitter c.info-info.result.now c.plant_at-plant.result.now c.plant_at-plant.ensures.is c.node_at-sc.result.now c.node_at-sc.ensures.is
    c.args.area.now c.cell_draft.result c.cell_draft.ensures c.in_default.field-0 c.in_default.is
    (held_of c.args.ask.now c.program-p.ensures.rules c.program-p.ensures.asked c.program-p.result.now c.program-p.ensures.value
    c.info-info.result.now c.info-info.ensures
    (IsAmong grid set) c.args.ask.now.jitter refl c.args.area.now h)

pub returns : goal.returns
returns c =
    let rules = rules_of c.args.ask.now c.program-p.ensures.rules c.program-p.ensures.asked c.program-p.result.now c.program-p.ensures.value
    c.info-info.result.now c.info-info.ensures in
    let hulls = hulls_of c.args.ask.now c.program-p.ensures.rules c.program-p.ensures.asked c.program-p.result.now c.program-p.ensures.value
    c.info-info.result.now c.info-info.ensures
    c.plant_at-plant.result.now c.plant_at-plant.ensures.is c.as_slice-seen.result.now (c.as_slice-seen.ensures.value ∙ c.seen.ensures) in
    goes_held c.args.ask.now c.args.area.now c.from.result c.program-p.result.now c.info-info.result.now.plant
    _ c.plant_at-plant.result.now c.put_commands.new.sides c.as_slice-seen.result.now
    c.from.ensures.program c.from.ensures.plant c.from.ensures.area c.from.ensures.ticks c.from.ensures.goes c.as_slice-seen.ensures.ordered
    c.plant_at-plant.ensures.is
    (λ grid set h. tube_of (IsAmong grid set) c.program-p.result.now rules
    c.jitter.result c.info-info.result.now c.plant_at-plant.result.now c.plant_at-plant.ensures.is c.node_at-sc.result.now c.node_at-sc.ensures.is
    c.args.area.now c.cell_draft.result c.cell_draft.ensures
    c.in-Ok.draft c.in-Ok.is c.deref.result.now c.deref-2.result.now c.put_commands.new.sides c.deref.ensures.value c.deref-2.ensures.value
    c.put_commands.ensures c.as_slice-seen.result.now hulls
    (held_of c.args.ask.now c.program-p.ensures.rules c.program-p.ensures.asked c.program-p.result.now c.program-p.ensures.value
    c.info-info.result.now c.info-info.ensures (IsAmong grid set) c.jitter.result c.jitter.ensures.value c.args.area.now h))
    (λ grid set box w h. some_tube_of (IsAmong grid set) c.program-p.result.now rules
    c.jitter.result c.info-info.result.now c.plant_at-plant.result.now c.plant_at-plant.ensures.is c.node_at-sc.result.now c.node_at-sc.ensures.is
    c.args.area.now c.cell_draft.result c.cell_draft.ensures
    c.in-Ok.draft c.in-Ok.is c.deref.result.now c.deref-2.result.now c.put_commands.new.sides c.deref.ensures.value c.deref-2.ensures.value
    c.put_commands.ensures c.as_slice-seen.result.now hulls
    box w (held_of c.args.ask.now c.program-p.ensures.rules c.program-p.ensures.asked c.program-p.result.now c.program-p.ensures.value
    c.info-info.result.now c.info-info.ensures (IsAmong grid set) c.jitter.result c.jitter.ensures.value box h))
