use Rattle.std.proofs.Common.{◌++◌, ◌∙◌, map, length, ap}
use Rattle.std.proofs.lemmas.List.{length-map}
use Rattle.sot_lang.specs.Tables.{Tables}
use Rattle.sot_lang.specs.Ranges.{range_of}
use Rattle.sot_rta.proofs.Inputs.{inputs_there}
use Rattle.sot_invariant_atoms.proofs.Questions.{rules_of, tick_of}
use Rattle.sot_invariant_atoms.proofs.walk.Walk.any.Goals as goal

pub put_types-requires-clause-inside : goal.put_types-requires-clause-inside
put_types-requires-clause-inside c =
    inputs_there c.program-p.result.now
    (rules_of c.args.ask.now c.program-p.ensures.rules c.program-p.ensures.asked c.program-p.result.now c.program-p.ensures.value c.info-info.result.now
    c.info-info.ensures)
    c.info-info.result.now.plant c.plant_at-plant.result.now c.plant_at-plant.ensures.is c.deref.result.now c.deref-2.result.now
    (c.deref.ensures.value ∙ ap (λ (t : Tables). t.scalars) c.p.view_is) c.deref-2.ensures.value

pub from-requires-clause-step : goal.from-requires-clause-step
from-requires-clause-step c =
    tick_of c.args.ask.now c.program-p.ensures.rules c.program-p.ensures.asked c.program-p.result.now c.program-p.ensures.value c.info-info.result.now
    c.info-info.ensures
    c.plant_at-plant.result.now c.plant_at-plant.ensures.is c.as_slice-seen.result.now (c.as_slice-seen.ensures.value ∙ c.seen.ensures) c.args.area.now
    c.as_slice.result.now c.requires
    (ap length (c.as_slice.ensures.value ∙ c.put_types.ensures ∙ ap (λ l. l ++ map (range_of c.deref.result.now) c.deref-2.result.now) c.none-types.ensures)
    ∙ length-map c.deref-2.result.now (range_of c.deref.result.now) ∙ ap length c.deref-2.ensures.value)
