-- Of `note_module`: its promises.
use Rattle.std.proofs.Common.{◌∙◌, ◌&&◌, not, ap, ap₂, map}
use Rattle.sot_syntax_tree.specs.TreeViews.{area_view, module_view}
use Rattle.sot_rules.specs.declared.fault.TypeKind.TheVariants.{Unknown, Twice, KindDiffers}
use Rattle.sot_rules.specs.Names.{meaning, is_topic, is_plant, is_node, is_external}
use Rattle.sot_rules.specs.Lists.{are_same}
use Rattle.sot_rules.specs.Tests.{side_sorts}
use Rattle.sot_rules.specs.Faults.{least, when, times_faults, region_faults}
use Rattle.sot_rules.specs.Indexes.{program_in}
use Rattle.sot_rules.proofs.Sequences.{module_noted}
use Rattle.sot_rules.proofs.declarations.module.note_module.Goals as goal

pub returns : goal.returns
returns c =
    let p = program_in c.args.index.now in
    let m = module_view c.args.m.now in
    let plant = c.meaning-plant.ensures in
    let states = c.states_of-states.ensures ∙ ap side_sorts plant in
    module_noted (when (not (is_node (meaning p m.ac))) m.ac.at Unknown) (when (not (is_node (meaning p m.sc))) m.sc.at Unknown)
    (when (is_external (meaning p m.sc)) m.sc.at KindDiffers) (when (are_same m.ac m.sc) m.sc.at Twice)
    (times_faults m.period m.offset)
    (when (not (is_topic (meaning p m.plant)) && not (is_plant (meaning p m.plant))) m.plant.at Unknown)
    (when (is_topic (meaning p m.plant)) m.plant.at KindDiffers)
    (region_faults (side_sorts (meaning p m.plant)) m.safe) (region_faults (side_sorts (meaning p m.plant)) m.safer)
    _ _ _ _ _ _ _
    c.note_nodes.ensures
    c.note_times.ensures
    (c.note.ensures ∙ ap (λ b. least c.note_times.new.first (when b m.plant.at Unknown))
    (c.is_neither.ensures ∙ ap (λ d. not (is_topic d) && not (is_plant d)) plant))
    (c.note-2.ensures ∙ ap (λ b. least c.note.new.first (when b m.plant.at KindDiffers)) (c.is_topic.ensures ∙ ap is_topic plant))
    (c.note_region.ensures ∙ ap₂ (λ w bs. least c.note-2.new.first (region_faults w (map area_view bs))) states c.deref.ensures.value)
    (c.note_region-2.ensures ∙ ap₂ (λ w bs. least c.note_region.new.first (region_faults w (map area_view bs))) states c.deref-2.ensures.value)
