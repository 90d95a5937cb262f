-- Of `note_noise_beside`: its promises.
use Rattle.std.proofs.Common.{◌∙◌, [], ◌++◌, map, ap, List}
use Rattle.std.specs.Prelude.{flat_map}
use Rattle.sot_syntax_tree.specs.declared.tree.Field.{Field}
use Rattle.sot_syntax_tree.specs.declared.tree.StateDecl.{StateDecl}
use Rattle.sot_syntax_tree.specs.TreeViews.{plant_view}
use Rattle.sot_rules.specs.Lists.{places}
use Rattle.sot_rules.specs.Tests.{state_names, noise_names}
use Rattle.sot_rules.specs.Faults.{least, together, repeats, past, noise_lists}
use Rattle.sot_names.specs.SeenNames.{HasNames}
use Rattle.sot_names.specs.NameSets.{keys_in}
use Rattle.sot_names.proofs.NameSets.{mapped_held, two_held}
use Rattle.sot_rules.proofs.Sequences.{three_noted}
use Rattle.sot_rules.proofs.declarations.plant.note_noise_beside.Goals as goal

pub returns : goal.returns
returns c =
    let q = plant_view c.args.q.now in
    let names = λ (fs : List Field). map (λ (f : Field). f.name) fs in
    let states : HasNames (keys_in c.add_names.new.set) (state_names q) =
    mapped_held (λ (s : StateDecl). s.name) (keys_in c.add_names.new.set) c.deref.result.now q.states (c.in_ok-add_names.ensures [] c.requires)
    c.deref.ensures.value in
    let inputs : HasNames (keys_in c.add_names-2.new.set) (state_names q ++ q.inputs) =
    two_held (keys_in c.add_names.new.set) (keys_in c.add_names-2.new.set) (state_names q) c.deref-2.result.now q.inputs states c.in_ok-add_names-2.ensures
    c.deref-2.ensures.value in
    let used : HasNames (keys_in c.add_names-3.new.set) (state_names q ++ q.inputs ++ q.sees) =
    two_held (keys_in c.add_names-2.new.set) (keys_in c.add_names-3.new.set) (state_names q ++ q.inputs) c.deref-3.result.now q.sees inputs
    c.in_ok-add_names-3.ensures c.deref-3.ensures.value in
    three_noted (flat_map (λ f. together (noise_lists q f)) q.noise) (repeats [] (noise_names q)) (past 4 (places (noise_names q))) _ _ _ _
    (c.note_disturbances.ensures q used ∙ ap (λ fs. least c.args.first.now (flat_map (λ f. together (noise_lists q f)) fs)) c.deref-4.ensures.value)
    (c.in_ok-note_repeats.ensures ∙ ap (λ fs. least c.note_disturbances.new.first (repeats [] (names fs))) c.deref-5.ensures.value)
    (c.note_past.ensures ∙ ap (λ fs. least c.note_repeats.new.first (past 4 (places (names fs)))) c.deref-6.ensures.value)
