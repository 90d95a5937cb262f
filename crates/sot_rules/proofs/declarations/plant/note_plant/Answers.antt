-- Of `note_plant`: its promises.
use Rattle.std.proofs.Common.{◌∙◌, [], ◌++◌, nat_lt, length, not, ap, map, List}
use Rattle.std.specs.Prelude.{flat_map}
use Rattle.sot_syntax_tree.specs.declared.tree.StateDecl.{StateDecl}
use Rattle.sot_syntax_tree.specs.TreeViews.{plant_view}
use Rattle.sot_rules.specs.declared.fault.TypeKind.TheVariants.{NoModule, NextMissing}
use Rattle.sot_rules.specs.Lists.{places}
use Rattle.sot_rules.specs.Names.{meaning}
use Rattle.sot_rules.specs.Tests.{has_module, topic_size, state_names, noise_names}
use Rattle.sot_rules.specs.Faults.{least, when, together, repeats, past, passes, scale_faults, input_faults, seen_lists, noise_lists, next_faults, order_faults}
use Rattle.sot_rules.specs.Indexes.{program_in}
use Rattle.sot_rules.proofs.Sequences.{plant_noted}
use Rattle.sot_rules.proofs.declarations.plant.note_plant.Goals as goal

pub returns : goal.returns
returns c =
    let p = program_in c.args.index.now in
    let q = plant_view c.args.q.now in
    let names = λ (ss : List StateDecl). map (λ (s : StateDecl). s.name) ss in
    plant_noted (when (not (has_module p q.name)) q.name.at NoModule)
    (repeats [] (state_names q)) (past 4 (places (state_names q))) (flat_map (λ s. scale_faults s.scale) q.states)
    (flat_map (input_faults p q) q.inputs) (repeats [] q.inputs) (passes (λ i. topic_size (meaning p i)) 8 0 q.inputs)
    (flat_map (λ i. together (seen_lists p q i)) q.sees) (repeats [] q.sees) (past 16 (places q.sees))
    (flat_map (λ f. together (noise_lists q f)) q.noise) (repeats [] (noise_names q)) (past 4 (places (noise_names q)))
    (flat_map (next_faults p q) q.next) (order_faults q.states q.next) (when (nat_lt (length q.next) (length q.states)) q.end NextMissing)
    _ _ _ _ _ _
    (c.note.ensures ∙ ap (λ b. least c.args.first.now (when (not b) q.name.at NoModule)) c.has_module-is_lone.ensures)
    (c.in_ok-note_states.ensures ∙ ap (λ ss. least c.note.new.first
    (repeats [] (names ss) ++ (past 4 (places (names ss)) ++ flat_map (λ s. scale_faults s.scale) ss))) c.deref.ensures.value)
    c.in_ok-note_taken.ensures
    c.in_ok-note_noise.ensures
    c.in_ok-note_nexts.ensures
