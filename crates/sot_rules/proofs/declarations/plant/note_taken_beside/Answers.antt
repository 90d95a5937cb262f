-- Of `note_taken_beside`: that its set has the names of the state variables, and its promises.
use Rattle.std.proofs.Common.{◌∙◌, [], ap, sym}
use Rattle.sot_syntax_tree.specs.declared.tree.StateDecl.{StateDecl}
use Rattle.sot_syntax_tree.specs.TreeViews.{plant_view}
use Rattle.sot_rules.specs.Faults.{least}
use Rattle.sot_rules.specs.Groups.{inputs_faults, sees_faults}
use Rattle.sot_rules.specs.Indexes.{program_in}
use Rattle.sot_names.specs.NameSets.{keys_in}
use Rattle.sot_rules.proofs.Least.{least_append}
use Rattle.sot_names.proofs.NameSets.{mapped_held}
use Rattle.sot_rules.proofs.declarations.plant.note_taken_beside.Goals as goal

pub note_inputs-requires-clause-states : goal.note_inputs-requires-clause-states
note_inputs-requires-clause-states c =
    mapped_held (λ (s : StateDecl). s.name) (keys_in c.add_names.new.set) c.deref.result.now c.args.q.now.states.items
    (c.in_ok-add_names.ensures [] c.requires.empty) c.deref.ensures.value

pub note_sees-requires-clause-states : goal.note_sees-requires-clause-states
note_sees-requires-clause-states c =
    mapped_held (λ (s : StateDecl). s.name) (keys_in c.add_names.new.set) c.deref.result.now c.args.q.now.states.items
    (c.in_ok-add_names.ensures [] c.requires.empty) c.deref.ensures.value

pub returns : goal.returns
returns c =
    let p = program_in c.args.index.now in
    let q = plant_view c.args.q.now in
    c.in_ok-note_sees.ensures
    ∙ ap (λ z. least z (sees_faults p q)) c.in_ok-note_inputs.ensures
    ∙ sym (least_append c.args.first.now (inputs_faults p q) (sees_faults p q))
