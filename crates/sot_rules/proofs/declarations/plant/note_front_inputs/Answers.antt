-- Of `note_front_inputs`: its promise, where the rest stands behind the first fault.
use Rattle.std.proofs.Common.{◌∙◌, ◌++◌, ap, ap₂, sym}
use Rattle.std.proofs.lemmas.List.{take-append-drop, map-id}
use Rattle.sot_rules.specs.Behind.{names_behind}
use Rattle.sot_rules.specs.Indexes.{program_in}
use Rattle.sot_rules.proofs.Fronts.{front_inputs}
use Rattle.sot_rules.proofs.declarations.plant.note_front_inputs.Goals as goal

pub returns-then-settled-clause-all : goal.returns-then-settled-clause-all
returns-then-settled-clause-all c h q held =
    front_inputs (program_in c.args.index.now) q c.args.names.now c.split_at.result.0.now c.split_at.result.1.now c.args.first.now c.in-Some.fault
    (ap₂ (λ xs ys. xs ++ ys) c.split_at.ensures.front c.split_at.ensures.back ∙ take-append-drop 128 c.args.names.now)
    (sym (ap (names_behind c.in-Some.fault.at) (map-id c.split_at.result.1.now)) ∙ sym c.are_names_behind-settled.ensures ∙ h)
    (sym c.in-Some.is ∙ c.in_ok-note_some_inputs.ensures q held)
