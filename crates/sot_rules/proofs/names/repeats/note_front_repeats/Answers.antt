-- Of `note_front_repeats`: its promise, where the rest stands behind the first fault.
use Rattle.std.proofs.Common.{◌∙◌, ◌++◌, ap₂, sym}
use Rattle.std.proofs.lemmas.List.{take-append-drop}
use Rattle.sot_rules.proofs.Fronts.{front_repeats}
use Rattle.sot_rules.proofs.names.repeats.note_front_repeats.Goals as goal

pub returns-then-settled-clause-all : goal.returns-then-settled-clause-all
returns-then-settled-clause-all g c h =
    front_repeats g.T.Named.ident c.args.items.now c.split_at.result.0.now c.split_at.result.1.now c.args.first.now c.in-Some.fault
    (ap₂ (λ xs ys. xs ++ ys) c.split_at.ensures.front c.split_at.ensures.back ∙ take-append-drop 128 c.args.items.now)
    (sym c.are_names_behind-settled.ensures ∙ h)
    (sym c.in-Some.is ∙ c.in_ok-note_all_repeats.ensures)
