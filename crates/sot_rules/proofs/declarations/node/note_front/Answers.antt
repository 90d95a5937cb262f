-- Of `note_front`: its promise, where the rest stands behind the first fault.
use Rattle.std.proofs.Common.{◌∙◌, ◌++◌, ap₂, sym}
use Rattle.std.proofs.lemmas.List.{take-append-drop}
use Rattle.sot_syntax_tree.specs.TreeViews.{node_view}
use Rattle.sot_rules.specs.Indexes.{program_in}
use Rattle.sot_rules.proofs.Fronts.{front_noted}
use Rattle.sot_rules.proofs.declarations.node.note_front.Goals as goal

pub returns-then-settled-clause-all : goal.returns-then-settled-clause-all
returns-then-settled-clause-all c h =
    front_noted (program_in c.args.index.now) (node_view c.args.n.now) c.split_at.result.0.now c.split_at.result.1.now c.args.first.now c.in-Some.fault
    (ap₂ (λ xs ys. xs ++ ys) c.split_at.ensures.front c.split_at.ensures.back ∙ take-append-drop 128 c.deref.result.now ∙ c.deref.ensures.value)
    (sym c.are_uses_behind-settled.ensures ∙ h)
    (sym c.in-Some.is ∙ c.in_ok-note_some_reads.ensures)
