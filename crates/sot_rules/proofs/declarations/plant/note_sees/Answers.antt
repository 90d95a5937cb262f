-- Of `note_sees`: its promises.
use Rattle.std.proofs.Common.{◌∙◌, [], ap}
use Rattle.std.specs.Prelude.{flat_map}
use Rattle.std.proofs.lemmas.List.{map-id}
use Rattle.sot_syntax_tree.specs.TreeViews.{plant_view}
use Rattle.sot_rules.specs.Lists.{places}
use Rattle.sot_rules.specs.Faults.{least, together, repeats, past, seen_lists}
use Rattle.sot_rules.specs.Indexes.{program_in}
use Rattle.sot_rules.proofs.Sequences.{three_noted}
use Rattle.sot_rules.proofs.declarations.plant.note_sees.Goals as goal

pub returns : goal.returns
returns c =
    let p = program_in c.args.index.now in
    let q = plant_view c.args.q.now in
    three_noted (flat_map (λ i. together (seen_lists p q i)) q.sees) (repeats [] q.sees) (past 16 (places q.sees)) _ _ _ _
    (c.note_seen_names.ensures ∙ ap (λ is. least c.args.first.now (flat_map (λ i. together (seen_lists p q i)) is)) c.deref.ensures.value)
    (c.in_ok-note_repeated_names.ensures ∙ ap (λ is. least c.note_seen_names.new.first (repeats [] is)) c.deref-2.ensures.value)
    (c.note_past.ensures ∙ ap (λ is. least c.note_repeated_names.new.first (past 16 (places is))) (map-id c.deref-3.result.now ∙ c.deref-3.ensures.value))
