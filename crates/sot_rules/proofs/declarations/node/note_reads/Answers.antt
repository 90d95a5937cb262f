-- Of `note_reads`: its promises.
use Rattle.std.proofs.Common.{◌∙◌, [], map, ap, refl}
use Rattle.std.specs.Prelude.{flat_map}
use Rattle.std.proofs.lemmas.List.{map-id}
use Rattle.sot_syntax_tree.specs.declared.tree.Ident.{Ident}
use Rattle.sot_rules.specs.Names.{meaning}
use Rattle.sot_rules.specs.Tests.{read_size}
use Rattle.sot_rules.specs.Faults.{least, repeats, passes, read_faults}
use Rattle.sot_rules.specs.Indexes.{program_in}
use Rattle.sot_names.specs.SeenNames.{seen_names}
use Rattle.sot_names.specs.NameSets.{keys_in}
use Rattle.sot_names.proofs.NameSets.{none_held, more_held, one_held}
use Rattle.sot_rules.proofs.Sequences.{three_noted}
use Rattle.sot_rules.proofs.declarations.node.note_reads.Goals as goal

pub returns-clause-noted : goal.returns-clause-noted
returns-clause-noted c =
    let p = program_in c.args.index.now in
    let names = c.args.names.now in
    three_noted (flat_map (read_faults p) names) (repeats [] names) (passes (λ i. read_size (meaning p i)) 64 0 names) _ _ _ _
    c.note_read_names.ensures
    (c.in_ok-note_seen.ensures.noted
    ∙ ap (λ keys. least c.note_read_names.new.first (repeats (seen_names keys) (map (λ (i : Ident). i) names))) c.requires.empty
    ∙ ap (λ is. least c.note_read_names.new.first (repeats [] is)) (map-id names))
    c.note_passes.ensures

pub returns-clause-used : goal.returns-clause-used
returns-clause-used c =
    let names = c.args.names.now in
    one_held (keys_in c.note_seen.new.seen) names names
    (more_held (keys_in c.args.used.now) (keys_in c.note_seen.new.seen) (map (λ i. i) names) c.in_ok-note_seen.ensures.seen []
    (none_held (keys_in c.args.used.now) c.requires.empty))
    refl
