-- Of `note_program`: its promises.
use Rattle.std.proofs.Common.{[], map}
use Rattle.std.specs.Prelude.{flat_map}
use Rattle.sot_rules.specs.Lists.{places}
use Rattle.sot_rules.specs.Names.{declared_name}
use Rattle.sot_rules.specs.Tests.{topic_name, plant_name, node_name, module_name, names_of}
use Rattle.sot_rules.specs.Faults.{repeats, past, declaration_faults, faults}
use Rattle.sot_rules.specs.Indexes.{program_in}
use Rattle.sot_rules.proofs.Sequences.{program_noted}
use Rattle.sot_rules.proofs.program.note_program.Goals as goal

pub returns : goal.returns
unfolding faults
returns c =
    let p = program_in c.args.index.now in
    program_noted (repeats [] (map declared_name p.decls))
    (past 512 (places (names_of topic_name p))) (past 300 (places (names_of node_name p)))
    (past 100 (places (names_of module_name p))) (past 100 (places (names_of plant_name p)))
    (flat_map (declaration_faults p) p.decls) _ _ _ _ _ _ _
    c.in_ok-note_repeated_declarations.ensures c.note_past_kind.ensures c.note_past_kind-2.ensures c.note_past_kind-3.ensures c.note_past_kind-4.ensures
    c.in_ok-note_declarations.ensures
