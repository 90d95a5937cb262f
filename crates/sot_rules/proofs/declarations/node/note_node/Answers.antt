-- Of `note_node`: its promises.
use Rattle.std.proofs.Common.{[]}
use Rattle.std.specs.Prelude.{flat_map}
use Rattle.sot_syntax_tree.specs.TreeViews.{node_view}
use Rattle.sot_rules.specs.Lists.{places}
use Rattle.sot_rules.specs.Names.{meaning, node_scope}
use Rattle.sot_rules.specs.Tests.{topic_size, read_size, local_names}
use Rattle.sot_rules.specs.Faults.{together, times_faults, repeats, past, passes, read_faults, write_lists, local_lists, body_faults}
use Rattle.sot_rules.specs.Indexes.{program_in}
use Rattle.sot_rules.proofs.Sequences.{node_noted}
use Rattle.sot_rules.proofs.declarations.node.note_node.Goals as goal

pub returns : goal.returns
returns c =
    let p = program_in c.args.index.now in
    let n = node_view c.args.n.now in
    node_noted (times_faults n.period n.offset)
    (flat_map (read_faults p) n.reads) (repeats [] n.reads) (passes (λ i. read_size (meaning p i)) 64 0 n.reads)
    (flat_map (λ i. together (write_lists p n i)) n.writes) (repeats [] n.writes) (passes (λ i. topic_size (meaning p i)) 8 0 n.writes)
    (flat_map (λ l. together (local_lists n l)) n.locals) (repeats [] (local_names n)) (past 16 (places (local_names n)))
    (body_faults (node_scope p n) n.body) _ _ _ _
    c.note_times.ensures
    c.in_ok-note_uses.ensures
    c.in_ok-note_body.ensures
