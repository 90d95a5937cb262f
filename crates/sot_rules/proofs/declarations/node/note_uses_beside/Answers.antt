-- Of `note_uses_beside`: that its set has what the node reads, and its promises.
use Rattle.std.proofs.Common.{◌∙◌, ap}
use Rattle.sot_syntax_tree.specs.TreeViews.{node_view}
use Rattle.sot_rules.specs.Faults.{least}
use Rattle.sot_rules.specs.Groups.{reads_faults, writes_faults, locals_faults}
use Rattle.sot_rules.specs.Indexes.{program_in}
use Rattle.sot_names.specs.NameSets.{keys_in}
use Rattle.sot_names.proofs.NameSets.{listed_held}
use Rattle.sot_rules.proofs.Sequences.{three_noted}
use Rattle.sot_rules.proofs.declarations.node.note_uses_beside.Goals as goal

pub note_writes-requires-clause-reads : goal.note_writes-requires-clause-reads
note_writes-requires-clause-reads c =
    listed_held (keys_in c.note_reads.new.used) c.deref.result.now c.args.n.now.reads.items c.in_ok-note_reads.ensures.used c.deref.ensures.value

pub note_locals-requires : goal.note_locals-requires
note_locals-requires c =
    listed_held (keys_in c.note_reads.new.used) c.deref.result.now c.args.n.now.reads.items c.in_ok-note_reads.ensures.used c.deref.ensures.value

pub returns : goal.returns
returns c =
    let p = program_in c.args.index.now in
    let n = node_view c.args.n.now in
    three_noted (reads_faults p n.reads) (writes_faults p n) (locals_faults n) _ _ _ _
    (c.in_ok-note_reads.ensures.noted ∙ ap (λ is. least c.args.first.now (reads_faults p is)) c.deref.ensures.value)
    c.in_ok-note_writes.ensures
    c.in_ok-note_locals.ensures
