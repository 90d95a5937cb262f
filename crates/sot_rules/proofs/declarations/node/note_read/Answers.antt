-- Of `note_read`: its promise, where nothing is looked up.
use Rattle.std.proofs.Common.{◌&&◌, not, sym}
use Rattle.sot_rules.specs.Names.{meaning, is_topic, is_plant}
use Rattle.sot_rules.specs.Indexes.{program_in}
use Rattle.sot_rules.proofs.declarations.node.note_read.Goals as goal

pub returns-then-is_past : goal.returns-then-is_past
returns-then-is_past c =
    let d = meaning (program_in c.args.index.now) c.args.name.now in
    sym (c.is_past.ensures c.if-is_past.true (not (is_topic d) && not (is_plant d)))
