-- Of `note_input`: its promise, where nothing is looked up.
use Rattle.sot_rules.specs.Indexes.{program_in}
use Rattle.sot_rules.proofs.Fronts.{input_stays}
use Rattle.sot_rules.proofs.declarations.plant.note_input.Goals as goal

pub returns-then-stands_behind : goal.returns-then-stands_behind
returns-then-stands_behind c q held =
    input_stays (program_in c.args.index.now) c.args.name.now c.args.first.now (c.stands_behind.ensures c.if-stands_behind.true) q
