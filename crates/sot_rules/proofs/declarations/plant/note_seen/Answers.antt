-- Of `note_seen`: its promise, where nothing is looked up.
use Rattle.sot_syntax_tree.specs.TreeViews.{plant_view}
use Rattle.sot_rules.specs.Indexes.{program_in}
use Rattle.sot_rules.proofs.Fronts.{sight_stays}
use Rattle.sot_rules.proofs.declarations.plant.note_seen.Goals as goal

pub returns-then-stands_behind : goal.returns-then-stands_behind
returns-then-stands_behind c =
    sight_stays (program_in c.args.index.now) c.args.name.now c.args.first.now (c.stands_behind.ensures c.if-stands_behind.true) (plant_view c.args.q.now)
