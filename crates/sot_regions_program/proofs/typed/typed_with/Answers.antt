use Rattle.std.proofs.Common.{subst}
use Rattle.sot_syntax_tree.specs.Trees.{Program}
use Rattle.sot_syntax_tree.specs.TreeViews.{program_view}
use Rattle.sot_report.specs.Missions.{Resolves}
use Rattle.sot_regions_program.proofs.Searched.{changed_formed, changed_faultless, given_is}
use Rattle.sot_regions_program.proofs.typed.typed_with.Goals as goal

pub spelled-requires-clause-spelled : goal.spelled-requires-clause-spelled
spelled-requires-clause-spelled c = (c.requires.may.0, c.requires.may.2.0)

pub tables_of-requires-clause-formed : goal.tables_of-requires-clause-formed
tables_of-requires-clause-formed c =
    changed_formed c.args.text.now c.args.regions.now (program_view c.in_ok-given.given) (program_view c.in_ok-program.program) c.requires.may
    c.in_ok-given.ensures c.in_ok-program.ensures

pub tables_of-requires-clause-faultless : goal.tables_of-requires-clause-faultless
tables_of-requires-clause-faultless c =
    changed_faultless c.args.text.now c.args.regions.now (program_view c.in_ok-given.given) (program_view c.in_ok-program.program) c.requires.may
    c.in_ok-given.ensures c.in_ok-program.ensures

pub returns : goal.returns
returns c = λ p spells.
    let is = given_is c.args.text.now c.args.regions.now (program_view c.in_ok-given.given) (program_view c.in_ok-program.program) p
    c.in_ok-given.ensures c.in_ok-program.ensures spells
    in
    (is, subst (λ (q : Program). Resolves q c.in_ok-tables.tables) is c.in_ok-tables.ensures)
