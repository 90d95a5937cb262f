-- The five lists together are the program's tables, which meet the rules of tables.
use Rattle.sot_rules.specs.Indexes.{program_in}
use Rattle.sot_typing.proofs.Gathered.{gathered}
use Rattle.sot_typing.proofs.Meets.{tables_meet}
use Rattle.sot_typing.proofs.tables.lists.all_tables.Goals as goal

pub invariant_of-result : goal.invariant_of-result
invariant_of-result c =
    let p = program_in c.args.index.now in
    let l = c.in_ok-put_declarations.ensures in
    tables_meet p _ c.requires.formed c.requires.faultless (gathered p _ l.topics l.scalars l.plants l.nodes l.modules)

pub returns : goal.returns
returns c =
    let l = c.in_ok-put_declarations.ensures in
    gathered (program_in c.args.index.now) _ l.topics l.scalars l.plants l.nodes l.modules
