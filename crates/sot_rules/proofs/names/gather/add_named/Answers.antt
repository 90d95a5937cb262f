-- Of `add_named`: that its loop keeps what it says.
use Rattle.std.proofs.Common.{◌++◌, Option, take}
use Rattle.std.specs.List.{filter_map}
use Rattle.sot_syntax_tree.specs.declared.tree.Ident.{Ident}
use Rattle.sot_rules.specs.Names.{Thing, meaning}
use Rattle.sot_rules.specs.Indexes.{program_in}
use Rattle.sot_rules.specs.Alike.{tables_in}
use Rattle.sot_rules.specs.NameLists.{thing_of_list}
use Rattle.sot_rules.proofs.StandsFor.{listed_more, stands_same}
use Rattle.sot_rules.proofs.names.gather.add_named.Goals as goal

pub loop-name-preserved : goal.loop-name-preserved
loop-name-preserved c xs stands =
    let meant : Ident → Option Thing = λ i. thing_of_list c.args.list (meaning (program_in c.args.index.now) i) in
    let names = c.args.names.now in
    let i = c.loop-name.name-index in
    let tables = tables_in c.args.index.now in
    stands_same tables _ _ c.add_kept.new.things
    (listed_more meant xs names i c.name-item.result c.loop-name-test.true c.name-item.is)
    (c.in_ok-add_kept.ensures tables (meant c.name-item.result) c.kept.ensures (xs ++ filter_map meant (take i names)) (c.loop-name.invariant xs stands))
