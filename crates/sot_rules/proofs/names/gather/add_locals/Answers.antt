-- Of `add_locals`: that its loop keeps what it says, and its promises.
use Rattle.std.proofs.Common.{ap, ◌++◌}
use Rattle.sot_syntax_tree.specs.declared.tree.LocalDecl.{LocalDecl}
use Rattle.sot_syntax_tree.specs.TreeViews.{local_view}
use Rattle.sot_rules.specs.Names.{alone, local_thing}
use Rattle.sot_rules.proofs.StandsFor.{alone_more, map_twice, mapped_all, stands_same}
use Rattle.sot_rules.proofs.names.gather.add_locals.Goals as goal

pub loop-l-preserved : goal.loop-l-preserved
loop-l-preserved c =
    alone_more (λ (d : LocalDecl). local_thing (local_view d)) c.args.locals.now c.loop-l.l-index c.l-item.result _ _ c.args.things.now c.loop-l.things
    c.add.new.table
    c.loop-l-test.true c.l-item.is c.loop-l.invariant c.in_ok-add.ensures c.as_bytes.ensures (ap alone c.scalar_sort.ensures)

pub returns : goal.returns
returns c tables xs stands =
    stands_same tables _ _ c.loop-l.things (ap (λ l. xs ++ l) (map_twice local_thing local_view c.args.locals.now))
    (mapped_all tables (λ (d : LocalDecl). local_thing (local_view d)) xs c.args.locals.now c.loop-l.l-index c.loop-l.things c.loop-l-test.false
    (c.loop-l.invariant tables xs stands))
