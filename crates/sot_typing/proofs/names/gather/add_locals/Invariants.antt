-- The loop of `add_locals`: the locals so far stand behind the others, and then those that are left.
use Rattle.std.proofs.Common.{◌≡◌, ◌++◌, drop, map}
use Rattle.sot_syntax_tree.specs.TreeViews.{local_view}
use Rattle.sot_rules.specs.Names.{local_thing}
use Rattle.sot_typing.specs.Things.{things_in}
use Rattle.sot_typing.proofs.names.gather.add_locals.Given as goal

abbrev pub invariant-loop-l : goal.invariant-loop-l
invariant-loop-l l =
    things_in l.things.items ++ map local_thing (map local_view (drop l.l-index l.locals))
    ≡ things_in l.fn.things.items ++ map local_thing (map local_view l.locals)
