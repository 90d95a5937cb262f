-- The loop of `add_locals`: the locals so far are in the table.
use Rattle.std.proofs.Common.{List, ◌++◌, map, take}
use Rattle.sot_syntax_tree.specs.TreeViews.{local_view}
use Rattle.sot_rules.specs.Names.{Part, Thing, local_thing}
use Rattle.sot_rules.specs.Alike.{StandsFor}
use Rattle.sot_rules.proofs.names.gather.add_locals.Given as goal

abbrev pub invariant-loop-l : goal.invariant-loop-l
invariant-loop-l l =
    (tables : List (List Part)) (xs : List Thing) → StandsFor tables l.fn.things xs
    → StandsFor tables l.things (xs ++ map (λ d. local_thing (local_view d)) (take l.l-index l.locals))
