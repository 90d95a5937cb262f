-- The loop of `put_locals`: what stands, and then the rows of the locals that are left.
use Rattle.std.proofs.Common.{◌≡◌, ◌++◌, map, drop}
use Rattle.sot_syntax_tree.specs.TreeViews.{local_view}
use Rattle.sot_typing.specs.Resolved.{local_info}
use Rattle.sot_typing.proofs.tables.parts.put_locals.Given as goal

abbrev pub invariant-loop-l : goal.invariant-loop-l
invariant-loop-l l =
    l.infos.items ++ map local_info (map local_view (drop l.l-index l.locals)) ≡ l.initial.infos.items ++ map local_info (map local_view l.locals)
