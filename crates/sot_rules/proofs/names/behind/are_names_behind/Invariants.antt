-- The loop of `are_names_behind`: what is left decides.
use Rattle.std.proofs.Common.{◌≡◌, drop, map}
use Rattle.sot_rules.specs.Behind.{names_behind}
use Rattle.sot_rules.proofs.names.behind.are_names_behind.Given as goal

abbrev pub invariant-loop-item : goal.invariant-loop-item
invariant-loop-item g l =
    names_behind l.from (map g.T.Named.ident (drop l.item-index l.items)) ≡ names_behind l.from (map g.T.Named.ident l.items)
