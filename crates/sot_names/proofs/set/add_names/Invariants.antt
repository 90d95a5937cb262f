-- The loop of `add_names`: what is added, and then what is left.
use Rattle.std.proofs.Common.{◌≡◌, map, drop, fold}
use Rattle.sot_names.specs.SeenNames.{seen_names, with_name}
use Rattle.sot_names.proofs.set.add_names.Given as goal
use Rattle.sot_names.specs.NameSets.{keys_in}

abbrev pub invariant-loop-item : goal.invariant-loop-item
invariant-loop-item g l =
    fold with_name (seen_names (keys_in l.set)) (map g.T.Named.ident (drop l.item-index l.items))
    ≡ fold with_name (seen_names (keys_in l.fn.set)) (map g.T.Named.ident l.items)
