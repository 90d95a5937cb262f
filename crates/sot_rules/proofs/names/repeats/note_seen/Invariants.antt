-- The loop of `note_seen`: what is noted and seen, and then what is left.
use Rattle.std.proofs.Common.{◌≡◌, map, drop, fold}
use Rattle.sot_rules.specs.Faults.{least, repeats}
use Rattle.sot_names.specs.SeenNames.{seen_names, with_name}
use Rattle.sot_rules.proofs.names.repeats.note_seen.Given as goal
use Rattle.sot_names.specs.NameSets.{keys_in}

abbrev pub invariant-loop-item : goal.invariant-loop-item
invariant-loop-item g l = record {
  noted : least l.first (repeats (seen_names (keys_in l.seen)) (map g.T.Named.ident (drop l.item-index l.items)))
      ≡ least l.fn.first (repeats (seen_names (keys_in l.fn.seen)) (map g.T.Named.ident l.items));
  seen : fold with_name (seen_names (keys_in l.seen)) (map g.T.Named.ident (drop l.item-index l.items))
      ≡ fold with_name (seen_names (keys_in l.fn.seen)) (map g.T.Named.ident l.items);
}
