-- The loop of `take_all`: what is taken in, and then what is left.
use Rattle.std.proofs.Common.{◌≡◌, map, drop, fold}
use Rattle.sot_names.specs.NameHashes.{with_hash_of}
use Rattle.sot_names.proofs.hasher.NameKey.take_all.Given as goal

abbrev pub invariant-loop-item : goal.invariant-loop-item
invariant-loop-item g l =
    fold with_hash_of l.self.names (map g.T.Named.ident (drop l.item-index l.items))
    ≡ fold with_hash_of l.fn.self.names (map g.T.Named.ident l.items)
