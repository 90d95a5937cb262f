-- Of `take_all`: that its loop keeps what it says, and its promises.
use Rattle.sot_names.specs.NameHashes.{with_hash_of}
use Rattle.sot_names.proofs.Steps.{step_names, names_end}
use Rattle.sot_names.proofs.hasher.NameKey.take_all.Goals as goal

pub loop-item-preserved : goal.loop-item-preserved
loop-item-preserved g c =
    step_names g.T.Named.ident with_hash_of c.args.items.now c.loop-item.item-index c.item-item.result c.ident.result.now _ _ _
    c.loop-item-test.true c.item-item.is c.ident.ensures c.loop-item.invariant c.take.ensures

pub returns : goal.returns
returns g c = names_end g.T.Named.ident with_hash_of c.args.items.now c.loop-item.item-index _ _ c.loop-item-test.false c.loop-item.invariant
