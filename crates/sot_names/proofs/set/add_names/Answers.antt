-- Of `add_names`: that its loop keeps what it says, and its promises.
use Rattle.std.proofs.Common.{◌∙◌, ap, map}
use Rattle.sot_names.specs.SeenNames.{seen_names, with_name}
use Rattle.sot_names.specs.NameSets.{keys_in}
use Rattle.sot_names.proofs.NameSets.{more_held}
use Rattle.sot_names.proofs.SeenNames.{seen_insert}
use Rattle.sot_names.proofs.Steps.{step_names, names_end}
use Rattle.sot_names.proofs.set.add_names.Goals as goal

pub loop-item-preserved : goal.loop-item-preserved
loop-item-preserved g c =
    step_names g.T.Named.ident with_name c.args.items.now c.loop-item.item-index c.item-item.result c.ident.result.now _ _ _
    c.loop-item-test.true c.item-item.is c.ident.ensures c.loop-item.invariant
    (ap seen_names c.in_ok-insert_name.ensures.keys ∙ seen_insert (keys_in c.loop-item.set) c.as_bytes.result c.ident.result.now c.as_bytes.ensures)

pub returns : goal.returns
returns g c =
    more_held (keys_in c.args.set.now) (keys_in c.loop-item.set) (map g.T.Named.ident c.args.items.now)
    (names_end g.T.Named.ident with_name c.args.items.now c.loop-item.item-index _ _ c.loop-item-test.false c.loop-item.invariant)
