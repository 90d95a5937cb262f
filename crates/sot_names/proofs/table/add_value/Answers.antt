-- Of `add_value`: its promises.
use Rattle.std.proofs.Common.{◌∙◌, ap, arith, unwrap_or}
use Rattle.indexmap.specs.Entry.{map_with_value}
use Rattle.sot_names.proofs.NameTables.{put}
use Rattle.sot_names.proofs.table.add_value.Goals as goal

pub returns : goal.returns
returns g c n =
    let w = c.or_insert.result.now in
    let kept = c.or_insert.ensures.value ∙ ap (λ o. unwrap_or o c.args.value) c.in_ok-slot.ensures.value in
    let given = put c.args.table.now (map_with_value c.in_ok-slot.slot w) c.args.name w c.args.value kept (c.in_ok-slot.ensures.update.0 w).0 n in
    grind (arith, given)
