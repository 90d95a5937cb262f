-- Of `put_slots_meant`: what its calls ask for.
use Rattle.std.proofs.Common.{arith, ap, length}
use Rattle.sot_syntax_tree.specs.TreeViews.{declaration_view}
use Rattle.sot_typing.proofs.names.places.put_slots_meant.Goals as goal

pub put_state_slots-requires : goal.put_state_slots-requires
put_state_slots-requires c =
    let few = c.in-Some.ensures.narrow _ (ap declaration_view c.in-Plant.is) in
    let same = ap (λ q. length q.states.items) c.content.ensures in
    omega (arith, few, same, c.len.ensures)
