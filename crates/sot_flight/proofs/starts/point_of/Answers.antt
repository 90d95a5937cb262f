use Rattle.std.proofs.Common.{◌≤◌, arith}
use Rattle.serde_json.specs.View.{members_view}
use Rattle.sot_flight.proofs.ReadForms.{point_there}
use Rattle.sot_flight.proofs.starts.point_of.Goals as goal

pub unreachable-requires : goal.unreachable-requires
unreachable-requires c =
    let plant = c.args.plant.now in
    let some : 1 ≤ c.len.result = omega (arith, c.requires, c.len.ensures, plant.states.ok.0) in
    let few : c.len.result ≤ 4 = omega (arith, c.requires, c.len.ensures, plant.states.ok.0) in
    point_there c.as_str.result.now c.len.result (members_view c.args.object.now.entries) c.in_ok-numbers.numbers.items c.deref.result.now
    c.in_ok-numbers.ensures c.deref.ensures.value some few c.in-None.ensures
