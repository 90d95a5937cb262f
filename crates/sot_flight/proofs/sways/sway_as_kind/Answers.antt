use Rattle.std.proofs.Common.{sym, subst}
use Rattle.serde_json.specs.View.{members_view}
use Rattle.sot_json.specs.Answers.{Gives}
use Rattle.sot_flight.specs.declared.sway.SwayKind.{SwayKind}
use Rattle.sot_flight.specs.FlightView.{sway_of}
use Rattle.sot_flight.specs.FlightFormat.{sway_as}
use Rattle.sot_flight.proofs.sways.sway_as_kind.Goals as goal

pub returns-in-Edge : goal.returns-in-Edge
returns-in-Edge c =
    let plant = c.args.plant.now in
    let said = λ (kind : SwayKind). Gives sway_of c.edge_sway.result (sway_as plant (members_view c.args.object.now.entries) kind) in
    subst said (sym c.in-Edge.is) (c.edge_sway.ensures plant)
