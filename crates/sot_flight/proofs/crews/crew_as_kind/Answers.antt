use Rattle.std.proofs.Common.{map, sym, subst}
use Rattle.serde_json.specs.View.{members_view}
use Rattle.sot_json.specs.Answers.{Gives}
use Rattle.sot_flight.specs.declared.crew.CrewKind.{CrewKind}
use Rattle.sot_flight.specs.FlightView.{crew_of}
use Rattle.sot_flight.specs.FlightFormat.{crew_as}
use Rattle.sot_flight.proofs.crews.crew_as_kind.Goals as goal

pub returns-in-Edge : goal.returns-in-Edge
returns-in-Edge c =
    let done = map crew_of c.args.done.now.items in
    let said = λ (kind : CrewKind). Gives crew_of c.edge_crew.result (crew_as c.args.guests done c.args.node.now (members_view c.args.object.now.entries) kind) in
    subst said (sym c.in-Edge.is) (c.edge_crew.ensures c.args.guests done c.args.node.now)
