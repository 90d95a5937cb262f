-- A flight as contracts see it.
use Rattle.std.specs.Prelude.{map}
use Rattle.sot_flight.specs.declared.flight.Flight.TheInside.{Inside}
use Rattle.sot_flight.specs.declared.input.Input.{Input}
use Rattle.sot_flight.specs.declared.input.Given.{Given}
use Rattle.sot_flight.specs.declared.sway.Sway as kept_sway
use Rattle.sot_flight.specs.declared.sway.Sway.TheVariants as kept_sways
use Rattle.sot_flight.specs.declared.crew.Crew as kept_crew
use Rattle.sot_flight.specs.declared.crew.Crew.TheVariants as kept_crews
use Rattle.sot_flight.specs.Plans.{StatedInput, Plan, Sway, Still, Low, High, Listed, Drawn, Crew}
use Rattle.sot_flight.specs.Plans.{Coded, Script, Wild, Guest}

abbrev pub sway_of : kept_sway.Sway → Sway
sway_of kept_sways.Still = Still
sway_of kept_sways.Low = Low
sway_of kept_sways.High = High
sway_of (kept_sways.Listed rows) = Listed (map (λ row. row.items) rows.items)
sway_of (kept_sways.Drawn spread seed stream) = Drawn spread seed stream

abbrev pub crew_of : kept_crew.Crew → Crew
crew_of kept_crews.Coded = Coded
crew_of (kept_crews.Script drafts) = Script (map (λ draft. draft.items) drafts.items)
crew_of (kept_crews.Wild spread seed stream) = Wild spread seed stream
crew_of (kept_crews.Guest index) = Guest index

abbrev pub input_of : Input → StatedInput
input_of x = record { at = x.at; topic = x.topic; value = x.value.items }

abbrev pub given_of : Given → StatedInput
given_of x = record { at = x.at; topic = x.topic; value = x.value.now }

abbrev pub plan : Inside → Plan
plan f = record {
  horizon = f.horizon;
  start = f.start.items;
  inputs = map input_of f.inputs.items;
  sways = map sway_of f.sways.items;
  crews = map crew_of f.crews.items;
  events = f.events;
  numbers = f.numbers;
}
