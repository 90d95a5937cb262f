-- Worked flights, computed.
use Rattle.std.proofs.Common.{refl}
use Rattle.std.specs.Fmt.{digits}
use Rattle.std.specs.Str.{is_utf8, chars}
use Rattle.serde_json.proofs.OnLiterals.{serde_json_on_literals}
use Rattle.sot_json.specs.Json.{whole, count, each_after, at}
use Rattle.sot_cert.specs.CertFormat.{number}
use Rattle.sot_flight.specs.ListForms.{number_in, numbers_in, numbers, rows_in, slot, draft, drafts, for_each_after}
use Rattle.sot_flight.specs.FlightFormat.{hold, start, time, topic, input, inputs, sway_kind, sway_as, sway, sways, crew_kind, guest, crew_as, crew, crews, counted}
use Rattle.sot_flight.specs.FlightFormat.{flight}
use Rattle.sot_flight.proofs.facts.flights_are_as_stated.Goals as goal

pub returns-clause-line : goal.returns-clause-line
unfolding serde_json_on_literals is_utf8 chars digits whole count each_after at number number_in numbers_in numbers rows_in slot draft drafts for_each_after
    start time topic input inputs sway_kind sway_as sway sways crew_kind guest crew_as crew crews counted flight
returns-clause-line c g = refl

pub returns-clause-kinds : goal.returns-clause-kinds
unfolding serde_json_on_literals is_utf8 chars digits whole count each_after at number number_in numbers_in numbers rows_in slot draft drafts for_each_after
    start time topic input inputs sway_kind sway_as sway sways crew_kind guest crew_as crew crews counted flight
returns-clause-kinds c g = refl

pub returns-clause-edges : goal.returns-clause-edges
unfolding serde_json_on_literals is_utf8 chars digits whole count hold each_after at number number_in numbers_in numbers rows_in slot draft drafts for_each_after
    start time topic input inputs sway_kind sway_as sway sways crew_kind guest crew_as crew crews counted flight
returns-clause-edges c g = refl

pub returns-clause-repeated : goal.returns-clause-repeated
unfolding serde_json_on_literals is_utf8 chars digits whole count each_after at number number_in numbers_in numbers rows_in slot draft drafts for_each_after
    start time topic input inputs sway_kind sway_as sway sways crew_kind guest crew_as crew crews counted flight
returns-clause-repeated c g = refl
