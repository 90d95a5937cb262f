-- Worked faults, computed.
use Rattle.std.proofs.Common.{refl}
use Rattle.std.specs.Fmt.{digits}
use Rattle.std.specs.Str.{is_utf8, chars}
use Rattle.serde_json.proofs.OnLiterals.{serde_json_on_literals}
use Rattle.sot_json.specs.Json.{whole, count, each_after, at}
use Rattle.sot_cert.specs.CertFormat.{number}
use Rattle.sot_flight.specs.ListForms.{number_in, numbers_in, numbers, rows_in, slot, draft, drafts, for_each_after}
use Rattle.sot_flight.specs.FlightFormat.{hold, start, time, topic, input, inputs, sway_kind, sway_as, sway, sways, crew_kind, guest, crew_as, crew, crews, counted}
use Rattle.sot_flight.specs.FlightFormat.{flight}
use Rattle.sot_flight.proofs.facts.flight_faults_are_as_stated.Goals as goal

pub returns-clause-keys : goal.returns-clause-keys
unfolding serde_json_on_literals is_utf8 chars digits whole count hold each_after at number number_in numbers_in numbers rows_in slot draft drafts for_each_after
    start time topic input inputs sway_kind sway_as sway sways crew_kind guest crew_as crew crews counted flight
returns-clause-keys c g = (refl, refl, refl, refl, refl, refl, refl, refl, refl, refl)

pub returns-clause-horizons : goal.returns-clause-horizons
unfolding serde_json_on_literals is_utf8 chars digits whole count hold each_after at number number_in numbers_in numbers rows_in slot draft drafts for_each_after
    start time topic input inputs sway_kind sway_as sway sways crew_kind guest crew_as crew crews counted flight
returns-clause-horizons c g = (refl, refl, refl, refl)

pub returns-clause-starts : goal.returns-clause-starts
unfolding serde_json_on_literals is_utf8 chars digits whole count hold each_after at number number_in numbers_in numbers rows_in slot draft drafts for_each_after
    start time topic input inputs sway_kind sway_as sway sways crew_kind guest crew_as crew crews counted flight
returns-clause-starts c g = (refl, refl, refl, refl, refl)

pub returns-clause-inputs : goal.returns-clause-inputs
unfolding serde_json_on_literals is_utf8 chars digits whole count hold each_after at number number_in numbers_in numbers rows_in slot draft drafts for_each_after
    start time topic input inputs sway_kind sway_as sway sways crew_kind guest crew_as crew crews counted flight
returns-clause-inputs c g = (refl, refl, refl, refl, refl, refl, refl, refl, refl, refl, refl, refl)

pub returns-clause-sways : goal.returns-clause-sways
unfolding serde_json_on_literals is_utf8 chars digits whole count hold each_after at number number_in numbers_in numbers rows_in slot draft drafts for_each_after
    start time topic input inputs sway_kind sway_as sway sways crew_kind guest crew_as crew crews counted flight
returns-clause-sways c g = (refl, refl, refl, refl, refl, refl, refl, refl, refl, refl, refl, refl, refl, refl, refl, refl, refl)

pub returns-clause-crews : goal.returns-clause-crews
unfolding serde_json_on_literals is_utf8 chars digits whole count hold each_after at number number_in numbers_in numbers rows_in slot draft drafts for_each_after
    start time topic input inputs sway_kind sway_as sway sways crew_kind guest crew_as crew crews counted flight
returns-clause-crews c g = (refl, refl, refl, refl, refl, refl, refl, refl, refl, refl, refl, refl)
