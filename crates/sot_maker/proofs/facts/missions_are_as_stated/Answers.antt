-- Missions, computed.
use Rattle.std.proofs.Common.{refl}
use Rattle.std.specs.Fmt.{digits}
use Rattle.rand_pcg.specs.Lcg.{state_after}
use Rattle.sot_maker.specs.Declarations.{topic_text, plant_text, fast_text, code_text, slow_front, slow_text, module_text, declarations_text, declarations_from}
use Rattle.sot_maker.specs.Declarations.{program_text}
use Rattle.sot_maker.specs.NameOrder.{numbers_from, all_by_name, by_name}
use Rattle.sot_maker.specs.Members.{cells_text, crew_text, start_text, sway_text, member_text, object_text}
use Rattle.sot_maker.specs.Missions.{certificate_text, flight_text, mission_text}
use Rattle.sot_maker.proofs.facts.missions_are_as_stated.Goals as goal

pub returns-clause-one : goal.returns-clause-one
unfolding digits state_after topic_text plant_text fast_text code_text slow_front slow_text module_text declarations_text declarations_from program_text
    numbers_from all_by_name by_name cells_text crew_text start_text sway_text member_text object_text certificate_text flight_text mission_text
returns-clause-one c = refl

pub returns-clause-two : goal.returns-clause-two
unfolding digits state_after topic_text plant_text fast_text code_text slow_front slow_text module_text declarations_text declarations_from program_text
    numbers_from all_by_name by_name cells_text crew_text start_text sway_text member_text object_text certificate_text flight_text mission_text
returns-clause-two c = (refl, refl)
