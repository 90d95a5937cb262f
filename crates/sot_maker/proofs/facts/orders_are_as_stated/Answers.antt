use Rattle.std.proofs.Common.{refl}
use Rattle.std.specs.Fmt.{digits}
use Rattle.sot_maker.specs.NameOrder.{numbers_from, all_by_name, by_name}
use Rattle.sot_maker.specs.Members.{cells_text, crew_text, start_text, sway_text, member_text, object_text}
use Rattle.sot_maker.proofs.facts.orders_are_as_stated.Goals as goal

pub returns-clause-orders : goal.returns-clause-orders
unfolding numbers_from all_by_name by_name
returns-clause-orders c = (refl, refl, refl, refl)

pub returns-clause-objects : goal.returns-clause-objects
unfolding digits cells_text crew_text start_text sway_text member_text object_text
returns-clause-objects c = (refl, refl, refl, refl, refl, refl)
