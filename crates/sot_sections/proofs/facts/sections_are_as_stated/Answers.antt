use Rattle.std.proofs.Common.{refl}
use Rattle.sot_sections.specs.Sections.{place}
use Rattle.sot_sections.proofs.SectionLaws.{sections_are_the_text}
use Rattle.sot_sections.proofs.facts.sections_are_as_stated.Goals as goal

pub returns-clause-all_parts : goal.returns-clause-all_parts
unfolding place
returns-clause-all_parts c = refl

pub returns-clause-for_flight : goal.returns-clause-for_flight
unfolding place
returns-clause-for_flight c = refl

pub returns-clause-for_check : goal.returns-clause-for_check
unfolding place
returns-clause-for_check c = refl

pub returns-clause-cr : goal.returns-clause-cr
unfolding place
returns-clause-cr c = refl

pub returns-clause-two_crs : goal.returns-clause-two_crs
unfolding place
returns-clause-two_crs c = refl

pub returns-clause-unknown : goal.returns-clause-unknown
unfolding place
returns-clause-unknown c = refl

pub returns-clause-repeated : goal.returns-clause-repeated
unfolding place
returns-clause-repeated c = refl

pub returns-clause-order : goal.returns-clause-order
unfolding place
returns-clause-order c = refl

pub returns-clause-skipped : goal.returns-clause-skipped
unfolding place
returns-clause-skipped c = refl

pub returns-clause-empty : goal.returns-clause-empty
unfolding place
returns-clause-empty c = refl

pub returns-clause-joined : goal.returns-clause-joined
returns-clause-joined c = sections_are_the_text
