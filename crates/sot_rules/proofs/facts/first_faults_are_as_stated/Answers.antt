-- Of `first_faults_are_as_stated`: its promises.
use Rattle.std.proofs.Common.{refl}
use Rattle.sot_rules.specs.FaultyPrograms.{unknown_name, second_name, other_scale, other_kind, empty_range, outside_start, own_input}
use Rattle.sot_rules.specs.FaultyPrograms.{nine_fields, wide_range}
use Rattle.sot_rules.specs.FaultyPrograms.{lone_plant, no_period, no_next, swapped_next, two_at_one, two_places}
use Rattle.sot_rules.specs.FaultyPrograms.{two_truths, bare_record, hidden_topic, own_name_seen}
use Rattle.sot_rules.specs.FaultyPrograms.{many_statements, late_offset, wide_box}
use Rattle.sot_rules.proofs.FirstFault.{first_is, listed}
use Rattle.sot_rules.proofs.facts.first_faults_are_as_stated.Goals as goal

pub returns-clause-unknown_name : goal.returns-clause-unknown_name
unfolding Rattle.sot_rules.specs.Faults.faults Rattle.sot_text.specs.Place.rank
returns-clause-unknown_name c = first_is unknown_name _ refl

pub returns-clause-second_name : goal.returns-clause-second_name
unfolding Rattle.sot_rules.specs.Faults.faults Rattle.sot_text.specs.Place.rank
returns-clause-second_name c = first_is second_name _ refl

pub returns-clause-other_scale : goal.returns-clause-other_scale
unfolding Rattle.sot_rules.specs.Faults.faults Rattle.sot_text.specs.Place.rank
returns-clause-other_scale c = first_is other_scale _ refl

pub returns-clause-other_kind : goal.returns-clause-other_kind
unfolding Rattle.sot_rules.specs.Faults.faults Rattle.sot_text.specs.Place.rank
returns-clause-other_kind c = first_is other_kind _ refl

pub returns-clause-empty_range : goal.returns-clause-empty_range
unfolding Rattle.sot_rules.specs.Faults.faults Rattle.sot_text.specs.Place.rank
returns-clause-empty_range c = first_is empty_range _ refl

pub returns-clause-outside_start : goal.returns-clause-outside_start
unfolding Rattle.sot_rules.specs.Faults.faults Rattle.sot_text.specs.Place.rank
returns-clause-outside_start c = first_is outside_start _ refl

pub returns-clause-own_input : goal.returns-clause-own_input
unfolding Rattle.sot_rules.specs.Faults.faults Rattle.sot_text.specs.Place.rank
returns-clause-own_input c = first_is own_input _ refl

pub returns-clause-nine_fields : goal.returns-clause-nine_fields
unfolding Rattle.sot_rules.specs.Faults.faults Rattle.sot_text.specs.Place.rank
returns-clause-nine_fields c = first_is nine_fields _ refl

pub returns-clause-wide_range : goal.returns-clause-wide_range
unfolding Rattle.sot_rules.specs.Faults.faults Rattle.sot_text.specs.Place.rank
returns-clause-wide_range c = first_is wide_range _ refl

pub returns-clause-lone_plant : goal.returns-clause-lone_plant
unfolding Rattle.sot_rules.specs.Faults.faults Rattle.sot_text.specs.Place.rank
returns-clause-lone_plant c = first_is lone_plant _ refl

pub returns-clause-no_period : goal.returns-clause-no_period
unfolding Rattle.sot_rules.specs.Faults.faults Rattle.sot_text.specs.Place.rank
returns-clause-no_period c = first_is no_period _ refl

pub returns-clause-no_next : goal.returns-clause-no_next
unfolding Rattle.sot_rules.specs.Faults.faults Rattle.sot_text.specs.Place.rank
returns-clause-no_next c = first_is no_next _ refl

pub returns-clause-swapped_next : goal.returns-clause-swapped_next
unfolding Rattle.sot_rules.specs.Faults.faults Rattle.sot_text.specs.Place.rank
returns-clause-swapped_next c = first_is swapped_next _ refl

pub returns-clause-two_at_one : goal.returns-clause-two_at_one
unfolding Rattle.sot_rules.specs.Faults.faults Rattle.sot_text.specs.Place.rank
returns-clause-two_at_one c = first_is two_at_one _ refl

pub returns-clause-two_places : goal.returns-clause-two_places
unfolding Rattle.sot_rules.specs.Faults.faults Rattle.sot_text.specs.Place.rank
returns-clause-two_places c = first_is two_places _ refl

pub returns-clause-two_truths : goal.returns-clause-two_truths
unfolding Rattle.sot_rules.specs.Faults.faults Rattle.sot_text.specs.Place.rank
returns-clause-two_truths c = first_is two_truths _ refl

pub returns-clause-bare_record : goal.returns-clause-bare_record
unfolding Rattle.sot_rules.specs.Faults.faults Rattle.sot_text.specs.Place.rank
returns-clause-bare_record c = first_is bare_record _ refl

pub returns-clause-hidden_topic : goal.returns-clause-hidden_topic
unfolding Rattle.sot_rules.specs.Faults.faults Rattle.sot_text.specs.Place.rank
returns-clause-hidden_topic c = first_is hidden_topic _ refl

pub returns-clause-own_name_seen : goal.returns-clause-own_name_seen
unfolding Rattle.sot_rules.specs.Faults.faults Rattle.sot_text.specs.Place.rank
returns-clause-own_name_seen c = first_is own_name_seen _ refl

pub returns-clause-many_statements : goal.returns-clause-many_statements
unfolding Rattle.sot_rules.specs.Faults.faults Rattle.sot_text.specs.Place.rank
returns-clause-many_statements c = first_is many_statements _ refl

pub returns-clause-late_offset : goal.returns-clause-late_offset
unfolding Rattle.sot_rules.specs.Faults.faults Rattle.sot_text.specs.Place.rank
returns-clause-late_offset c = first_is late_offset _ refl

pub returns-clause-wide_box : goal.returns-clause-wide_box
unfolding Rattle.sot_rules.specs.Faults.faults Rattle.sot_text.specs.Place.rank
returns-clause-wide_box c = first_is wide_box _ refl

pub returns-clause-other_of_two : goal.returns-clause-other_of_two
unfolding Rattle.sot_rules.specs.Faults.faults Rattle.sot_text.specs.Place.rank
returns-clause-other_of_two c = listed two_at_one _ (0, refl)
