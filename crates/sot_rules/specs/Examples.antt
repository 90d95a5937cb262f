-- The first fault of each worked program, and the programs without one.
use Rattle.sot_rules.specs.declared.fault.TypeKind.TheVariants.{Unknown, Twice, ScaleDiffers}
use Rattle.sot_rules.specs.declared.fault.TypeKind.TheVariants.{KindDiffers, RangeEmpty}
use Rattle.sot_rules.specs.declared.fault.TypeKind.TheVariants.{InitOutside, ReadsAndWrites}
use Rattle.sot_rules.specs.declared.fault.TypeKind.TheVariants.{TooMany, RangeWide, NoModule}
use Rattle.sot_rules.specs.declared.fault.TypeKind.TheVariants.{PeriodOutside, NextMissing}
use Rattle.sot_rules.specs.Fails.{Fails}
use Rattle.sot_rules.specs.First.{IsFirstFault, IsFaultless}
use Rattle.sot_rules.specs.Faults.{fault}
use Rattle.sot_rules.specs.ExampleParts.{at}
use Rattle.sot_rules.specs.FaultyPrograms.{unknown_name, second_name, other_scale, other_kind}
use Rattle.sot_rules.specs.FaultyPrograms.{empty_range, outside_start, own_input, nine_fields}
use Rattle.sot_rules.specs.FaultyPrograms.{wide_range, lone_plant, no_period, no_next, swapped_next}
use Rattle.sot_rules.specs.FaultyPrograms.{two_at_one, two_places, two_truths, bare_record}
use Rattle.sot_rules.specs.FaultyPrograms.{hidden_topic, own_name_seen, many_statements}
use Rattle.sot_rules.specs.FaultyPrograms.{late_offset, wide_box}
use Rattle.sot_rules.specs.FaultlessPrograms.{the_line, the_rest}

-- the first fault of each
abbrev pub FirstOfUnknownName : Type 0
FirstOfUnknownName = IsFirstFault unknown_name (fault (at 38) Unknown)

abbrev pub FirstOfSecondName : Type 0
FirstOfSecondName = IsFirstFault second_name (fault (at 29) Twice)

abbrev pub FirstOfOtherScale : Type 0
FirstOfOtherScale = IsFirstFault other_scale (fault (at 17) ScaleDiffers)

abbrev pub FirstOfOtherKind : Type 0
FirstOfOtherKind = IsFirstFault other_kind (fault (at 22) KindDiffers)

abbrev pub FirstOfEmptyRange : Type 0
FirstOfEmptyRange = IsFirstFault empty_range (fault (at 14) RangeEmpty)

abbrev pub FirstOfOutsideStart : Type 0
FirstOfOutsideStart = IsFirstFault outside_start (fault (at 29) InitOutside)

abbrev pub FirstOfOwnInput : Type 0
FirstOfOwnInput = IsFirstFault own_input (fault (at 70) ReadsAndWrites)

abbrev pub FirstOfNineFields : Type 0
FirstOfNineFields = IsFirstFault nine_fields (fault (at 83) TooMany)

abbrev pub FirstOfWideRange : Type 0
FirstOfWideRange = IsFirstFault wide_range (fault (at 14) RangeWide)

abbrev pub FirstOfLonePlant : Type 0
FirstOfLonePlant = IsFirstFault lone_plant (fault (at 7) NoModule)

abbrev pub FirstOfNoPeriod : Type 0
FirstOfNoPeriod = IsFirstFault no_period (fault (at 19) PeriodOutside)

abbrev pub FirstOfNoNext : Type 0
FirstOfNoNext = IsFirstFault no_next (fault (at 25) NextMissing)

abbrev pub FirstOfSwappedNext : Type 0
FirstOfSwappedNext = IsFirstFault swapped_next (fault (at 38) NextMissing)

abbrev pub FirstOfTwoAtOne : Type 0
FirstOfTwoAtOne = IsFirstFault two_at_one (fault (at 79) ScaleDiffers)

abbrev pub FirstOfTwoPlaces : Type 0
FirstOfTwoPlaces = IsFirstFault two_places (fault (at 14) RangeEmpty)

abbrev pub FirstOfTwoTruths : Type 0
FirstOfTwoTruths = IsFirstFault two_truths (fault (at 82) KindDiffers)

abbrev pub FirstOfBareRecord : Type 0
FirstOfBareRecord = IsFirstFault bare_record (fault (at 96) Unknown)

abbrev pub FirstOfHiddenTopic : Type 0
FirstOfHiddenTopic = IsFirstFault hidden_topic (fault (at 65) Twice)

abbrev pub FirstOfOwnNameSeen : Type 0
FirstOfOwnNameSeen = IsFirstFault own_name_seen (fault (at 30) KindDiffers)

abbrev pub FirstOfManyStatements : Type 0
FirstOfManyStatements = IsFirstFault many_statements (fault (at 98) TooMany)

abbrev pub FirstOfLateOffset : Type 0
FirstOfLateOffset = IsFirstFault late_offset (fault (at 28) PeriodOutside)

abbrev pub FirstOfWideBox : Type 0
FirstOfWideBox = IsFirstFault wide_box (fault (at 164) KindDiffers)

-- the other rule that fails at that token
abbrev pub OtherOfTwoAtOne : Type 0
OtherOfTwoAtOne = Fails two_at_one (at 79) KindDiffers

abbrev pub NoneInTheLine : Type 0
NoneInTheLine = IsFaultless the_line

abbrev pub NoneInTheRest : Type 0
NoneInTheRest = IsFaultless the_rest
