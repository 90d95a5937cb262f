-- The texts that are always the same.
use Rattle.std.specs.Prelude.{ℕ, List, codes}
use Rattle.sot_bridge.specs.declared.joining.JoinFault.{JoinFault}
use Rattle.sot_bridge.specs.declared.joining.JoinFault.TheVariants as kinds

abbrev pub usage_text : List ℕ
usage_text = codes "usage: soter_bridge TOPIC_A TOPIC_B DELAY\n"

-- there is no line `%bridge`
abbrev pub section_text : List ℕ
section_text = codes "fault bridge Section\n"

-- why two missions are not joined
abbrev pub kind_text : JoinFault → List ℕ
kind_text kinds.Unknown = codes "fault bridge Unknown\n"
kind_text kinds.Type = codes "fault bridge Type\n"
kind_text kinds.Horizon = codes "fault bridge Horizon\n"
kind_text kinds.TooManyEvents = codes "fault bridge TooManyEvents\n"
kind_text kinds.TooManyNumbers = codes "fault bridge TooManyNumbers\n"
