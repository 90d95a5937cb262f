-- The lines of replays.
use Rattle.std.specs.Prelude.{ℕ, List, ◌++◌, codes}
use Rattle.std.specs.Fmt.{decimal}
use Rattle.sot_report.specs.Pieces.{line}
use Rattle.sot_replay.specs.declared.fail.LineKind.{LineKind}
use Rattle.sot_replay.specs.declared.fail.LineKind.TheVariants.{NotALine, WrongTime, NotDue}
use Rattle.sot_replay.specs.declared.fail.LineKind.TheVariants.{AlreadyFired, NodesLeft}
use Rattle.sot_replay.specs.declared.fail.LineKind.TheVariants.{OutsideType, InputsLeft, TooFar}
use Rattle.sot_replay.specs.declared.fail.LineKind.TheVariants.{Differs, Ended, Missing}

-- `legal events E`
abbrev pub legal_text : ℕ → List ℕ
legal_text events = codes "legal events " ++ line (decimal events)

abbrev pub kind_word : LineKind → List ℕ
kind_word NotALine = codes "NotALine"
kind_word WrongTime = codes "WrongTime"
kind_word NotDue = codes "NotDue"
kind_word AlreadyFired = codes "AlreadyFired"
kind_word NodesLeft = codes "NodesLeft"
kind_word OutsideType = codes "OutsideType"
kind_word InputsLeft = codes "InputsLeft"
kind_word TooFar = codes "TooFar"
kind_word Differs = codes "Differs"
kind_word Ended = codes "Ended"
kind_word Missing = codes "Missing"

-- `refused replay line L KIND`
abbrev pub refused_line_text : ℕ → LineKind → List ℕ
refused_line_text number kind =
    codes "refused replay line " ++ (decimal number ++ (codes " " ++ line (kind_word kind)))
