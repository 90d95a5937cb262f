-- The line of each fault of a mission.
use Rattle.std.specs.Prelude.{ℕ, List, [], ◌∷◌, ◌++◌, codes}
use Rattle.std.specs.Fmt.{decimal}
use Rattle.sot_text.specs.declared.token.Span.{Span}
use Rattle.sot_text.specs.declared.token.LexFault.TheVariants.{BadByte, NameLong, LiteralWide}
use Rattle.sot_sections.specs.declared.mission.SectionFault.{SectionFault}
use Rattle.sot_sections.specs.declared.mission.SectionKind.{SectionKind}
use Rattle.sot_sections.specs.declared.mission.SectionKind.TheVariants as sections
use Rattle.sot_parser.specs.declared.syntax.Syntax.{Syntax}
use Rattle.sot_parser.specs.declared.syntax.Syntax.TheVariants.{Lex, Token, Deep}
use Rattle.sot_rules.specs.declared.fault.TypeFault.{TypeFault}
use Rattle.sot_rules.specs.declared.fault.TypeKind.{TypeKind}
use Rattle.sot_rules.specs.declared.fault.TypeKind.TheVariants as rules
use Rattle.sot_json.specs.declared.fault.JsonFault.{JsonFault}
use Rattle.sot_json.specs.declared.fault.JsonKind.{JsonKind}
use Rattle.sot_json.specs.declared.fault.JsonKind.TheVariants as kinds
use Rattle.sot_report.specs.declared.fault.Fault.{Fault}
use Rattle.sot_report.specs.declared.fault.Fault.TheVariants as faults
use Rattle.sot_report.specs.Pieces.{line}

abbrev pub section_word : SectionKind → List ℕ
section_word sections.Unknown = codes "Unknown"
section_word sections.Order = codes "Order"
section_word sections.Missing = codes "Missing"

-- `fault section line L KIND`; lines count from 1
abbrev pub section_text : SectionFault → List ℕ
section_text fault =
    codes "fault section line " ++ (decimal fault.line
    ++ (codes " " ++ line (section_word fault.kind)))

-- `fault SORT line L column C KIND`; lines and columns count from 1
abbrev pub placed_text : List ℕ → Span → List ℕ → List ℕ
placed_text sort at kind =
    line (codes "fault " ++ (sort ++ (codes " line "
    ++ (decimal at.line ++ (codes " column " ++ (decimal at.column ++ (codes " " ++ kind)))))))

abbrev pub syntax_text : Syntax → List ℕ
syntax_text (Lex (BadByte at)) = placed_text (codes "syntax") at (codes "BadByte")
syntax_text (Lex (NameLong at)) = placed_text (codes "syntax") at (codes "NameLong")
syntax_text (Lex (LiteralWide at)) = placed_text (codes "syntax") at (codes "LiteralWide")
syntax_text (Token at) = placed_text (codes "syntax") at (codes "Token")
syntax_text (Deep at) = placed_text (codes "syntax") at (codes "Deep")

-- the names of the rules of typing
abbrev pub rule_word : TypeKind → List ℕ
rule_word rules.Unknown = codes "Unknown"
rule_word rules.Twice = codes "Twice"
rule_word rules.ScaleDiffers = codes "ScaleDiffers"
rule_word rules.KindDiffers = codes "KindDiffers"
rule_word rules.RangeEmpty = codes "RangeEmpty"
rule_word rules.InitOutside = codes "InitOutside"
rule_word rules.ReadsAndWrites = codes "ReadsAndWrites"
rule_word rules.TooMany = codes "TooMany"
rule_word rules.RangeWide = codes "RangeWide"
rule_word rules.NoModule = codes "NoModule"
rule_word rules.PeriodOutside = codes "PeriodOutside"
rule_word rules.NextMissing = codes "NextMissing"

abbrev pub type_text : TypeFault → List ℕ
type_text fault = placed_text (codes "type") fault.at (rule_word fault.kind)

-- the names of the faults of JSON
abbrev pub json_word : JsonKind → List ℕ
json_word kinds.NotJson = codes "NotJson"
json_word kinds.WrongShape = codes "WrongShape"
json_word kinds.NotWhole = codes "NotWhole"
json_word kinds.OutsideRange = codes "OutsideRange"
json_word kinds.Missing = codes "Missing"
json_word kinds.Unknown = codes "Unknown"
json_word kinds.Width = codes "Width"
json_word kinds.Empty = codes "Empty"
json_word kinds.TooMany = codes "TooMany"
json_word kinds.Order = codes "Order"
json_word kinds.NoGuest = codes "NoGuest"
json_word kinds.GuestTwice = codes "GuestTwice"
json_word kinds.TooManyEvents = codes "TooManyEvents"
json_word kinds.TooManyNumbers = codes "TooManyNumbers"

-- a JSON pointer; that of the whole text is printed as `/`
abbrev pub path_text : List ℕ → List ℕ
path_text [] = codes "/"
path_text (b ∷ bs) = b ∷ bs

-- `fault SECTION PATH KIND`
abbrev pub json_text : List ℕ → JsonFault → List ℕ
json_text section fault =
    codes "fault " ++ (section ++ (codes " "
    ++ (path_text fault.path ++ (codes " " ++ line (json_word fault.kind)))))

abbrev pub fault_text : Fault → List ℕ
fault_text (faults.Section fault) = section_text fault
fault_text (faults.Syntax fault) = syntax_text fault
fault_text (faults.Typing fault) = type_text fault
fault_text (faults.Cert fault) = json_text (codes "certificate") fault
fault_text (faults.Flight fault) = json_text (codes "flight") fault
