-- Worked texts of faults and refusals.
use Rattle.std.specs.Prelude.{◌≡◌, true, false, pos, [], ◌∷◌, codes}
use Rattle.std.specs.Global.{Global}
use Rattle.sot_lang.specs.Line.{line as line_tables, line_cert}
use Rattle.sot_json.specs.declared.fault.JsonKind.TheVariants as kinds
use Rattle.sot_tube.specs.Refusals.{Periods, Outputs, EmptyRegion, SharedNode, SharedOutput}
use Rattle.sot_tube.specs.Refusals.{SharedPlant, ForeignInput, NoCells}
use Rattle.sot_report.specs.FaultTexts.{json_text}
use Rattle.sot_report.specs.RefusalTexts.{refusal_text, start_text}
use Rattle.sot_report.specs.AcceptedTexts.{cell_count}

-- refusals of the running example, whose module 0 is `nav`, nodes 0 and 1 are `fast` and `slow`,
-- topic 0 is `cmd` and plant 0 is `pos`
abbrev pub RefusalLines : Global → Type 0
RefusalLines g =
    (refusal_text (line_tables g) (Periods 0 1) ≡ codes "refused 1 Periods module nav node slow\n")
    × (refusal_text (line_tables g) (Outputs 0 0)
    ≡ codes "refused 2 Outputs module nav topic cmd\n")
    × (refusal_text (line_tables g) (EmptyRegion 0 false)
    ≡ codes "refused 3 EmptyRegion module nav safe\n")
    × (refusal_text (line_tables g) (EmptyRegion 0 true)
    ≡ codes "refused 3 EmptyRegion module nav safer\n")
    × (refusal_text (line_tables g) (SharedNode 1 0 0)
    ≡ codes "refused 10 SharedNode node slow modules nav nav\n")
    × (refusal_text (line_tables g) (SharedOutput 0 0 1)
    ≡ codes "refused 11 SharedOutput topic cmd nodes fast slow\n")
    × (refusal_text (line_tables g) (SharedPlant 0 0 0)
    ≡ codes "refused 12 SharedPlant plant pos modules nav nav\n")
    × (refusal_text (line_tables g) (ForeignInput 0 0)
    ≡ codes "refused 13 ForeignInput module nav topic cmd\n")
    × (refusal_text (line_tables g) (NoCells 0) ≡ codes "refused 15 NoCells module nav\n")

-- faults of a certificate and of a flight, at the root and below
abbrev pub JsonLines : Type 0
JsonLines =
    (json_text (codes "certificate") (record { path = []; kind = kinds.NotJson })
    ≡ codes "fault certificate / NotJson\n")
    × (json_text (codes "certificate")
    (record { path = codes "/modules/nav/closed"; kind = kinds.TooMany })
    ≡ codes "fault certificate /modules/nav/closed TooMany\n")
    × (json_text (codes "flight") (record { path = codes "/horizon"; kind = kinds.OutsideRange })
    ≡ codes "fault flight /horizon OutsideRange\n")

-- a plant of the running example that starts at 11, outside the safer region
abbrev pub StartLines : Global → Type 0
StartLines g =
    start_text (line_tables g) 0 (pos 11 ∷ []) ≡ codes "refused start module nav point (11)\n"

-- the running example has three closed cells and one reach cell
abbrev pub CountedCells : Global → Type 0
CountedCells g = cell_count (line_cert g).modules.items ≡ 4
