-- That the definition gives one answer.
use Rattle.std.specs.Prelude.{◌≡◌, List}
use Rattle.sot_box.specs.Sides.{Side}
use Rattle.sot_lang.specs.declared.act.Act.{Act}
use Rattle.sot_lang.specs.declared.term.Term.{Term}
use Rattle.sot_lang.specs.declared.tables.PlantInfo.{PlantInfo}
use Rattle.sot_iv.specs.TermIntervals.{OrMayTrap, IsTermInterval}
use Rattle.sot_iv.specs.BodyIntervals.{Intervals, IsExecutionIntervals}
use Rattle.sot_iv.specs.PlantIntervals.{IsNextBox}

-- an expression has one interval over some ranges, or one first trap
abbrev pub TermsHaveOneInterval : Type 0
TermsHaveOneInterval = (t : Term) (ranges : List Side) (one other : OrMayTrap Side)
    → IsTermInterval t ranges one → IsTermInterval t ranges other → one ≡ other

-- a body leaves one thing, or has one first trap
abbrev pub BodiesHaveOneEnd : Type 0
BodiesHaveOneEnd =
    (acts : List Act) (locals writes seen at_start : List Side) (one other : OrMayTrap Intervals)
    → IsExecutionIntervals acts locals writes seen at_start one
    → IsExecutionIntervals acts locals writes seen at_start other → one ≡ other

-- a plant has one next box, or one first trap
abbrev pub PlantsHaveOneBox : Type 0
PlantsHaveOneBox =
    (plant : PlantInfo) (box commands seen : List Side) (one other : OrMayTrap (List Side))
    → IsNextBox plant box commands seen one → IsNextBox plant box commands seen other → one ≡ other
