-- The line of each refusal: the number and name of the condition that fails, and its evidence.
use Rattle.std.specs.Prelude.{ℕ, ℤ, Bool, true, false, List, [], ◌++◌, codes}
use Rattle.std.specs.Fmt.{decimal}
use Rattle.sot_lang.specs.Tables.{Tables}
use Rattle.sot_tube.specs.Refusals.{Refusal, Periods, Outputs, EmptyRegion, ClosedGap, ClosedTrap}
use Rattle.sot_tube.specs.Refusals.{ClosedLeaves, ReachGap, ReachLeaves, ReachTrap, SharedNode}
use Rattle.sot_tube.specs.Refusals.{SharedOutput, SharedPlant, ForeignInput, CodeMayTrap, NoCells}
use Rattle.sot_lang.specs.Names.{module_name, node_name, topic_name, plant_name}
use Rattle.sot_report.specs.Pieces.{line}
use Rattle.sot_report.specs.Pieces.{point_text, box_text, place_text, ends_text, trap_word}

-- the number and the name of the condition that fails
abbrev pub condition_of : Refusal → List ℕ
condition_of (Periods m n) = codes "1 Periods"
condition_of (Outputs m k) = codes "2 Outputs"
condition_of (EmptyRegion m safer) = codes "3 EmptyRegion"
condition_of (ClosedGap m point) = codes "4 ClosedGap"
condition_of (ClosedTrap m cell tick at) = codes "5 ClosedTrap"
condition_of (ClosedLeaves m cell tick area point) = codes "6 ClosedLeaves"
condition_of (ReachGap m point) = codes "7 ReachGap"
condition_of (ReachLeaves m cell tick area point) = codes "8 ReachLeaves"
condition_of (ReachTrap m cell tick at) = codes "9 ReachTrap"
condition_of (SharedNode n a b) = codes "10 SharedNode"
condition_of (SharedOutput k a b) = codes "11 SharedOutput"
condition_of (SharedPlant k a b) = codes "12 SharedPlant"
condition_of (ForeignInput m k) = codes "13 ForeignInput"
condition_of (CodeMayTrap n at kind lo hi) = codes "14 CodeMayTrap"
condition_of (NoCells m) = codes "15 NoCells"

-- ` module NAME`
abbrev pub in_module : Tables → ℕ → List ℕ
in_module t m = codes " module " ++ module_name t m

-- the module that the refusal is about, where it is about one
abbrev pub module_text : Tables → Refusal → List ℕ
module_text t (Periods m n) = in_module t m
module_text t (Outputs m k) = in_module t m
module_text t (EmptyRegion m safer) = in_module t m
module_text t (ClosedGap m point) = in_module t m
module_text t (ClosedTrap m cell tick at) = in_module t m
module_text t (ClosedLeaves m cell tick area point) = in_module t m
module_text t (ReachGap m point) = in_module t m
module_text t (ReachLeaves m cell tick area point) = in_module t m
module_text t (ReachTrap m cell tick at) = in_module t m
module_text t (ForeignInput m k) = in_module t m
module_text t (NoCells m) = in_module t m
module_text t r = []

-- ` cell I tick K `; cells and ticks count from 0
abbrev pub in_cell : ℕ → ℕ → List ℕ
in_cell cell tick = codes " cell " ++ decimal cell ++ codes " tick " ++ decimal tick ++ codes " "

-- the cell whose tube is to blame, and the tick, where there is one
abbrev pub cell_text : Refusal → List ℕ
cell_text (ClosedTrap m cell tick at) = in_cell cell tick
cell_text (ClosedLeaves m cell tick area point) = in_cell cell tick
cell_text (ReachLeaves m cell tick area point) = in_cell cell tick
cell_text (ReachTrap m cell tick at) = in_cell cell tick
cell_text r = []

abbrev pub region_word : Bool → List ℕ
region_word false = codes "safe"
region_word true = codes "safer"

-- ` point (X1, X2)`
abbrev pub at_point : List ℤ → List ℕ
at_point point = codes " point " ++ point_text point

-- ` modules NAME NAME`
abbrev pub by_modules : Tables → ℕ → ℕ → List ℕ
by_modules t a b = codes " modules " ++ module_name t a ++ codes " " ++ module_name t b

-- what else shows that the condition fails, with things of the program by their names
abbrev pub evidence_text : Tables → Refusal → List ℕ
evidence_text t (Periods m n) = codes " node " ++ node_name t n
evidence_text t (Outputs m k) = codes " topic " ++ topic_name t k
evidence_text t (EmptyRegion m safer) = codes " " ++ region_word safer
evidence_text t (ClosedGap m point) = at_point point
evidence_text t (ClosedTrap m cell tick at) = place_text at
evidence_text t (ClosedLeaves m cell tick area point) =
    codes "box " ++ box_text area ++ at_point point
evidence_text t (ReachGap m point) = at_point point
evidence_text t (ReachLeaves m cell tick area point) =
    codes "box " ++ box_text area ++ at_point point
evidence_text t (ReachTrap m cell tick at) = place_text at
evidence_text t (SharedNode n a b) = codes " node " ++ node_name t n ++ by_modules t a b
evidence_text t (SharedOutput k a b) =
    codes " topic " ++ topic_name t k ++ codes " nodes " ++ node_name t a ++ codes " "
    ++ node_name t b
evidence_text t (SharedPlant k a b) = codes " plant " ++ plant_name t k ++ by_modules t a b
evidence_text t (ForeignInput m k) = codes " topic " ++ topic_name t k
evidence_text t (CodeMayTrap n at kind lo hi) =
    codes " node " ++ node_name t n ++ codes " " ++ place_text at ++ codes " " ++ trap_word kind
    ++ ends_text lo hi
evidence_text t (NoCells m) = []

abbrev pub refusal_text : Tables → Refusal → List ℕ
refusal_text t r =
    line (codes "refused " ++ condition_of r ++ module_text t r ++ cell_text r ++ evidence_text t r)

-- `refused WHAT module NAME point (X1, X2)`
abbrev pub gap_line : List ℕ → Tables → ℕ → List ℤ → List ℕ
gap_line what t m point = line (codes "refused " ++ what ++ in_module t m ++ at_point point)

-- a start is refused, since the plant of this module, the first one, starts at this point outside
-- the region that the caller asks it to start in
abbrev pub start_text : Tables → ℕ → List ℤ → List ℕ
start_text t m point = gap_line (codes "start") t m point
