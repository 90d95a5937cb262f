-- What the answers are good for.
use Rattle.std.specs.Prelude.{◌≡◌, ℕ, ◌*◌, ℤ, Bool, false, true, List, Result, Ok, Err}
use Rattle.sot_box.specs.Boxes.{point_box}
use Rattle.sot_box.specs.Regions.{IsInRegion}
use Rattle.sot_lists.specs.Places.{At}
use Rattle.sot_lang.specs.declared.act.Act.{Act}
use Rattle.sot_lang.specs.declared.cert.Cells.{Cells}
use Rattle.sot_lang.specs.declared.cert.Cert.{Cert}
use Rattle.sot_lang.specs.declared.tables.PlantInfo.{PlantInfo}
use Rattle.sot_lang.specs.declared.tables.NodeInfo.{NodeInfo}
use Rattle.sot_lang.specs.declared.tables.ModuleInfo.{ModuleInfo}
use Rattle.sot_lang.specs.Tables.{Tables}
use Rattle.sot_lang.specs.TableRules.{MeetsTableRules, IsCoded}
use Rattle.sot_iv.specs.BodyIntervals.{Intervals}
use Rattle.sot_certify.specs.Findings.{Finding}
use Rattle.sot_certify.specs.HalvingLaws.{Agree}
use Rattle.sot_tube.specs.Tubes.{TubeInside, AnyTubeInside}
use Rattle.sot_tube.specs.Certified.{HasCells, DraftsFrom, command_intervals}
use Rattle.sot_tube.specs.Refusals.{Refusal}
use Rattle.sot_tube.specs.Verdict.{verdict}
use Rattle.sot_rta.specs.Refused.{refusal_view}
use Rattle.sot_certify.specs.declared.fail.CertifyFail.{CertifyFail}
use Rattle.sot_certify.specs.declared.fail.CertifyFail.TheVariants.{Refused, Point, TooMany, Memory}
use Rattle.sot_certify.specs.Conditions.{without_cells}
use Rattle.sot_certify.specs.Certifying.{Fails, Certifies}
use Rattle.sot_certify.specs.Points.{PointTubeLeaves}
use Rattle.sot_certify.specs.Made.{IsGood, region_of, FindsCells, FailsAt}

-- a failing point is a point of the region, and the box of that point alone is not good
abbrev pub FailingPointsLeave : Type 0
FailingPointsLeave =
    (p : Tables) (a : ModuleInfo) (reach : Bool) (s : List ℤ) → FailsAt p a reach s
    → IsInRegion (region_of a reach).boxes s × (IsGood p a reach (point_box s) → ⊥)

-- the tube of a failing point is not inside the safe region, or a tick of it may trap. In a list of
-- closed cells, where the safe node meets no trap from the point: under the commands that it surely
-- drafts there, for its period. In a list of reach cells: under any commands, for two periods of
-- the module
abbrev pub TubesOfFailingPointsLeave : Type 0
TubesOfFailingPointsLeave =
    ((p : Tables) (a : ModuleInfo) (s : List ℤ) (plant : PlantInfo) (sc : NodeInfo)
    (acts : List Act) (fired : Intervals)
    → At p.plants a.plant plant → At p.nodes a.sc sc → IsCoded sc acts
    → DraftsFrom p a sc acts (point_box s) fired → FailsAt p a false s
    → TubeInside p plant (command_intervals p plant sc fired.draft) a.safe.boxes (point_box s)
    sc.period → ⊥)
    × ((p : Tables) (a : ModuleInfo) (s : List ℤ) (plant : PlantInfo) → At p.plants a.plant plant
    → FailsAt p a true s
    → AnyTubeInside p plant a.safe.boxes (point_box s) (2 * a.period) → ⊥)

-- of each failing point that may be answered the tube leaves, with no premise but the rules of
-- tables
abbrev pub PointsLeave : Type 0
PointsLeave =
    (p : Tables) (m : ℕ) (reach : Bool) (s : List ℤ) → MeetsTableRules p → Fails p (Point m reach s)
    → PointTubeLeaves p m reach s

-- what is refused before cells are made is what a checker refuses, at any jitter and with any
-- certificate that has an entry for each module
abbrev pub RefusalsAreTheVerdicts : Type 0
RefusalsAreTheVerdicts =
    (p : Tables) (jitter : ℕ) (cert : Cert) (r : Refusal)
    → ((m : ℕ) (a : ModuleInfo) → At p.modules m a → (cells : Cells) × HasCells cert m cells)
    → (without_cells p).Refuses r → (verdict p jitter cert).Refuses r

-- what is found for a list is one thing: there is one list of cells, or one first failing point
abbrev pub ListsAreFoundOnce : Type 0
ListsAreFoundOnce =
    (p : Tables) (a : ModuleInfo) (reach : Bool) (f g : Finding) → FindsCells p a reach f
    → FindsCells p a reach g → Agree f g

-- two failures are one, but for want of memory
abbrev pub SameFail : CertifyFail → CertifyFail → Type 0
SameFail (Refused r) (Refused s) = refusal_view r ≡ refusal_view s
SameFail (Refused r) (Point n q t) = ⊥
SameFail (Refused r) (TooMany n q) = ⊥
SameFail (Refused r) Memory = Unit {0}
SameFail (Point m r s) (Refused x) = ⊥
SameFail (Point m r s) (Point n q t) = (m ≡ n) × (r ≡ q) × (s ≡ t)
SameFail (Point m r s) (TooMany n q) = ⊥
SameFail (Point m r s) Memory = Unit {0}
SameFail (TooMany m r) (Refused x) = ⊥
SameFail (TooMany m r) (Point n q t) = ⊥
SameFail (TooMany m r) (TooMany n q) = (m ≡ n) × (r ≡ q)
SameFail (TooMany m r) Memory = Unit {0}
SameFail Memory (Refused r) = Unit {0}
SameFail Memory (Point n q t) = Unit {0}
SameFail Memory (TooMany n q) = Unit {0}
SameFail Memory Memory = Unit {0}

-- the failure is want of memory
abbrev pub IsMemory : CertifyFail → Type 0
IsMemory (Refused r) = ⊥
IsMemory (Point m r s) = ⊥
IsMemory (TooMany m r) = ⊥
IsMemory Memory = Unit {0}

-- two certificates of a program have the same cells
abbrev pub HaveSameCells : Tables → Cert → Cert → Type 0
HaveSameCells p c d =
    (m : ℕ) (a : ModuleInfo) (x y : Cells) → At p.modules m a → HasCells c m x → HasCells d m y
    → (x.closed.boxes ≡ y.closed.boxes) × (x.reach.boxes ≡ y.reach.boxes)

-- two answers are one, but for want of memory
abbrev pub SameAnswer : Tables → Result Cert CertifyFail → Result Cert CertifyFail → Type 0
SameAnswer p (Ok c) (Ok d) = HaveSameCells p c d
SameAnswer p (Ok c) (Err e) = IsMemory e
SameAnswer p (Err e) (Ok d) = IsMemory e
SameAnswer p (Err e) (Err f) = SameFail e f

-- what may be answered of a program is one answer, besides want of memory: so each answer comes
-- exactly where it is true
abbrev pub AnswersAreOne : Type 0
AnswersAreOne =
    (p : Tables) (r q : Result Cert CertifyFail) → Certifies p r → Certifies p q → SameAnswer p r q
