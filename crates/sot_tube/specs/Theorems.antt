-- What certificates, tubes and verdicts are good for.
use Rattle.std.specs.Prelude.{ℕ, ℤ, List, Ok, ◌≡◌, ◌<◌, ◌↔◌, slice_set}
use Rattle.sot_lang.specs.declared.act.Act.{Act}
use Rattle.sot_lang.specs.declared.cert.Cert.{Cert}
use Rattle.sot_lang.specs.declared.tables.PlantInfo.{PlantInfo}
use Rattle.sot_lang.specs.declared.tables.NodeInfo.{NodeInfo}
use Rattle.sot_lang.specs.declared.tables.ModuleInfo.{ModuleInfo}
use Rattle.sot_lang.specs.Tables.{Tables}
use Rattle.sot_lang.specs.TableRules.{IsTyped, MeetsTableRules}
use Rattle.sot_lang.specs.SafeRegions.{AllHulls}
use Rattle.sot_lang.specs.Reach.{AnyReach, HeldReach, AllInside}
use Rattle.sot_box.specs.Sides.{Side}
use Rattle.sot_lists.specs.Places.{At}
use Rattle.sot_box.specs.Boxes.{IsWithin}
use Rattle.sot_box.specs.Regions.{IsInRegion, Covers, IsHull}
use Rattle.sot_iv.specs.TermIntervals.{OrMayTrap}
use Rattle.sot_iv.specs.BodyIntervals.{Intervals}
use Rattle.sot_iv.specs.NodeIntervals.{IsNodeExecution}
use Rattle.sot_iv.specs.TrapFree.{IsTrapFree}
use Rattle.sot_tube.specs.Tubes.{TubeInside, AnyTubeInside, Keeps}
use Rattle.sot_tube.specs.Leaves.{TubeLeaves}
use Rattle.sot_tube.specs.declared.leave.Leave.{Leave}
use Rattle.sot_tube.specs.Composition.{NoSharedPlant, IsComposed, IsComposedByScalars}
use Rattle.sot_tube.specs.Certified.{IsWellCertified}
use Rattle.sot_tube.specs.WellFormed.{IsWellFormed}
use Rattle.sot_tube.specs.Checks.{IsExact}
use Rattle.sot_tube.specs.Verdict.{verdict, composition, shape, cells_of, code}

-- what a certificate shows by boxes holds point by point
abbrev pub CertifiedIsWellFormed : Type 0
CertifiedIsWellFormed =
    (p : Tables) (jitter : ℕ) (cert : Cert) → IsTyped p → IsWellCertified p jitter cert
    → IsWellFormed p jitter

-- a tube with commands anywhere in their types that is inside a region keeps each point that its
-- plant can come to from its first box inside, whatever the commands
abbrev pub AnyTubeHoldsAnyReach : Type 0
AnyTubeHoldsAnyReach =
    (p : Tables) (plant : PlantInfo) (region : List (List Side)) (box : List Side) (k : ℕ)
    (s : List ℤ)
    → AnyTubeInside p plant region box k → IsWithin box s → AllInside (AnyReach p plant s k) region

-- a tube with commands in some intervals does so for commands in these intervals that are held
abbrev pub HeldTubeHoldsHeldReach : Type 0
HeldTubeHoldsHeldReach =
    (p : Tables) (plant : PlantInfo) (commands : List Side) (region : List (List Side))
    (box : List Side) (k : ℕ) (s c : List ℤ)
    → TubeInside p plant commands region box k → IsWithin box s → IsWithin commands c
    → AllInside (HeldReach p plant s c k) region

-- topics are written and taken as a whole, so nothing is shared scalar by scalar either
abbrev pub SharesNoScalar : Type 0
SharesNoScalar = (p : Tables) → IsTyped p → IsComposed p → IsComposedByScalars p

-- a tube that leaves a region is not inside it, and it leaves it in one way
abbrev pub TubesLeaveInOneWay : Type 0
TubesLeaveInOneWay =
    (p : Tables) (plant : PlantInfo) (commands : List Side) (region : List (List Side))
    (box : List Side) (k : ℕ) (leave : Leave)
    → TubeLeaves p plant commands region box k leave
    → (TubeInside p plant commands region box k → ⊥)
    × ((other : Leave) → TubeLeaves p plant commands region box k other → leave ≡ other)

-- a region has one hull at most
abbrev pub HullsAreUnique : Type 0
HullsAreUnique =
    (region : List (List Side)) (hull other : List Side) → IsHull region hull → IsHull region other
    → hull ≡ other

-- a safe node without traps from the hulls of the safe regions meets none in a cell that its
-- module's safe region covers
abbrev pub CoveredCellsNeverTrap : Type 0
CoveredCellsNeverTrap =
    (p : Tables) (m : ℕ) (a : ModuleInfo) (plant : PlantInfo) (sc : NodeInfo) (acts : List Act)
    (hulls : List (List Side)) (cell : List Side) (s : List ℤ) (o : OrMayTrap Intervals)
    → IsTyped p → NoSharedPlant p → At p.modules m a → At p.plants a.plant plant
    → At p.nodes a.sc sc → IsTrapFree p sc acts
    → AllHulls p hulls → IsWithin cell s → Covers a.safe.boxes cell
    → IsNodeExecution p sc acts (slice_set hulls a.plant cell) o
    → (fired : Intervals) × (o ≡ Ok fired)

-- a certificate shows that a module keeps its plant safe from each point of its safer region on
abbrev pub SaferPointsAreKept : Type 0
SaferPointsAreKept =
    (p : Tables) (cert : Cert) (m : ℕ) (a : ModuleInfo) (s : List ℤ) → MeetsTableRules p
    → IsWellCertified p cert.jitter cert
    → At p.modules m a → IsInRegion a.safer.boxes s → Keeps p cert.jitter a s

-- a verdict is exact: acceptance gives no refusal, and there is one refusal at most; so are its
-- parts, module by module
abbrev pub VerdictsAreExact : Type 0
VerdictsAreExact =
    (p : Tables) (jitter : ℕ) (cert : Cert)
    → IsExact (verdict p jitter cert) × IsExact (composition p)
    × ((m : ℕ) (a : ModuleInfo) → IsExact (shape p cert m a) × IsExact (cells_of p jitter cert m a))
    × ((n : ℕ) (node : NodeInfo) → IsExact (code p n node))

-- a verdict is acceptance exactly where the program is well certified, for a jitter below every
-- period
abbrev pub AcceptedIsWellCertified : Type 0
AcceptedIsWellCertified =
    (p : Tables) (jitter : ℕ) (cert : Cert) → IsTyped p
    → ((n : ℕ) (node : NodeInfo) → At p.nodes n node → jitter < node.period)
    → ((m : ℕ) (a : ModuleInfo) → At p.modules m a → jitter < a.period)
    → ((verdict p jitter cert).Passes ↔ IsWellCertified p jitter cert)

-- without jitter the periods ask for nothing more
abbrev pub AcceptedWithoutJitter : Type 0
AcceptedWithoutJitter =
    (p : Tables) (cert : Cert) → IsTyped p → ((verdict p 0 cert).Passes ↔ IsWellCertified p 0 cert)
