-- Modules whose held tubes are the same whatever the regions of the program are.
use Rattle.std.specs.Prelude.{◌≡◌, ℕ, ℤ, List, [], Ok}
use Rattle.sot_lists.specs.Places.{At, Has}
use Rattle.sot_box.specs.Sides.{Side}
use Rattle.sot_box.specs.Regions.{IsInRegion}
use Rattle.sot_lang.specs.declared.act.Act.{Act}
use Rattle.sot_lang.specs.declared.cert.Cert.{Cert}
use Rattle.sot_lang.specs.declared.tables.Slot.TheVariants.{State}
use Rattle.sot_lang.specs.declared.tables.PlantInfo.{PlantInfo}
use Rattle.sot_lang.specs.declared.tables.NodeInfo.{NodeInfo}
use Rattle.sot_lang.specs.declared.tables.ModuleInfo.{ModuleInfo}
use Rattle.sot_lang.specs.Tables.{Tables}
use Rattle.sot_lang.specs.Ranges.{local_ranges}
use Rattle.sot_lang.specs.TableRules.{MeetsTableRules, IsCoded}
use Rattle.sot_iv.specs.BodyIntervals.{Intervals, IsExecutionIntervals}
use Rattle.sot_iv.specs.PlantIntervals.{IsNextBox}
use Rattle.sot_traps.specs.Verdict.{HaveSafeBoxes}
use Rattle.sot_tube.specs.Certified.{IsWellCertified}
use Rattle.sot_law_invariant_regions.specs.Following.{IsHeldRegion, HasNoHeldRegion}

-- the module's plant sees none, and its safe node reads the states of no other plant
pub record IsAlone (p : Tables) (a : ModuleInfo) : Type 0 where
  pub sees_none : (plant : PlantInfo) → At p.plants a.plant plant → plant.sees.items ≡ []
  pub reads_own : (sc : NodeInfo) (k v : ℕ) → At p.nodes a.sc sc → Has sc.reads.items (State k v)
      → k ≡ a.plant

-- a plant steps as another does
pub record MoveAlike (one other : PlantInfo) : Type 0 where
  pub inputs : one.inputs.items ≡ other.inputs.items
  pub sees : one.sees.items ≡ other.sees.items
  pub steps : (box commands seen next : List Side) → IsNextBox one box commands seen (Ok next)
      → IsNextBox other box commands seen (Ok next)

-- what the body of a node leaves of its locals and drafts, with what it reads in these intervals
abbrev pub IsRun : NodeInfo → List Act → List Side → List Side → Intervals → Type 0
IsRun node acts writes seen f =
    IsExecutionIntervals acts (local_ranges node) writes seen (local_ranges node) (Ok f)

-- a node drafts as another does
pub record DraftAlike (one other : NodeInfo) : Type 0 where
  pub period : one.period ≡ other.period
  pub reads : one.reads.items ≡ other.reads.items
  pub writes : one.writes.items ≡ other.writes.items
  pub bodies : (acts : List Act) → IsCoded one acts → (us : List Act) × IsCoded other us
      × ((writes seen : List Side) (f : Intervals) → IsRun one acts writes seen f
      → IsRun other us writes seen f)

-- a module of one program has the plant and the safe node that a module of another has
pub record RunAlike (p u : Tables) (a b : ModuleInfo) : Type 0 where
  pub scalars : p.scalars ≡ u.scalars
  pub plant : a.plant ≡ b.plant
  pub sc : a.sc ≡ b.sc
  pub plants : (one other : PlantInfo) → At p.plants a.plant one → At u.plants b.plant other
      → MoveAlike one other
  pub nodes : (one other : NodeInfo) → At p.nodes a.sc one → At u.nodes b.sc other
      → DraftAlike one other

-- a region that is held in one program is held in another whose module runs alike and is alone
abbrev pub HeldRegionsStayHeld : Type 0
HeldRegionsStayHeld =
    (p u : Tables) (jitter m k : ℕ) (a b : ModuleInfo) (region : List (List Side))
    → MeetsTableRules p → MeetsTableRules u → HaveSafeBoxes u
    → At p.modules m a → At u.modules k b → RunAlike p u a b → IsAlone p a
    → IsHeldRegion p jitter a region → IsHeldRegion u jitter b region

-- where no held region lies in a module's safe region, no safe region inside it has a certificate,
-- in whatever program runs alike
abbrev pub NoneIsCertified : Type 0
NoneIsCertified =
    (t u : Tables) (jitter : ℕ) (cert : Cert) (m k : ℕ) (a b : ModuleInfo) (s : List ℤ)
    → MeetsTableRules t → MeetsTableRules u → HaveSafeBoxes t
    → At t.modules m a → At u.modules k b → RunAlike u t b a → IsAlone u b
    → HasNoHeldRegion t jitter a
    → ((x : List ℤ) → IsInRegion b.safe.boxes x → IsInRegion a.safe.boxes x)
    → IsInRegion b.safe.boxes s → IsWellCertified u jitter cert → ⊥
