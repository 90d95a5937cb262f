-- What a node drafts with one plant in a cell.
use Rattle.std.specs.Prelude.{ℕ, ◌≡◌, List, length, map, slice_set}
use Rattle.sot_box.specs.Sides.{Side}
use Rattle.sot_lang.specs.declared.act.Act.{Act}
use Rattle.sot_lang.specs.declared.tables.Slot.{Slot}
use Rattle.sot_lang.specs.declared.tables.NodeInfo.{NodeInfo}
use Rattle.sot_lang.specs.Tables.{Tables}
use Rattle.sot_lang.specs.SafeRegions.{AllHulls}
use Rattle.sot_lang.specs.TableRules.{IsCoded}
use Rattle.sot_iv.specs.declared.drafted.Drafted.{Drafted}
use Rattle.sot_iv.specs.TermIntervals.{OrMayTrap}
use Rattle.sot_iv.specs.BodyIntervals.{Intervals}
use Rattle.sot_iv.specs.NodeIntervals.{interval_at, IsNodeExecution}
use Rattle.sot_iv.specs.NodeFirings.{drafts_of}

-- what a slot shows, with plant k in a cell and the others in the hulls of their safe regions
abbrev pub IsCellReading : Tables → ℕ → List Side → Slot → Side → Type 0
IsCellReading p k cell s r =
    (hulls : List (List Side)) → AllHulls p hulls → r ≡ interval_at p (slice_set hulls k cell) s

-- what some slots show, with plant k in a cell and the others in the hulls of their safe regions
pub record AreCellReadings (p : Tables) (k : ℕ) (cell : List Side) (ss : List Slot) (rs : List Side)
    : Type 0 where
  pub count : length rs ≡ length ss
  pub are : (hulls : List (List Side)) → AllHulls p hulls
      → rs ≡ map (interval_at p (slice_set hulls k cell)) ss

-- what a node drafts with plant k in a cell and the others in their safe regions, or its first
-- trap
abbrev pub IsCellDraft : Tables → ℕ → List Side → NodeInfo → OrMayTrap (List Drafted) → Type 0
IsCellDraft p k cell node result =
    (acts : List Act) (hulls : List (List Side)) → IsCoded node acts → AllHulls p hulls
    → (o : OrMayTrap Intervals) × IsNodeExecution p node acts (slice_set hulls k cell) o
    × (result ≡ drafts_of o)
