-- Ranks of closed cells: after how many holds from a cell its plant is in the safer region, as
-- boxes show it.
use Rattle.std.specs.Prelude.{ℕ, zero, suc, ℤ, List, ◌⊎◌, ◌≤◌, ◌<◌, ◌↔◌, ◌+◌, map}
use Rattle.std.specs.Prelude.{slice_index_or, []}
use Rattle.sot_lists.specs.Places.{At, Has}
use Rattle.sot_box.specs.Sides.{Side}
use Rattle.sot_box.specs.Boxes.{IsWithin}
use Rattle.sot_box.specs.Regions.{IsInRegion, IsFirstGap}
use Rattle.sot_lang.specs.declared.cert.Cert.{Cert}
use Rattle.sot_lang.specs.Tables.{Tables}
use Rattle.sot_lang.specs.SafeRegions.{AreHulls, joined_boxes}
use Rattle.sot_iv.specs.BodyIntervals.{Intervals}
use Rattle.sot_tube.specs.Tubes.{TubeInside}
use Rattle.sot_tube.specs.Certified.{DraftsFrom, command_intervals}
use Rattle.sot_law_runs.specs.TubeBoxes.{IsBoxAfter}
use Rattle.sot_law_runs.specs.Holds.{Guarded}

module _ {p : Tables} {cert : Cert} {m : ℕ} (g : Guarded p cert m) where
  -- the tube of a cell under what the safe node surely drafts from it, for the node's period and
  -- the jitter, is inside the safer region
  pub record StaysSafer (cell : List Side) : Type 0 where
    pub fired : Intervals
    pub drafts : DraftsFrom p g.info g.sc g.acts cell fired
    pub stays : TubeInside p g.plant (command_intervals p g.plant g.sc fired.draft)
        g.info.safer.boxes cell (g.sc.period + cert.jitter)

  -- a landing of a cell: the box of its tube at a tick at which the safe node may fire next
  pub record IsLanding (cell box : List Side) : Type 0 where
    pub fired : Intervals
    pub drafts : DraftsFrom p g.info g.sc g.acts cell fired
    pub hulls : List (List Side)
    pub are : AreHulls p.modules g.plant.sees.items hulls
    pub tick : ℕ
    pub least : g.sc.period ≤ tick + cert.jitter
    pub most : tick ≤ g.sc.period + cert.jitter
    pub is : IsBoxAfter g.plant (command_intervals p g.plant g.sc fired.draft) (joined_boxes hulls)
        cell tick box

  -- a point is in some closed cell with this property of places
  abbrev pub IsInCells : (ℕ → Type 0) → List ℤ → Type 0
  IsInCells Of s =
      (i : ℕ) × (cell : List Side) × Of i × At g.cells.closed.boxes i cell × IsWithin cell s

  -- the cell at place i lands in cells with this property: each point of each of its landings is in
  -- one
  abbrev pub LandsIn : (ℕ → Type 0) → ℕ → Type 0
  LandsIn Of i =
      (cell : List Side) × At g.cells.closed.boxes i cell
      × ((box : List Side) (s : List ℤ) → IsLanding cell box → IsWithin box s → IsInCells Of s)

  -- places of cells that keep to themselves: the tube of each is inside the safer region, and each
  -- lands in these cells
  abbrev pub KeepToThemselves : List ℕ → Type 0
  KeepToThemselves set =
      (i : ℕ) → Has set i → ((cell : List Side) × At g.cells.closed.boxes i cell × StaysSafer cell)
      × LandsIn (Has set) i

  -- the cell at place i has rank k at most: rank 0 in the greatest set of cells that keep to
  -- themselves, and rank k + 1 where it has rank k or lands in cells of rank k
  abbrev pub HasRank : ℕ → ℕ → Type 0
  HasRank zero i = (set : List ℕ) × Has set i × KeepToThemselves set
  HasRank (suc k) i = HasRank k i ⊎ LandsIn (HasRank k) i

  -- the cells of rank k cover the safe region
  abbrev pub Reaches : ℕ → Type 0
  Reaches k = (s : List ℤ) → IsInRegion g.info.safe.boxes s → IsInCells (HasRank k) s

  -- the rank of the module: the least k whose cells cover its safe region
  pub record IsRank (k : ℕ) : Type 0 where
    pub reaches : Reaches k
    pub least : (l : ℕ) → l < k → Reaches l → ⊥

  -- there is no rank: the cells of all ranks leave this point of the safe region out, the least one
  -- of the first box that they do not cover
  pub record HasNoRank (point : List ℤ) : Type 0 where
    pub none : (k : ℕ) → Reaches k → ⊥
    pub places : List ℕ
    pub are : (i : ℕ) → Has places i ↔ ((k : ℕ) × HasRank k i)
    pub first : IsFirstGap g.info.safe.boxes
        (map (λ i. slice_index_or g.cells.closed.boxes i []) places) point
