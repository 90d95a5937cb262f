-- Between the crate's own functions: the boxes of a tube, in a list.
use Rattle.std.specs.Prelude.{ℕ, ◌+◌, ◌≡◌, ◌≤◌, List, length}
use Rattle.sot_lists.specs.Places.{At}
use Rattle.sot_box.specs.Sides.{Side}
use Rattle.sot_lang.specs.declared.tables.PlantInfo.{PlantInfo}
use Rattle.sot_lang.specs.declared.cert.Cert.{Cert}
use Rattle.sot_lang.specs.Tables.{Tables}
use Rattle.sot_lang.specs.SafeRegions.{AreHulls, joined_boxes}
use Rattle.sot_iv.specs.BodyIntervals.{Intervals}
use Rattle.sot_tube.specs.Certified.{DraftsFrom, command_intervals}
use Rattle.sot_law_runs.specs.TubeBoxes.{IsBoxAfter}
use Rattle.sot_law_runs.specs.Holds.{Guarded}

-- there is a box after each of so many ticks
abbrev pub GoesOn : PlantInfo → List Side → List Side → List Side → ℕ → Type 0
GoesOn plant held seen first k =
    (j : ℕ) → j ≤ k → (b : List Side) × IsBoxAfter plant held seen first j b

-- the first box, and the box after each of so many ticks
pub record AreTubeBoxes (plant : PlantInfo) (held seen first : List Side) (k : ℕ)
    (boxes : List (List Side)) : Type 0 where
  pub count : length boxes ≡ k + 1
  pub are : (j : ℕ) (b : List Side) → At boxes j b → IsBoxAfter plant held seen first j b

-- the boxes of the tube of a cell, with the commands that are held from it, for the safe node's
-- period and the jitter
pub record IsTubeOf {p : Tables} {cert : Cert} {m : ℕ} (g : Guarded p cert m) (cell : List Side)
    (boxes : List (List Side)) : Type 0 where
  pub fired : Intervals
  pub drafts : DraftsFrom p g.info g.sc g.acts cell fired
  pub hulls : List (List Side)
  pub are : AreHulls p.modules g.plant.sees.items hulls
  pub boxes_are : AreTubeBoxes g.plant (command_intervals p g.plant g.sc fired.draft)
      (joined_boxes hulls) cell (g.sc.period + cert.jitter) boxes
