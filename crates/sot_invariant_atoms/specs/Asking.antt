-- Whose tubes are followed: those of a module's plant, under its safe node, at some jitter.
use Rattle.std.specs.Prelude.{◌≡◌, ℕ, ◌<◌, List, length}
use Rattle.sot_lists.specs.Places.{At}
use Rattle.sot_box.specs.Sides.{Side}
use Rattle.sot_lang.specs.declared.tables.ModuleInfo.{ModuleInfo}
use Rattle.sot_lang.specs.declared.tables.PlantInfo.{PlantInfo}
use Rattle.sot_lang.specs.Tables.{Tables}
use Rattle.sot_lang.specs.OwnerNames.{width_of, seen_width}
use Rattle.sot_iv.specs.SeenHulls.{AreSeenHulls}
use Rattle.sot_traps.specs.Verdict.{HaveSafeBoxes}

-- the module is there, each safe region of the program has a box, and the jitter is in its range
pub record MayAsk (p : Tables) (m jitter : ℕ) : Type 0 where
  pub there : m < length p.modules
  pub boxes : HaveSafeBoxes p
  pub below : jitter < 1000

-- what contracts see of the question: the program, the module, the jitter and the hulls of the
-- plants that the module's plant sees, one after another
pub record Asked : Type 0 where
  pub program : Tables
  pub info : ModuleInfo
  pub jitter : ℕ
  pub seen : List Side

-- how many state variables the module's plant has
abbrev pub asked_width : Asked → ℕ
asked_width q = width_of q.program.plants q.info.plant

-- the module is one of the program, which may be asked about, and the hulls are those of its plant
pub record IsAsked (q : Asked) : Type 0 where
  pub m : ℕ
  pub is : At q.program.modules m q.info
  pub boxes : HaveSafeBoxes q.program
  pub below : q.jitter < 1000
  pub hulls : (plant : PlantInfo) → At q.program.plants q.info.plant plant
      → AreSeenHulls q.program.modules plant.sees.items q.seen
  pub width : (plant : PlantInfo) → At q.program.plants q.info.plant plant
      → length q.seen ≡ seen_width q.program.plants plant.sees.items
