-- Regions that the modules of a program may take.
use Rattle.std.specs.Prelude.{◌≡◌, ℕ, ◌≤◌, pos, negsuc, ◌≤ℤ◌, List, [], ◌∷◌, length}
use Rattle.sot_lists.specs.Places.{At}
use Rattle.sot_box.specs.Sides.{Side, AreOrdered}
use Rattle.sot_box.specs.BoxList.{BoxList}
use Rattle.sot_syntax_tree.specs.Trees.{Area, Module, Declaration, a_topic, a_plant, a_node}
use Rattle.sot_syntax_tree.specs.Trees.{a_module}
use Rattle.sot_regions_rewrite.specs.declared.modules.ModuleRegions.{ModuleRegions}
use Rattle.sot_regions_rewrite.specs.OtherRegions.{left_behind}

-- ends that a program's text may have: from -10^12 to 10^12
abbrev pub IsShort : Side → Type 0
IsShort r = (negsuc 999999999999 ≤ℤ r.lo) × (r.hi ≤ℤ pos 1000000000000)

-- a box that can be written like a given one: it has as many sides, none of them empty, and their
-- ends are within these limits
pub record IsLike (given : Area) (box : List Side) : Type 0 where
  pub width : length box ≡ length given.sides
  pub ordered : AreOrdered box
  pub short : (i : ℕ) (r : Side) → At box i r → IsShort r

-- a region for a module: at most 256 boxes, each of them like the first box of its `safe`, which
-- has one where there is one to be like
pub record Fits (given : List Area) (region : BoxList) : Type 0 where
  pub few : length region.boxes ≤ 256
  pub each : (i : ℕ) (box : List Side) → At region.boxes i box
      → (a : Area) × At given 0 a × IsLike a box

-- both regions of a module
pub record FitsModule (m : Module) (regions : ModuleRegions) : Type 0 where
  pub safe : Fits m.safe regions.safe
  pub safer : Fits m.safe regions.safer

-- the regions that a declaration takes, where it takes some
abbrev pub FitNext : List ModuleRegions → Declaration → Type 0
FitNext (regions ∷ later) (a_module m) = FitsModule m regions
FitNext [] d = Unit {0}
FitNext (regions ∷ later) (a_topic t) = Unit {0}
FitNext (regions ∷ later) (a_plant q) = Unit {0}
FitNext (regions ∷ later) (a_node n) = Unit {0}

-- the regions of all modules that take some
abbrev pub AreFitting : List ModuleRegions → List Declaration → Type 0
AreFitting regions [] = Unit {0}
AreFitting regions (d ∷ ds) = FitNext regions d × AreFitting (left_behind d regions) ds
