-- Configurations of a running program.
use Rattle.std.specs.Prelude.{ℕ, ℤ, pos, Bool, true, false, List, [], slice_index_or, ◌≡◌, length}
use Rattle.std.specs.Prelude.{map, ◌↔◌}
pub use Rattle.sot_world.specs.declared.mode.Mode.{Mode}
pub use Rattle.sot_world.specs.declared.mode.Mode.TheVariants.{Ac, Sc}
use Rattle.sot_lang.specs.declared.tables.PlantInfo.{PlantInfo}
use Rattle.sot_lang.specs.declared.tables.NodeInfo.{NodeInfo}
use Rattle.sot_lang.specs.declared.tables.ModuleInfo.{ModuleInfo}
use Rattle.sot_lang.specs.Tables.{Tables}
use Rattle.sot_lists.specs.Places.{At}
use Rattle.sot_box.specs.Regions.{IsInRegion}
use Rattle.sot_calendar.specs.Due.{IsDue}

-- a configuration: the count of ticks so far, what is left to fire now, a mode per module, a number
-- per scalar, a list of locals per node, and a point per plant
pub record Configuration : Type 0 where
  pub time : ℕ
  pub left : List Bool  -- per node, that it is left to fire
  pub left_dm : List Bool  -- per module, that its decision is left
  pub modes : List Mode
  pub scalars : List ℤ
  pub locals : List (List ℤ)
  pub points : List (List ℤ)

-- the entries of a configuration by their places
abbrev pub is_left : Configuration → ℕ → Bool
is_left C n = slice_index_or C.left n false

abbrev pub is_left_dm : Configuration → ℕ → Bool
is_left_dm C m = slice_index_or C.left_dm m false

abbrev pub mode_of : Configuration → ℕ → Mode
mode_of C m = slice_index_or C.modes m Sc

abbrev pub number_of : Configuration → ℕ → ℤ
number_of C k = slice_index_or C.scalars k (pos 0)

abbrev pub locals_of : Configuration → ℕ → List ℤ
locals_of C n = slice_index_or C.locals n []

abbrev pub point_of : Configuration → ℕ → List ℤ
point_of C k = slice_index_or C.points k []

-- the present numbers of a plant's inputs
abbrev pub commands : PlantInfo → Configuration → List ℤ
commands plant C = map (number_of C) plant.inputs.items

-- the present points of the plants that a plant sees
abbrev pub seen_points : PlantInfo → Configuration → List (List ℤ)
seen_points plant C = map (point_of C) plant.sees.items

-- a configuration of this program has one entry for each of its nodes, modules, scalars and plants
pub record IsSized (p : Tables) (C : Configuration) : Type 0 where
  pub left : length C.left ≡ length p.nodes
  pub left_dm : length C.left_dm ≡ length p.modules
  pub modes : length C.modes ≡ length p.modules
  pub scalars : length C.scalars ≡ length p.scalars
  pub locals : length C.locals ≡ length p.nodes
  pub points : length C.points ≡ length p.plants

-- the opening at these points: time 0, all that is due at 0 left to fire, every mode Sc, and
-- scalars and locals as declared
pub record IsOpening (p : Tables) (start : List (List ℤ)) (C : Configuration) : Type 0 where
  pub time : C.time ≡ 0
  pub left : (n : ℕ) (node : NodeInfo) → At p.nodes n node
      → (is_left C n ≡ true) ↔ IsDue node.period node.offset 0
  pub left_dm : (m : ℕ) (module_info : ModuleInfo) → At p.modules m module_info
      → (is_left_dm C m ≡ true) ↔ IsDue module_info.period module_info.offset 0
  pub modes : C.modes ≡ map (λ m. Sc) p.modules
  pub scalars : C.scalars ≡ map (λ i. i.init) p.scalars
  pub locals : C.locals ≡ map (λ n. map (λ l. l.init) n.locals.items) p.nodes
  pub points : C.points ≡ start
  pub sizes : IsSized p C
  pub widths : (k : ℕ) (plant : PlantInfo) → At p.plants k plant
      → length (point_of C k) ≡ length plant.states.items

-- each module's plant starts in its safer region
abbrev pub IsSafer : Tables → Configuration → Type 0
IsSafer p C =
    (m : ℕ) (module_info : ModuleInfo) → At p.modules m module_info
    → IsInRegion module_info.safer.boxes (point_of C module_info.plant)
