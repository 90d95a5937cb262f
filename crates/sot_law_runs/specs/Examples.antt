-- Configurations and small programs for the worked facts.
use Rattle.std.specs.Prelude.{ℕ, ℤ, pos, true, false, Bool, List, [], ◌∷◌}
use Rattle.std.proofs.Common.{refl}
use Rattle.std.specs.Global.{Global}
use Rattle.sot_lang.specs.declared.tables.Slot.TheVariants.{State}
use Rattle.sot_lang.specs.declared.tables.TopicInfo.{TopicInfo}
use Rattle.sot_lang.specs.declared.tables.ScalarInfo.{ScalarInfo}
use Rattle.sot_lang.specs.declared.tables.PlantInfo.{PlantInfo}
use Rattle.sot_lang.specs.declared.tables.NodeInfo.{NodeInfo}
use Rattle.sot_lang.specs.declared.tables.ModuleInfo.{ModuleInfo}
use Rattle.sot_lang.specs.Tables.{Tables}
use Rattle.sot_lang.specs.Line.{vec, cmd, cmd_number, pos_plant, fast, slow, nav}
use Rattle.sot_world.specs.declared.mode.Mode.{Mode}
use Rattle.sot_world.specs.Configurations.{Configuration}
use Rattle.sot_world.specs.Examples.{settled, relay, copy, far_copy, twins, twins_at, twins_idle}
use Rattle.sot_world.specs.Examples.{swapping, divided_plant}

-- the relay at a time, its node left or not, with the number 5 on its environment topic and a
-- number on the other
abbrev pub relay_at : ℕ → Bool → ℤ → Configuration
relay_at t left m =
    record {
      time = t;
      left = left ∷ [];
      left_dm = [];
      modes = [];
      scalars = pos 5 ∷ m ∷ [];
      locals = [] ∷ [];
      points = [];
    }

-- the running example at a time, with nodes left to fire, its decision left or not, and the plant
-- at a point; the command is 2
abbrev pub line_at : ℕ → List Bool → Bool → ℤ → Configuration
line_at t left left_dm x =
    record settled { time = t; left = left; left_dm = left_dm ∷ []; points = (x ∷ []) ∷ [] }

-- a program with nothing in it, and the one configuration that it has at a time
abbrev pub nothing : Tables
nothing = record { topics = []; scalars = []; plants = []; nodes = []; modules = [] }

abbrev pub nothing_at : ℕ → Configuration
nothing_at t =
    record { time = t; left = []; left_dm = []; modes = []; scalars = []; locals = []; points = [] }

-- the two plants that see each other, at two points
abbrev pub twins_in : ℤ → ℤ → Configuration
twins_in x y = record (twins_at 0) { points = (x ∷ []) ∷ (y ∷ []) ∷ [] }

module _ (g : Global) where
  -- the second plant's tick divides by its state
  abbrev pub second_divides : Tables
  second_divides = record (twins g) { plants = swapping g 1 ∷ divided_plant g ∷ [] }

  -- the second node publishes m = e + 9
  abbrev pub second_far : Tables
  second_far = record (relay g) { nodes = copy g ∷ far_copy g ∷ [] }

-- the two plants with no decision left, and the two nodes that are not left
abbrev pub twins_rest : ℤ → ℤ → Configuration
twins_rest x y = record (twins_idle 1) { points = (x ∷ []) ∷ (y ∷ []) ∷ [] }

abbrev pub two_nodes_at : ℤ → Configuration
two_nodes_at e =
    record {
      time = 1;
      left = false ∷ false ∷ [];
      left_dm = [];
      modes = [];
      scalars = e ∷ pos 0 ∷ [];
      locals = [] ∷ [] ∷ [];
      points = [];
    }

-- the running example twice over in one program: a second topic, plant, advanced node (2), safe
-- node (3) and module beside the first ones
module _ (g : Global) where
  abbrev pub cmd_2 : TopicInfo
  cmd_2 = record { name = 99 ∷ 50 ∷ []; outside = false; first = 1; count = 1 }

  abbrev pub number_2 : ScalarInfo
  number_2 = record (cmd_number g) { topic = 1 }

  abbrev pub plant_2 : PlantInfo
  plant_2 = record (pos_plant g) { name = 112 ∷ 50 ∷ []; inputs = vec g (1 ∷ []) refl }

  abbrev pub fast_2 : NodeInfo
  fast_2 =
      record (fast g) {
        name = 102 ∷ 50 ∷ [];
        reads = vec g (State 1 0 ∷ []) refl;
        writes = vec g (1 ∷ []) refl;
      }

  abbrev pub slow_2 : NodeInfo
  slow_2 =
      record (slow g) {
        name = 115 ∷ 50 ∷ [];
        reads = vec g (State 1 0 ∷ []) refl;
        writes = vec g (1 ∷ []) refl;
      }

  abbrev pub nav_2 : ModuleInfo
  nav_2 = record (nav g) { name = 110 ∷ 50 ∷ []; ac = 2; sc = 3; plant = 1 }

  abbrev pub two_lines : Tables
  two_lines = record {
    topics = cmd g ∷ cmd_2 ∷ [];
    scalars = cmd_number g ∷ number_2 ∷ [];
    plants = pos_plant g ∷ plant_2 ∷ [];
    nodes = fast g ∷ slow g ∷ fast_2 ∷ slow_2 ∷ [];
    modules = nav g ∷ nav_2 ∷ [];
  }

-- both plants at 20, no decision left, with the modes of the two modules, what is left to fire, and
-- the two commands
abbrev pub two_lines_in : Mode → Mode → List Bool → ℤ → ℤ → Configuration
two_lines_in first second left c d = record {
  time = 0;
  left = left;
  left_dm = false ∷ false ∷ [];
  modes = first ∷ second ∷ [];
  scalars = c ∷ d ∷ [];
  locals = [] ∷ [] ∷ [] ∷ [] ∷ [];
  points = (pos 20 ∷ []) ∷ (pos 20 ∷ []) ∷ [];
}

-- all four nodes are left to fire, or all but one
abbrev pub all_left : List Bool
all_left = true ∷ true ∷ true ∷ true ∷ []

abbrev pub fired_0 : List Bool
fired_0 = false ∷ true ∷ true ∷ true ∷ []

abbrev pub fired_1 : List Bool
fired_1 = true ∷ false ∷ true ∷ true ∷ []

abbrev pub fired_2 : List Bool
fired_2 = true ∷ true ∷ false ∷ true ∷ []

abbrev pub fired_3 : List Bool
fired_3 = true ∷ true ∷ true ∷ false ∷ []
