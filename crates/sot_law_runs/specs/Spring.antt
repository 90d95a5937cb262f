-- A spring, for the worked facts of recovery: one whole hold is needed, and is enough.
--   topic cmd: int[0..1] = 0;
--   plant pos { state x: int; input cmd; next x = if (cmd > 0) then (x + 1) else 0; }
--   external fast period 1 offset 0 { reads pos; writes cmd; }
--   node slow period 1 offset 0 { reads pos; writes cmd; do { publish cmd = 0; } }
--   module nav { ac fast; sc slow; period 1 offset 0; plant pos; safe [0..2]; safer [0..0]; }
use Rattle.std.specs.Prelude.{ℕ, ℤ, pos, Bool, true, false, Some, List, [], ◌∷◌}
use Rattle.std.proofs.Common.{refl}
use Rattle.std.specs.Global.{Global}
use Rattle.sot_syntax_tree.specs.declared.operator.Op.TheVariants.{Add, Greater}
use Rattle.sot_lang.specs.declared.term.Term.{Term}
use Rattle.sot_lang.specs.declared.term.Term.TheVariants.{Number, Place, Binary', If'}
use Rattle.sot_lang.specs.declared.act.Act.{Act}
use Rattle.sot_lang.specs.declared.act.Act.TheVariants.{Publish}
use Rattle.sot_lang.specs.declared.tables.ScalarInfo.{ScalarInfo}
use Rattle.sot_lang.specs.declared.tables.PlantInfo.{PlantInfo}
use Rattle.sot_lang.specs.declared.tables.NodeInfo.{NodeInfo}
use Rattle.sot_lang.specs.declared.tables.ModuleInfo.{ModuleInfo}
use Rattle.sot_lang.specs.declared.cert.Cells.{Cells}
use Rattle.sot_lang.specs.declared.cert.Cert.{Cert}
use Rattle.sot_lang.specs.Tables.{Tables}
use Rattle.sot_lang.specs.Line.{cmd, cmd_number, pos_plant, fast, slow, nav, vec, boxed, somewhere}
use Rattle.sot_lang.specs.Line.{side}
use Rattle.sot_world.specs.Configurations.{Configuration}
use Rattle.sot_world.specs.declared.mode.Mode.{Mode}
use Rattle.sot_world.specs.declared.mode.Mode.TheVariants.{Ac, Sc}
use Rattle.sot_world.specs.Steps.{Event, Code, Guest, Decide, Tick}
use Rattle.sot_world.specs.Examples.{segments}
use Rattle.sot_law_runs.specs.Holds.{Guarded}

module _ (g : Global) where
  abbrev pub pull : ScalarInfo
  pull = record (cmd_number g) { lo = pos 0; hi = pos 1 }

  abbrev pub spring_next : Term
  spring_next =
      If' (boxed g) (Binary' Greater (boxed g) (Place 1) (boxed g) (Number (pos 0)) somewhere)
      (boxed g) (Binary' Add (boxed g) (Place 0) (boxed g) (Number (pos 1)) somewhere) (boxed g)
      (Number (pos 0)) somewhere

  abbrev pub spring_plant : PlantInfo
  spring_plant =
      record (pos_plant g) { noise = vec g [] refl; next = vec g (spring_next ∷ []) refl }

  abbrev pub pulls : NodeInfo
  pulls = record (fast g) { period = 1 }

  abbrev pub let_go_acts : List Act
  let_go_acts = Publish 0 (Number (pos 0)) somewhere ∷ []

  abbrev pub lets_go : NodeInfo
  lets_go = record (slow g) { period = 1; body = Some (vec g let_go_acts refl) }

  abbrev pub spring_module : ModuleInfo
  spring_module =
      record (nav g) {
        period = 1;
        safe = segments g (pos 0) (pos 2);
        safer = segments g (pos 0) (pos 0);
      }

  abbrev pub spring : Tables
  spring = record {
    topics = cmd g ∷ [];
    scalars = pull ∷ [];
    plants = spring_plant ∷ [];
    nodes = pulls ∷ lets_go ∷ [];
    modules = spring_module ∷ [];
  }

  -- its certificate: the closed cells [0..0] and [1..2], and the reach cell [0..0]
  abbrev pub spring_cells : Cells
  spring_cells = record {
    closed =
        record {
          width = 1;
          boxes = (side (pos 0) (pos 0) ∷ []) ∷ (side (pos 1) (pos 2) ∷ []) ∷ [];
          settled = false;
        };
    reach = segments g (pos 0) (pos 0);
  }

  abbrev pub spring_cert : Cert
  spring_cert = record { jitter = 0; modules = vec g (Some spring_cells ∷ []) refl }

  abbrev pub spring_parts : Guarded spring spring_cert 0
  spring_parts = record {
    info = spring_module;
    info_is = refl;
    plant = spring_plant;
    plant_is = refl;
    sc = lets_go;
    sc_is = refl;
    acts = let_go_acts;
    coded = (_, refl, refl);
    cells = spring_cells;
    cells_are = refl;
  }

-- a tick of the spring, which has no disturbance
abbrev pub tick : Event
tick = Tick ([] ∷ [])

-- the spring at a time: which nodes and whether the decision is left, the mode, the command, and x
abbrev pub spring_at : ℕ → List Bool → Bool → Mode → ℤ → ℤ → Configuration
spring_at t left left_dm mode c x = record {
  time = t;
  left = left;
  left_dm = left_dm ∷ [];
  modes = mode ∷ [];
  scalars = c ∷ [];
  locals = [] ∷ [] ∷ [];
  points = (x ∷ []) ∷ [];
}

abbrev pub both : List Bool
both = true ∷ true ∷ []

abbrev pub neither : List Bool
neither = false ∷ false ∷ []

-- trusted at once, the advanced node pulls the spring to 1, from where it could leave [0..2]: the
-- module switches
abbrev pub pulling : List Event
pulling =
    Decide 0 ∷ Guest 0 (Some (pos 1) ∷ []) ∷ Code 1 ∷ tick ∷ Guest 0 (Some (pos 1) ∷ []) ∷ Code 1 ∷
    Decide 0 ∷ []

abbrev pub pulled : List Configuration
pulled =
    spring_at 0 both false Ac (pos 0) (pos 0) ∷
    spring_at 0 (false ∷ true ∷ []) false Ac (pos 1) (pos 0) ∷
    spring_at 0 neither false Ac (pos 1) (pos 0) ∷
    spring_at 1 both true Ac (pos 1) (pos 1) ∷
    spring_at 1 (false ∷ true ∷ []) true Ac (pos 1) (pos 1) ∷
    spring_at 1 neither true Ac (pos 1) (pos 1) ∷
    spring_at 1 neither false Sc (pos 1) (pos 1) ∷ []

-- the spring goes on to 2, where the safe node lets it go, and where the module decides before the
-- next tick
abbrev pub letting_go : List Event
letting_go = tick ∷ Code 1 ∷ []

abbrev pub let_go : List Configuration
let_go =
    spring_at 2 both true Sc (pos 1) (pos 2) ∷
    spring_at 2 (true ∷ false ∷ []) true Sc (pos 0) (pos 2) ∷
    spring_at 2 (true ∷ false ∷ []) false Sc (pos 0) (pos 2) ∷ []
