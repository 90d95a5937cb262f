-- A vehicle on a line. Places are those of this text, whose first line is line 1:
--   topic cmd: int[-2..2] = 0;
--   plant pos {
--     state x: int;
--     input cmd;
--     noise w: int[-1..1];
--     next x = (x + cmd) + w;
--   }
--   external fast period 4 offset 0 {
--     reads pos;
--     writes cmd;
--   }
--   node slow period 2 offset 0 {
--     reads pos;
--     writes cmd;
--     do {
--       publish cmd = if (pos.x > 10) then -2 else (if (pos.x < -10) then 2 else 0);
--     }
--   }
--   module nav {
--     ac fast;
--     sc slow;
--     period 4 offset 0;
--     plant pos;
--     safe [-40..40];
--     safer [-10..10];
--   }
use Rattle.std.specs.Prelude.{false, ◌≡◌, pos, negsuc, None, List, [], ◌∷◌}
use Rattle.sot_syntax_tree.specs.declared.operator.Op.TheVariants.{Add, Sub, Div, Greater, Less}
use Rattle.sot_lang.specs.declared.term.Term.{Term}
use Rattle.sot_lang.specs.declared.term.Term.TheVariants.{Number, Place}
use Rattle.sot_lang.specs.declared.act.Act.{Act}
use Rattle.sot_lang.specs.declared.act.Act.TheVariants.{Publish}
use Rattle.sot_lang.specs.declared.tables.Slot.TheVariants.{State}
use Rattle.sot_lang.specs.declared.tables.PlantInfo.{PlantInfo}
use Rattle.sot_lang.specs.declared.tables.NodeInfo.{NodeInfo}
use Rattle.sot_lang.specs.declared.tables.ModuleInfo.{ModuleInfo}
use Rattle.sot_lang.specs.Tables.{Tables}
use Rattle.sot_lang.specs.TableRules.{IsCoded}
use Rattle.sot_lang.specs.Line.{side, cmd_name, pos_name, fast_name, slow_name, nav_name}
use Rattle.sot_worked_missions.specs.Parts.{place, one_topic, whole_number, IsBinary, IsChoice}

-- where the vehicle is next: (x + cmd) + w
abbrev pub IsMove : Term → Type 0
IsMove t =
    (sum : Term) × IsBinary Add (Place 0) (Place 1) (place 6 15) sum
    × IsBinary Add sum (Place 2) (place 6 22) t

-- with another tick in that line: (x + cmd) + (w / (x - 5))
abbrev pub IsDrift : Term → Type 0
IsDrift t =
    (sum : Term) × (gap : Term) × (share : Term) × IsBinary Add (Place 0) (Place 1) (place 6 15) sum
    × IsBinary Sub (Place 0) (Number (pos 5)) (place 6 32) gap
    × IsBinary Div (Place 2) gap (place 6 27) share
    × IsBinary Add sum share (place 6 22) t

-- the vehicle, with such a tick
pub record IsPos (IsNext : Term → Type 0) (plant : PlantInfo) : Type 0 where
  pub name : plant.name ≡ pos_name
  pub states : plant.states.items ≡ record { name = 120 ∷ []; scale = 0 } ∷ []
  pub inputs : plant.inputs.items ≡ 0 ∷ []
  pub sees : plant.sees.items ≡ []
  pub noise : plant.noise.items ≡ record { name = 119 ∷ []; scale = 0; lo = negsuc 0; hi = pos 1 } ∷
      []
  pub next : (t : Term) × IsNext t × (plant.next.items ≡ t ∷ [])

-- if (pos.x > 10) then -2 else (if (pos.x < -10) then 2 else 0)
abbrev pub IsReturn : Term → Type 0
IsReturn t =
    (above : Term) × (below : Term) × (rest : Term)
    × IsBinary Greater (Place 0) (Number (pos 10)) (place 16 29) above
    × IsBinary Less (Place 0) (Number (negsuc 9)) (place 16 59) below
    × IsChoice below (Number (pos 2)) (Number (pos 0)) (place 16 49) rest
    × IsChoice above (Number (negsuc 1)) rest (place 16 19) t

-- publish cmd = if (pos.x > 10) then -2 else (if (pos.x < -10) then 2 else 0)
abbrev pub IsCommand : List Act → Type 0
IsCommand acts = (t : Term) × IsReturn t × (acts ≡ Publish 0 t (place 16 13) ∷ [])

-- the advanced node, whose drafts come from outside
pub record IsFast (node : NodeInfo) : Type 0 where
  pub name : node.name ≡ fast_name
  pub period : node.period ≡ 4
  pub offset : node.offset ≡ 0
  pub reads : node.reads.items ≡ State 0 0 ∷ []
  pub writes : node.writes.items ≡ 0 ∷ []
  pub locals : node.locals.items ≡ []
  pub body : node.body ≡ None

-- the safe node
pub record IsSlow (node : NodeInfo) : Type 0 where
  pub name : node.name ≡ slow_name
  pub period : node.period ≡ 2
  pub offset : node.offset ≡ 0
  pub reads : node.reads.items ≡ State 0 0 ∷ []
  pub writes : node.writes.items ≡ 0 ∷ []
  pub locals : node.locals.items ≡ []
  pub body : (acts : List Act) × IsCoded node acts × IsCommand acts

-- the module
abbrev pub nav : ModuleInfo
nav = record {
  name = nav_name;
  ac = 0;
  sc = 1;
  period = 4;
  offset = 0;
  plant = 0;
  safe = record { width = 1; boxes = (side (negsuc 39) (pos 40) ∷ []) ∷ []; settled = false };
  safer = record { width = 1; boxes = (side (negsuc 9) (pos 10) ∷ []) ∷ []; settled = false };
}

-- the tables, with such a tick of the vehicle; all other places are those of the text above
pub record IsLine (IsNext : Term → Type 0) (p : Tables) : Type 0 where
  pub topics : p.topics ≡ one_topic cmd_name 0 ∷ []
  pub scalars : p.scalars ≡ whole_number 0 (negsuc 1) (pos 2) ∷ []
  pub plants : (plant : PlantInfo) × IsPos IsNext plant × (p.plants ≡ plant ∷ [])
  pub nodes : (fast : NodeInfo) × (slow : NodeInfo) × IsFast fast × IsSlow slow
      × (p.nodes ≡ fast ∷ slow ∷ [])
  pub modules : p.modules ≡ nav ∷ []
