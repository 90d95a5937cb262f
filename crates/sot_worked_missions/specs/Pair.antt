-- The vehicle on a line beside a battery that sees it. Places are those of the vehicle's text,
-- which has 26 lines, followed by this one, whose first line is line 27:
--   topic d: int[-1..1] = 0;
--   plant cell {
--     state h: int, b: int;
--     input d;
--     sees pos;
--     noise w: int[0..1];
--     next h = clamp(h + d, 0, 10);
--     next b = if (h > 0) then (((b - 1) - (if (abs(pos.x) > 20) then 1 else 0)) - w) else b;
--   }
--   external up period 2 offset 0 {
--     reads cell;
--     writes d;
--   }
--   node down period 1 offset 0 {
--     reads cell;
--     writes d;
--     do {
--       publish d = -1;
--     }
--   }
--   module fly {
--     ac up;
--     sc down;
--     period 2 offset 0;
--     plant cell;
--     safe [0..0, 0..1000] | [1..1, 3..1000] | .. | [10..10, 30..1000];
--     safer [0..10, 42..1000];
--   }
use Rattle.std.specs.Prelude.{false, ◌≡◌, ℕ, zero, suc, ◌*◌, ℤ, pos, negsuc, None, List, [], ◌∷◌}
use Rattle.std.specs.Prelude.{◌++◌}
use Rattle.std.specs.Global.{Vec}
use Rattle.sot_box.specs.Sides.{Side}
use Rattle.sot_syntax_tree.specs.declared.operator.Op.TheVariants.{Add, Sub, Greater}
use Rattle.sot_syntax_tree.specs.declared.operator.Func.TheVariants.{Abs, Clamp}
use Rattle.sot_lang.specs.declared.term.Term.{Term, Call}
use Rattle.sot_lang.specs.declared.term.Term.TheVariants.{Number, Place}
use Rattle.sot_lang.specs.declared.act.Act.{Act}
use Rattle.sot_lang.specs.declared.act.Act.TheVariants.{Publish}
use Rattle.sot_lang.specs.declared.tables.Slot.TheVariants.{State}
use Rattle.sot_lang.specs.declared.tables.PlantInfo.{PlantInfo}
use Rattle.sot_lang.specs.declared.tables.NodeInfo.{NodeInfo}
use Rattle.sot_lang.specs.declared.tables.ModuleInfo.{ModuleInfo}
use Rattle.sot_lang.specs.Tables.{Tables}
use Rattle.sot_lang.specs.TableRules.{IsCoded}
use Rattle.sot_lang.specs.Line.{side, cmd_name}
use Rattle.sot_worked_missions.specs.Parts.{place, one_topic, whole_number, IsBinary, IsChoice}
use Rattle.sot_worked_missions.specs.Line.{IsMove, IsPos, IsFast, IsSlow, nav}

-- the names
abbrev pub cell_name : List ℕ
cell_name = 99 ∷ 101 ∷ 108 ∷ 108 ∷ []

abbrev pub up_name : List ℕ
up_name = 117 ∷ 112 ∷ []

abbrev pub down_name : List ℕ
down_name = 100 ∷ 111 ∷ 119 ∷ 110 ∷ []

abbrev pub fly_name : List ℕ
fly_name = 102 ∷ 108 ∷ 121 ∷ []

-- clamp(h + d, 0, 10), wherever its parts stand in memory
pub record IsHeight (t : Term) : Type 0 where
  pub sum : Term
  pub parts : Vec Term
  pub adds : IsBinary Add (Place 0) (Place 2) (place 33 20) sum
  pub items : parts.items ≡ sum ∷ Number (pos 0) ∷ Number (pos 10) ∷ []
  pub is : t ≡ Call Clamp parts (place 33 12)

-- abs(pos.x)
abbrev pub IsAway : Term → Type 0
IsAway t = (parts : Vec Term) × (parts.items ≡ Place 3 ∷ []) × (t ≡ Call Abs parts (place 34 45))

-- if (abs(pos.x) > 20) then 1 else 0
pub record IsToll (t : Term) : Type 0 where
  pub away : Term
  pub far : Term
  pub abs : IsAway away
  pub tests : IsBinary Greater away (Number (pos 20)) (place 34 56) far
  pub is : IsChoice far (Number (pos 1)) (Number (pos 0)) (place 34 41) t

-- ((b - 1) - such a number) - w
pub record IsDrain (t : Term) : Type 0 where
  pub toll : Term
  pub first : Term
  pub second : Term
  pub is_toll : IsToll toll
  pub one : IsBinary Sub (Place 1) (Number (pos 1)) (place 34 33) first
  pub two : IsBinary Sub first toll (place 34 38) second
  pub is : IsBinary Sub second (Place 4) (place 34 78) t

-- if (h > 0) then such a number else b
pub record IsBattery (t : Term) : Type 0 where
  pub flies : Term
  pub drained : Term
  pub tests : IsBinary Greater (Place 0) (Number (pos 0)) (place 34 18) flies
  pub drains : IsDrain drained
  pub is : IsChoice flies drained (Place 1) (place 34 12) t

-- the plant
pub record IsCell (plant : PlantInfo) : Type 0 where
  pub name : plant.name ≡ cell_name
  pub states : plant.states.items ≡ record { name = 104 ∷ []; scale = 0 } ∷ record
      { name = 98 ∷ []; scale = 0 } ∷ []
  pub inputs : plant.inputs.items ≡ 1 ∷ []
  pub sees : plant.sees.items ≡ 0 ∷ []
  pub noise : plant.noise.items ≡ record { name = 119 ∷ []; scale = 0; lo = pos 0; hi = pos 1 } ∷ []
  pub height : Term
  pub battery : Term
  pub is_height : IsHeight height
  pub is_battery : IsBattery battery
  pub next : plant.next.items ≡ height ∷ battery ∷ []

-- the advanced node
pub record IsUp (node : NodeInfo) : Type 0 where
  pub name : node.name ≡ up_name
  pub period : node.period ≡ 2
  pub offset : node.offset ≡ 0
  pub reads : node.reads.items ≡ State 1 0 ∷ State 1 1 ∷ []
  pub writes : node.writes.items ≡ 1 ∷ []
  pub locals : node.locals.items ≡ []
  pub body : node.body ≡ None

-- publish d = -1
abbrev pub IsDescent : List Act → Type 0
IsDescent acts = acts ≡ Publish 0 (Number (negsuc 0)) (place 44 13) ∷ []

-- the safe node
pub record IsDown (node : NodeInfo) : Type 0 where
  pub name : node.name ≡ down_name
  pub period : node.period ≡ 1
  pub offset : node.offset ≡ 0
  pub reads : node.reads.items ≡ State 1 0 ∷ State 1 1 ∷ []
  pub writes : node.writes.items ≡ 1 ∷ []
  pub locals : node.locals.items ≡ []
  pub body : (acts : List Act) × IsCoded node acts × IsDescent acts

-- at height h the battery is at least 3h
abbrev pub stair : ℕ → List Side
stair h = side (pos h) (pos h) ∷ side (pos (3 * h)) (pos 1000) ∷ []

-- the boxes of the heights below h
abbrev pub stairs : ℕ → List (List Side)
stairs zero = []
stairs (suc h) = stairs h ++ (stair h ∷ [])

-- the module, trusted from this battery on
abbrev pub fly : ℤ → ModuleInfo
fly low = record {
  name = fly_name;
  ac = 2;
  sc = 3;
  period = 2;
  offset = 0;
  plant = 1;
  safe = record { width = 2; boxes = stairs 11; settled = false };
  safer =
      record {
        width = 2;
        boxes = (side (pos 0) (pos 10) ∷ side low (pos 1000) ∷ []) ∷ [];
        settled = false;
      };
}

-- the tables, with such a low end of the battery in the safer region
pub record IsPair (low : ℤ) (p : Tables) : Type 0 where
  pub topics : p.topics ≡ one_topic cmd_name 0 ∷ one_topic (100 ∷ []) 1 ∷ []
  pub scalars : p.scalars ≡ whole_number 0 (negsuc 1) (pos 2) ∷ whole_number 1 (negsuc 0) (pos 1) ∷
      []
  pub vehicle : PlantInfo
  pub cell : PlantInfo
  pub is_pos : IsPos IsMove vehicle
  pub is_cell : IsCell cell
  pub plants : p.plants ≡ vehicle ∷ cell ∷ []
  pub fast : NodeInfo
  pub slow : NodeInfo
  pub up : NodeInfo
  pub down : NodeInfo
  pub is_fast : IsFast fast
  pub is_slow : IsSlow slow
  pub is_up : IsUp up
  pub is_down : IsDown down
  pub nodes : p.nodes ≡ fast ∷ slow ∷ up ∷ down ∷ []
  pub modules : p.modules ≡ nav ∷ fly low ∷ []
