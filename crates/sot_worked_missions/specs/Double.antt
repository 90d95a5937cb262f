-- A double integrator, a place and a speed. Places are those of this text, whose first line is line
-- 1:
--   topic u: int[-2..2] = 0;
--   plant arm {
--     state x: int, v: int;
--     input u;
--     noise w: int[-1..1];
--     next x = x + v;
--     next v = (v + u) + w;
--   }
--   external fast period 2 offset 0 {
--     reads arm;
--     writes u;
--   }
--   node slow period 2 offset 0 {
--     reads arm;
--     writes u;
--     do {
--       publish u = clamp((if (arm.x > 0) then -2 else 2) - arm.v, -2, 2);
--     }
--   }
--   module nav {
--     ac fast; sc slow; period 2 offset 0; plant arm; safe [-195..300, -14..-14] | [-209..300,
--     -13..-13] | .. | [-300..300, 0..0] | .. | [-300..195, 14..14]; safer [-169..169, -2..2];
--   }
use Rattle.std.specs.Prelude.{false, ◌≡◌, ℕ, zero, suc, ◌+◌, ◌-◌, ltb, if◌then◌else◌, ℤ, pos}
use Rattle.std.specs.Prelude.{negsuc, ◌-ℤ◌, neg_ℤ, None, List, [], ◌∷◌, ◌++◌}
use Rattle.std.specs.Global.{Vec}
use Rattle.sot_box.specs.Sides.{Side}
use Rattle.sot_syntax_tree.specs.declared.operator.Op.TheVariants.{Add, Sub, Greater}
use Rattle.sot_syntax_tree.specs.declared.operator.Func.TheVariants.{Clamp}
use Rattle.sot_lang.specs.declared.term.Term.{Term, Call}
use Rattle.sot_lang.specs.declared.term.Term.TheVariants.{Number, Place}
use Rattle.sot_lang.specs.declared.act.Act.{Act}
use Rattle.sot_lang.specs.declared.act.Act.TheVariants.{Publish}
use Rattle.sot_lang.specs.declared.tables.Slot.TheVariants.{State}
use Rattle.sot_lang.specs.declared.tables.PlantInfo.{PlantInfo}
use Rattle.sot_lang.specs.declared.tables.NodeInfo.{NodeInfo}
use Rattle.sot_lang.specs.declared.tables.ModuleInfo.{ModuleInfo}
use Rattle.sot_lang.specs.Tables.{Tables}
use Rattle.sot_lang.specs.TableRules.{IsCoded}
use Rattle.sot_lang.specs.Line.{side, fast_name, slow_name, nav_name}
use Rattle.sot_worked_missions.specs.Parts.{place, one_topic, whole_number, IsBinary, IsChoice}

-- the names
abbrev pub u_name : List ℕ
u_name = 117 ∷ []

abbrev pub arm_name : List ℕ
arm_name = 97 ∷ 114 ∷ 109 ∷ []

-- where the arm is next: x + v
abbrev pub IsNextPlace : Term → Type 0
IsNextPlace t = IsBinary Add (Place 0) (Place 1) (place 6 14) t

-- how fast it is next: (v + u) + w
abbrev pub IsNextSpeed : Term → Type 0
IsNextSpeed t =
    (sum : Term) × IsBinary Add (Place 1) (Place 2) (place 7 15) sum
    × IsBinary Add sum (Place 3) (place 7 20) t

-- the plant
pub record IsArm (plant : PlantInfo) : Type 0 where
  pub name : plant.name ≡ arm_name
  pub states : plant.states.items ≡ record { name = 120 ∷ []; scale = 0 } ∷ record
      { name = 118 ∷ []; scale = 0 } ∷ []
  pub inputs : plant.inputs.items ≡ 0 ∷ []
  pub sees : plant.sees.items ≡ []
  pub noise : plant.noise.items ≡ record { name = 119 ∷ []; scale = 0; lo = negsuc 0; hi = pos 1 } ∷
      []
  pub «place» : Term
  pub speed : Term
  pub is_place : IsNextPlace «place»
  pub is_speed : IsNextSpeed speed
  pub next : plant.next.items ≡ «place» ∷ speed ∷ []

-- clamp((if (arm.x > 0) then -2 else 2) - arm.v, -2, 2), wherever its parts stand in memory
pub record IsPush (t : Term) : Type 0 where
  pub above : Term
  pub aim : Term
  pub gap : Term
  pub parts : Vec Term
  pub tests : IsBinary Greater (Place 0) (Number (pos 0)) (place 17 34) above
  pub aims : IsChoice above (Number (negsuc 1)) (Number (pos 2)) (place 17 24) aim
  pub gaps : IsBinary Sub aim (Place 1) (place 17 55) gap
  pub items : parts.items ≡ gap ∷ Number (negsuc 1) ∷ Number (pos 2) ∷ []
  pub is : t ≡ Call Clamp parts (place 17 17)

-- publish u = such a number
abbrev pub IsThrust : List Act → Type 0
IsThrust acts = (t : Term) × IsPush t × (acts ≡ Publish 0 t (place 17 13) ∷ [])

-- the advanced node, whose drafts come from outside
pub record IsPilot (node : NodeInfo) : Type 0 where
  pub name : node.name ≡ fast_name
  pub period : node.period ≡ 2
  pub offset : node.offset ≡ 0
  pub reads : node.reads.items ≡ State 0 0 ∷ State 0 1 ∷ []
  pub writes : node.writes.items ≡ 0 ∷ []
  pub locals : node.locals.items ≡ []
  pub body : node.body ≡ None

-- the safe node
pub record IsBrake (node : NodeInfo) : Type 0 where
  pub name : node.name ≡ slow_name
  pub period : node.period ≡ 2
  pub offset : node.offset ≡ 0
  pub reads : node.reads.items ≡ State 0 0 ∷ State 0 1 ∷ []
  pub writes : node.writes.items ≡ 0 ∷ []
  pub locals : node.locals.items ≡ []
  pub body : (acts : List Act) × IsCoded node acts × IsThrust acts

-- how far the arm still goes from a speed on, if it loses 1 a tick: 1 + 2 + .. + s
abbrev pub run : ℕ → ℕ
run zero = 0
run (suc s) = run s + suc s

-- the places at which it can still stop before -300, at the speed -s
abbrev pub falling : ℕ → List Side
falling s = side (pos (run s) -ℤ pos 300) (pos 300) ∷ side (neg_ℤ (pos s)) (neg_ℤ (pos s)) ∷ []

-- those at which it can still stop before 300, at the speed s
abbrev pub rising : ℕ → List Side
rising s = side (negsuc 299) (pos 300 -ℤ pos (run s)) ∷ side (pos s) (pos s) ∷ []

-- the box of the speed n - 14
abbrev pub row : ℕ → List Side
row n = if ltb n 14 then falling (14 - n) else rising (n - 14)

-- the boxes of the speeds from -14 on, so many
abbrev pub rows : ℕ → List (List Side)
rows zero = []
rows (suc n) = rows n ++ (row n ∷ [])

-- the module, trusted between these places at a speed of at most 2
abbrev pub stops : ℤ → ℤ → ModuleInfo
stops low high = record {
  name = nav_name;
  ac = 0;
  sc = 1;
  period = 2;
  offset = 0;
  plant = 0;
  safe = record { width = 2; boxes = rows 29; settled = false };
  safer =
      record {
        width = 2;
        boxes = (side low high ∷ side (negsuc 1) (pos 2) ∷ []) ∷ [];
        settled = false;
      };
}

-- the tables, with such places in the safer region
pub record IsDouble (low high : ℤ) (p : Tables) : Type 0 where
  pub topics : p.topics ≡ one_topic u_name 0 ∷ []
  pub scalars : p.scalars ≡ whole_number 0 (negsuc 1) (pos 2) ∷ []
  pub arm : PlantInfo
  pub is_arm : IsArm arm
  pub plants : p.plants ≡ arm ∷ []
  pub fast : NodeInfo
  pub slow : NodeInfo
  pub is_fast : IsPilot fast
  pub is_slow : IsBrake slow
  pub nodes : p.nodes ≡ fast ∷ slow ∷ []
  pub modules : p.modules ≡ stops low high ∷ []
