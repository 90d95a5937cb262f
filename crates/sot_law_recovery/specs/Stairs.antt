-- Stairs, for the worked facts of ranks: a hold leads one step down, and two holds lead to the
-- ground from everywhere. But for its tick it is the spring.
--   topic cmd: int[0..1] = 0;
--   plant pos { state x: int; input cmd;
--     next x = if (cmd > 0) then (x + 1) else (if (x > 1) then 1 else 0); }
--   external fast period 1 offset 0 { reads pos; writes cmd; }
--   node slow period 1 offset 0 { reads pos; writes cmd; do { publish cmd = 0; } }
--   module nav { ac fast; sc slow; period 1 offset 0; plant pos; safe [0..2]; safer [0..0]; }
use Rattle.std.specs.Prelude.{pos, false, Some, [], ◌∷◌}
use Rattle.std.proofs.Common.{refl}
use Rattle.std.specs.Global.{Global}
use Rattle.sot_syntax_tree.specs.declared.operator.Op.TheVariants.{Add, Greater}
use Rattle.sot_lang.specs.declared.term.Term.{Term}
use Rattle.sot_lang.specs.declared.term.Term.TheVariants.{Number, Place, Binary', If'}
use Rattle.sot_lang.specs.declared.tables.PlantInfo.{PlantInfo}
use Rattle.sot_lang.specs.declared.cert.Cells.{Cells}
use Rattle.sot_lang.specs.declared.cert.Cert.{Cert}
use Rattle.sot_lang.specs.Tables.{Tables}
use Rattle.sot_lang.specs.Line.{pos_plant, vec, boxed, somewhere, side}
use Rattle.sot_world.specs.Examples.{segments}
use Rattle.sot_law_runs.specs.Holds.{Guarded}
use Rattle.sot_law_runs.specs.Spring.{spring, spring_module, lets_go, let_go_acts}

module _ (g : Global) where
  -- if (x > 1) then 1 else 0
  abbrev pub one_down : Term
  one_down =
      If' (boxed g) (Binary' Greater (boxed g) (Place 0) (boxed g) (Number (pos 1)) somewhere)
      (boxed g) (Number (pos 1)) (boxed g) (Number (pos 0)) somewhere

  abbrev pub stairs_next : Term
  stairs_next =
      If' (boxed g) (Binary' Greater (boxed g) (Place 1) (boxed g) (Number (pos 0)) somewhere)
      (boxed g) (Binary' Add (boxed g) (Place 0) (boxed g) (Number (pos 1)) somewhere) (boxed g)
      one_down somewhere

  abbrev pub stairs_plant : PlantInfo
  stairs_plant =
      record (pos_plant g) { noise = vec g [] refl; next = vec g (stairs_next ∷ []) refl }

  abbrev pub stairs : Tables
  stairs = record (spring g) { plants = stairs_plant ∷ [] }

  -- its certificate: the closed cells [0..0], [1..1] and [2..2], and the reach cell [0..0]
  abbrev pub stairs_cells : Cells
  stairs_cells = record {
    closed =
        record {
          width = 1;
          boxes = (side (pos 0) (pos 0) ∷ []) ∷
              (side (pos 1) (pos 1) ∷ []) ∷ (side (pos 2) (pos 2) ∷ []) ∷ [];
          settled = false;
        };
    reach = segments g (pos 0) (pos 0);
  }

  abbrev pub stairs_cert : Cert
  stairs_cert = record { jitter = 0; modules = vec g (Some stairs_cells ∷ []) refl }

  abbrev pub stairs_parts : Guarded stairs stairs_cert 0
  stairs_parts = record {
    info = spring_module g;
    info_is = refl;
    plant = stairs_plant;
    plant_is = refl;
    sc = lets_go g;
    sc_is = refl;
    acts = let_go_acts g;
    coded = (_, refl, refl);
    cells = stairs_cells;
    cells_are = refl;
  }
