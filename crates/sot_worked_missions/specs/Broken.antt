-- The running example with one rule of tables broken, one way each.
use Rattle.std.specs.Prelude.{false, ◌^◌, pos, [], ◌∷◌}
use Rattle.std.proofs.Common.{refl}
use Rattle.std.specs.Global.{Global}
use Rattle.sot_box.specs.BoxList.{BoxList}
use Rattle.sot_lang.specs.declared.tables.Slot.TheVariants.{Scalar, State}
use Rattle.sot_lang.specs.declared.tables.ModuleInfo.{ModuleInfo}
use Rattle.sot_lang.specs.Tables.{Tables}
use Rattle.sot_lang.specs.Line.{line, cmd_number, pos_plant, fast, slow, nav, vec, side, pos_name}

module _ (g : Global) where
  -- its safe node reads the scalar that it writes
  abbrev pub reads_its_own : Tables
  reads_its_own =
      record (line g) {
        nodes = fast g ∷ record (slow g)
            { reads = vec g (Scalar 0 ∷ State 0 0 ∷ []) refl } ∷ [];
      }

  -- its module is named as its plant
  abbrev pub one_name_twice : Tables
  one_name_twice = record (line g) { modules = record (nav g) { name = pos_name } ∷ [] }

  -- its plant sees itself
  abbrev pub sees_itself : Tables
  sees_itself =
      record (line g) { plants = record (pos_plant g) { sees = vec g (0 ∷ []) refl } ∷ [] }

  -- its scalar has seven decimals
  abbrev pub seven_decimals : Tables
  seven_decimals = record (line g) { scalars = record (cmd_number g) { scale = 7 } ∷ [] }

  -- its scalar has 2^32 + 1 values
  abbrev pub one_value_too_many : Tables
  one_value_too_many =
      record (line g) { scalars = record (cmd_number g) { lo = pos 0; hi = pos (2 ^ 32) } ∷ [] }

  -- its advanced node has a period of 1,001
  abbrev pub long_period : Tables
  long_period = record (line g) { nodes = record (fast g) { period = 1001 } ∷ slow g ∷ [] }

  -- its safe region has a box of two sides
  abbrev pub box_of_two_sides : Tables
  box_of_two_sides =
      record (line g) {
        modules = record (nav g) {
          safe = record {
            width = 1;
            boxes = (side (pos 0) (pos 1) ∷ side (pos 0) (pos 1) ∷ []) ∷ [];
            settled = false;
          };
        } ∷ [];
      }

  -- its safe region has a box whose ends are exchanged
  abbrev pub turned_box : Tables
  turned_box =
      record (line g) {
        modules = record (nav g) {
          safe = record { width = 1; boxes = (side (pos 1) (pos 0) ∷ []) ∷ []; settled = false };
        } ∷
            [];
      }

  -- a module of its plant with this safe region
  abbrev pub module_with : BoxList → ModuleInfo
  module_with region = record (nav g) { safe = region }
