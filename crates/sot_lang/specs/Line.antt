-- The running example: a plant on a line, an advanced node `fast` that nobody trusts, and a safe
-- node `slow`.
--   topic cmd: int[-2..2] = 0;
--   plant pos { state x: int; input cmd; noise w: int[-1..1]; next x = (x + cmd) + w; }
--   external fast period 4 offset 0 { reads pos; writes cmd; }
--   node slow period 2 offset 0 { reads pos; writes cmd;
--     do { publish cmd = if (pos.x > 10) then -2 else (if (pos.x < -10) then 2 else 0); } }
--   module nav { ac fast; sc slow; period 4 offset 0; plant pos; safe [-40..40]; safer [-10..10]; }
use Rattle.std.specs.Prelude.{◌≡◌, ℕ, ℤ, pos, negsuc, true, false, ltb, Some, None, List, [], ◌∷◌}
use Rattle.std.specs.Prelude.{length, ◌^◌}
use Rattle.std.proofs.Common.{refl}
use Rattle.std.proofs.lemmas.Bool.{ltb-true}
use Rattle.std.proofs.Math.Nat.{le_refl}
use denote.RawPtr.{null_ptr}
use Rattle.std.specs.Global.{Vec, Box, Global}
use Rattle.sot_text.specs.declared.token.Span.{Span}
use Rattle.sot_box.specs.Sides.{Side}
use Rattle.sot_syntax_tree.specs.declared.operator.Op.TheVariants.{Add, Greater, Less}
use Rattle.sot_lang.specs.declared.term.Term.{Term}
use Rattle.sot_lang.specs.declared.term.Term.TheVariants.{Number, Place, Binary', If'}
use Rattle.sot_lang.specs.declared.act.Act.{Act}
use Rattle.sot_lang.specs.declared.act.Act.TheVariants.{Publish}
use Rattle.sot_lang.specs.declared.tables.Slot.TheVariants.{State}
use Rattle.sot_lang.specs.declared.tables.TopicInfo.{TopicInfo}
use Rattle.sot_lang.specs.declared.tables.ScalarInfo.{ScalarInfo}
use Rattle.sot_lang.specs.declared.tables.PlantInfo.{PlantInfo}
use Rattle.sot_lang.specs.declared.tables.NodeInfo.{NodeInfo}
use Rattle.sot_lang.specs.declared.tables.ModuleInfo.{ModuleInfo}
use Rattle.sot_lang.specs.declared.cert.Cells.{Cells}
use Rattle.sot_lang.specs.declared.cert.Cert.{Cert}
use Rattle.sot_lang.specs.Tables.{Tables}

-- a place in the text; the examples do not tell places apart
abbrev pub somewhere : Span
somewhere = record { line = 1; column = 1 }

-- the interval from lo to hi
abbrev pub side : ℤ → ℤ → Side
side lo hi = record { lo = lo; hi = hi }

-- the names, as bytes
abbrev pub cmd_name : List ℕ
cmd_name = 99 ∷ 109 ∷ 100 ∷ []

abbrev pub pos_name : List ℕ
pos_name = 112 ∷ 111 ∷ 115 ∷ []

abbrev pub fast_name : List ℕ
fast_name = 102 ∷ 97 ∷ 115 ∷ 116 ∷ []

abbrev pub slow_name : List ℕ
slow_name = 115 ∷ 108 ∷ 111 ∷ 119 ∷ []

abbrev pub nav_name : List ℕ
nav_name = 110 ∷ 97 ∷ 118 ∷ []

module _ (g : Global) where
  -- the vector of these items, and a box
  abbrev pub vec : {X : Type 0} (xs : List X) → ltb (length xs) (2 ^ 63) ≡ true → Vec X
  vec xs short =
      record {
        ptr = null_ptr;
        len = length xs;
        cap = length xs;
        alloc = g;
        items = xs;
        ok = (refl, le_refl (length xs));
        small = ltb-true (length xs) (2 ^ 63) short;
      }

  abbrev pub boxed : Box (Unit {0})
  boxed = record { ptr = null_ptr; alloc = g; value = tt }

  abbrev pub cmd : TopicInfo
  cmd = record { name = cmd_name; outside = false; first = 0; count = 1 }

  abbrev pub cmd_number : ScalarInfo
  cmd_number =
      record {
        topic = 0;
        field = None;
        scale = 0;
        truth = false;
        lo = negsuc 1;
        hi = pos 2;
        init = pos 0;
      }

  -- (x + cmd) + w
  abbrev pub next_x : Term
  next_x =
      Binary' Add boxed (Binary' Add boxed (Place 0) boxed (Place 1) somewhere) boxed (Place 2)
      somewhere

  abbrev pub pos_plant : PlantInfo
  pos_plant = record {
    name = pos_name;
    states = vec (record { name = 120 ∷ []; scale = 0 } ∷ []) refl;
    inputs = vec (0 ∷ []) refl;
    sees = vec [] refl;
    noise = vec (record { name = 119 ∷ []; scale = 0; lo = negsuc 0; hi = pos 1 } ∷ []) refl;
    next = vec (next_x ∷ []) refl;
  }

  abbrev pub fast : NodeInfo
  fast = record {
    name = fast_name;
    period = 4;
    offset = 0;
    reads = vec (State 0 0 ∷ []) refl;
    writes = vec (0 ∷ []) refl;
    locals = vec [] refl;
    body = None;
  }

  -- if x > 10 then -2 else (if x < -10 then 2 else 0)
  abbrev pub slow_term : Term
  slow_term =
      If' boxed (Binary' Greater boxed (Place 0) boxed (Number (pos 10)) somewhere) boxed
      (Number (negsuc 1)) boxed
      (If' boxed (Binary' Less boxed (Place 0) boxed (Number (negsuc 9)) somewhere) boxed
      (Number (pos 2)) boxed (Number (pos 0)) somewhere) somewhere

  abbrev pub slow_acts : List Act
  slow_acts = Publish 0 slow_term somewhere ∷ []

  abbrev pub slow : NodeInfo
  slow = record {
    name = slow_name;
    period = 2;
    offset = 0;
    reads = vec (State 0 0 ∷ []) refl;
    writes = vec (0 ∷ []) refl;
    locals = vec [] refl;
    body = Some (vec slow_acts refl);
  }

  abbrev pub nav : ModuleInfo
  nav = record {
    name = nav_name;
    ac = 0;
    sc = 1;
    period = 4;
    offset = 0;
    plant = 0;
    safe = record { width = 1; boxes = (side (negsuc 39) (pos 40) ∷ []) ∷ []; settled = false };
    safer = record { width = 1; boxes = (side (negsuc 9) (pos 10) ∷ []) ∷ []; settled = false };
  }

  -- the tables
  abbrev pub line : Tables
  line = record {
    topics = cmd ∷ [];
    scalars = cmd_number ∷ [];
    plants = pos_plant ∷ [];
    nodes = fast ∷ slow ∷ [];
    modules = nav ∷ [];
  }

  -- its certificate: closed cells [-40..-11], [-10..10], [11..40], and one reach cell [-10..10]
  abbrev pub line_cells : Cells
  line_cells = record {
    closed =
        record {
          width = 1;
          boxes = (side (negsuc 39) (negsuc 10) ∷ []) ∷
              (side (negsuc 9) (pos 10) ∷ []) ∷ (side (pos 11) (pos 40) ∷ []) ∷ [];
          settled = false;
        };
    reach = record { width = 1; boxes = (side (negsuc 9) (pos 10) ∷ []) ∷ []; settled = false };
  }

  abbrev pub line_cert : Cert
  line_cert = record { jitter = 0; modules = vec (Some line_cells ∷ []) refl }
