-- Worked programs that break a rule of typing. Each stands on one line, and each place was read
-- off another program.
use Rattle.std.specs.Prelude.{pos, true, false, [], ◌∷◌, Some, None, codes}
use Rattle.sot_syntax_tree.specs.declared.operator.Op.TheVariants.{Equal}
use Rattle.sot_syntax_tree.specs.declared.tree.Scalar.TheVariants.{Int, Fix, Bool as BoolScalar}
use Rattle.sot_syntax_tree.specs.declared.tree.Const.TheVariants.{Number, Truth}
use Rattle.sot_syntax_tree.specs.Trees.{number, truth, named, binary}
use Rattle.sot_syntax_tree.specs.Trees.{chosen, published, repeated}
use Rattle.sot_syntax_tree.specs.Trees.{no_statement, statement, one, fields, one_value, values}
use Rattle.sot_syntax_tree.specs.Trees.{a_topic}
use Rattle.sot_syntax_tree.specs.Trees.{a_plant, a_node, a_module, Program}
use Rattle.sot_rules.specs.ExampleParts.{at, word, decimal, whole, range}

-- A name that is declared nowhere.
--   external n period 1 offset 0 { reads t; }
abbrev pub unknown_name : Program
unknown_name = record {
  decls =
      a_node (record {
        name = (word 10 (codes "n"));
        period = (whole 19 (pos 1));
        offset =
            (whole 28 (pos 0));
        reads =
            ((word 38 (codes "t")) ∷ []);
        writes = [];
        locals = [];
        body = None;
      })
      ∷ [];
}

-- A name that is declared again.
--   topic t: bool = true; plant t { state x: int; next x = x; }
abbrev pub second_name : Program
second_name = record {
  decls =
      a_topic (record {
        outside = false;
        name = (word 7 (codes "t"));
        shape = one (BoolScalar (at 10));
        init = one_value (Truth true (at 17));
      })
      ∷ a_plant (record {
        name = (word 29 (codes "t"));
        states =
            (record { name = (word 39 (codes "x")); scale = None } ∷ []);
        inputs =
            [];
        sees =
            [];
        noise =
            [];
        next =
            (record { name = (word 52 (codes "x")); value = (named (word 56 (codes "x")) None) } ∷
            []);
        end = (at 59);
      })
      ∷ [];
}

-- An end of a range of whole numbers with a decimal.
--   topic t: int[0..1.5] = 0;
abbrev pub other_scale : Program
other_scale = record {
  decls =
      a_topic (record {
        outside = false;
        name = (word 7 (codes "t"));
        shape =
            one (Int (range (whole 14 (pos 0)) (decimal 17 (pos 15) 1)));
        init =
            one_value (Number (whole 24 (pos 0)));
      })
      ∷ [];
}

-- A truth value for a number.
--   topic t: int[0..1] = true;
abbrev pub other_kind : Program
other_kind = record {
  decls =
      a_topic (record {
        outside = false;
        name = (word 7 (codes "t"));
        shape =
            one (Int (range (whole 14 (pos 0)) (whole 17 (pos 1))));
        init =
            one_value (Truth true (at 22));
      })
      ∷ [];
}

-- A lower end above the upper one.
--   topic t: int[1..0] = 0;
abbrev pub empty_range : Program
empty_range = record {
  decls =
      a_topic (record {
        outside = false;
        name = (word 7 (codes "t"));
        shape =
            one (Int (range (whole 14 (pos 1)) (whole 17 (pos 0))));
        init =
            one_value (Number (whole 22 (pos 0)));
      })
      ∷ [];
}

-- An initial value outside its range.
--   topic t: fix(1)[0.0..0.5] = 0.6;
abbrev pub outside_start : Program
outside_start = record {
  decls =
      a_topic (record {
        outside = false;
        name = (word 7 (codes "t"));
        shape =
            one (Fix (whole 14 (pos 1)) (range (decimal 17 (pos 0) 1) (decimal 22 (pos 5) 1)));
        init =
            one_value (Number (decimal 29 (pos 6) 1));
      })
      ∷ [];
}

-- A node that reads the topic that it writes.
--   topic t: bool = true; external n period 1 offset 0 { reads t; writes t; }
abbrev pub own_input : Program
own_input = record {
  decls =
      a_topic (record {
        outside = false;
        name = (word 7 (codes "t"));
        shape = one (BoolScalar (at 10));
        init = one_value (Truth true (at 17));
      })
      ∷ a_node (record {
        name = (word 32 (codes "n"));
        period = (whole 41 (pos 1));
        offset =
            (whole 50 (pos 0));
        reads =
            ((word 60 (codes "t")) ∷ []);
        writes =
            ((word 70 (codes "t")) ∷ []);
        locals = [];
        body = None;
      })
      ∷ [];
}

-- A record of nine fields.
--   topic t: {a: bool, b: bool, c: bool, d: bool, e: bool, f: bool, g: bool, h: bool, i: bool} =
--   {true, true, true, true, true, true, true, true, true};
abbrev pub nine_fields : Program
nine_fields = record {
  decls =
      a_topic (record {
        outside = false;
        name = (word 7 (codes "t"));
        shape =
            fields (record { name = (word 11 (codes "a")); scalar = (BoolScalar (at 14)) } ∷ record
            { name = (word 20 (codes "b")); scalar = (BoolScalar (at 23)) } ∷ record
            { name = (word 29 (codes "c")); scalar = (BoolScalar (at 32)) } ∷ record
            { name = (word 38 (codes "d")); scalar = (BoolScalar (at 41)) } ∷ record
            { name = (word 47 (codes "e")); scalar = (BoolScalar (at 50)) } ∷ record
            { name = (word 56 (codes "f")); scalar = (BoolScalar (at 59)) } ∷ record
            { name = (word 65 (codes "g")); scalar = (BoolScalar (at 68)) } ∷ record
            { name = (word 74 (codes "h")); scalar = (BoolScalar (at 77)) } ∷ record
            { name = (word 83 (codes "i")); scalar = (BoolScalar (at 86)) } ∷ []);
        init =
            values ((Truth true (at 95)) ∷ (Truth true (at 101)) ∷ (Truth true (at 107)) ∷
            (Truth true (at 113)) ∷ (Truth true (at 119)) ∷ (Truth true (at 125)) ∷
            (Truth true (at 131))
            ∷ (Truth true (at 137)) ∷ (Truth true (at 143)) ∷ []) (at 94);
      })
      ∷ [];
}

-- A range of 2^32 + 1 numbers.
--   topic t: int[0..4294967296] = 0;
abbrev pub wide_range : Program
wide_range = record {
  decls =
      a_topic (record {
        outside = false;
        name = (word 7 (codes "t"));
        shape =
            one (Int (range (whole 14 (pos 0)) (whole 17 (pos 4294967296))));
        init =
            one_value (Number (whole 31 (pos 0)));
      })
      ∷ [];
}

-- A plant of no module.
--   plant p { state x: int; next x = x; }
abbrev pub lone_plant : Program
lone_plant = record {
  decls =
      a_plant (record {
        name = (word 7 (codes "p"));
        states =
            (record { name = (word 17 (codes "x")); scale = None } ∷ []);
        inputs =
            [];
        sees =
            [];
        noise =
            [];
        next =
            (record { name = (word 30 (codes "x")); value = (named (word 34 (codes "x")) None) }
            ∷ []);
        end = (at 37);
      })
      ∷ [];
}

-- A period of 0.
--   external n period 0 offset 0 { }
abbrev pub no_period : Program
no_period = record {
  decls =
      a_node (record {
        name = (word 10 (codes "n"));
        period = (whole 19 (pos 0));
        offset = (whole 28 (pos 0));
        reads = [];
        writes = [];
        locals = [];
        body = None;
      })
      ∷ [];
}

-- A state variable without its `next` clause; the module's faults come later.
--   plant p { state x: int; } module m { ac a; sc b; period 1 offset 0; plant p; safe none; safer
--   none; }
abbrev pub no_next : Program
no_next = record {
  decls =
      a_plant (record {
        name = (word 7 (codes "p"));
        states =
            (record { name = (word 17 (codes "x")); scale = None } ∷ []);
        inputs =
            [];
        sees = [];
        noise = [];
        next = [];
        end = (at 25);
      })
      ∷ a_module (record {
        name = (word 34 (codes "m"));
        ac = (word 41 (codes "a"));
        sc =
            (word 47 (codes "b"));
        period =
            (whole 57 (pos 1));
        offset =
            (whole 66 (pos 0));
        plant = (word 75 (codes "p"));
        safe = [];
        safer = [];
      })
      ∷ [];
}

-- `next` clauses in another order than the state variables.
--   plant p { state x: int, y: int; next y = y; next x = x; } module m { ac a; sc b; period 1
--   offset 0; plant p; safe none; safer none; }
abbrev pub swapped_next : Program
swapped_next = record {
  decls =
      a_plant (record {
        name = (word 7 (codes "p"));
        states =
            (record { name = (word 17 (codes "x")); scale = None } ∷ record
            { name = (word 25 (codes "y")); scale = None } ∷ []);
        inputs = [];
        sees = [];
        noise = [];
        next =
            (record { name = (word 38 (codes "y")); value = (named (word 42 (codes "y")) None) } ∷
            record
            { name = (word 50 (codes "x")); value = (named (word 54 (codes "x")) None) } ∷ []);
        end = (at 57);
      })
      ∷ a_module (record {
        name = (word 66 (codes "m"));
        ac = (word 73 (codes "a"));
        sc =
            (word 79 (codes "b"));
        period =
            (whole 89 (pos 1));
        offset =
            (whole 98 (pos 0));
        plant = (word 107 (codes "p"));
        safe = [];
        safer = [];
      })
      ∷ [];
}

-- An `if` with a number as its condition, whose branches differ in scale: two rules fail at one
-- token.
--   topic t: int[0..1] = 0; node n period 1 offset 0 { writes t; do { publish t = if 1 then 1 else
--   1.5; } }
abbrev pub two_at_one : Program
two_at_one = record {
  decls =
      a_topic (record {
        outside = false;
        name = (word 7 (codes "t"));
        shape =
            one (Int (range (whole 14 (pos 0)) (whole 17 (pos 1))));
        init =
            one_value (Number (whole 22 (pos 0)));
      })
      ∷ a_node (record {
        name = (word 30 (codes "n"));
        period = (whole 39 (pos 1));
        offset =
            (whole 48 (pos 0));
        reads =
            [];
        writes =
            ((word 59 (codes "t")) ∷ []);
        locals =
            [];
        body =
            (Some (statement (published (word 75 (codes "t")) None
            (chosen (number (whole 82 (pos 1))) (number (whole 89 (pos 1)))
            (number (decimal 96 (pos 15) 1)) (at 79))) no_statement));
      })
      ∷ [];
}

-- Two rules fail at two places, and the earlier one has the greater number.
--   topic t: int[1..0] = true;
abbrev pub two_places : Program
two_places = record {
  decls =
      a_topic (record {
        outside = false;
        name = (word 7 (codes "t"));
        shape =
            one (Int (range (whole 14 (pos 1)) (whole 17 (pos 0))));
        init =
            one_value (Truth true (at 22));
      })
      ∷ [];
}

-- A comparison of two truth values.
--   topic t: bool = true; node n period 1 offset 0 { writes t; do { publish t = true == false; } }
abbrev pub two_truths : Program
two_truths = record {
  decls =
      a_topic (record {
        outside = false;
        name = (word 7 (codes "t"));
        shape = one (BoolScalar (at 10));
        init = one_value (Truth true (at 17));
      })
      ∷ a_node (record {
        name = (word 28 (codes "n"));
        period = (whole 37 (pos 1));
        offset =
            (whole 46 (pos 0));
        reads =
            [];
        writes =
            ((word 57 (codes "t")) ∷ []);
        locals =
            [];
        body =
            (Some (statement (published (word 73 (codes "t")) None
            (binary Equal (truth true (at 77)) (truth false (at 85)) (at 82))) no_statement));
      })
      ∷ [];
}

-- A record that is named without a field.
--   topic r: {a: bool, b: bool} = {true, false}; node n period 1 offset 0 { writes r; do { publish
--   r = true; } }
abbrev pub bare_record : Program
bare_record = record {
  decls =
      a_topic (record {
        outside = false;
        name = (word 7 (codes "r"));
        shape =
            fields (record { name = (word 11 (codes "a")); scalar = (BoolScalar (at 14)) } ∷ record
            { name = (word 20 (codes "b")); scalar = (BoolScalar (at 23)) } ∷ []);
        init = values ((Truth true (at 32)) ∷ (Truth false (at 38)) ∷ []) (at 31);
      })
      ∷ a_node (record {
        name = (word 51 (codes "n"));
        period = (whole 60 (pos 1));
        offset =
            (whole 69 (pos 0));
        reads =
            [];
        writes =
            ((word 80 (codes "r")) ∷ []);
        locals =
            [];
        body =
            (Some (statement (published (word 96 (codes "r")) None (truth true (at 100)))
            no_statement));
      })
      ∷ [];
}

-- A local that has the name of a topic that the node reads.
--   topic t: bool = true; node n period 1 offset 0 { reads t; local t: bool = true; do { } }
abbrev pub hidden_topic : Program
hidden_topic = record {
  decls =
      a_topic (record {
        outside = false;
        name = (word 7 (codes "t"));
        shape = one (BoolScalar (at 10));
        init = one_value (Truth true (at 17));
      })
      ∷ a_node (record {
        name = (word 28 (codes "n"));
        period = (whole 37 (pos 1));
        offset =
            (whole 46 (pos 0));
        reads =
            ((word 56 (codes "t")) ∷ []);
        writes =
            [];
        locals =
            (record {
              name = (word 65 (codes "t"));
              scalar = (BoolScalar (at 68));
              init = (Truth true (at 75));
            } ∷ []);
        body = (Some no_statement);
      })
      ∷ [];
}

-- A plant that sees itself, and has a state variable of that name.
--   plant p { state p: int; sees p; next p = p; } module m { ac a; sc b; period 1 offset 0; plant
--   p; safe none; safer none; }
abbrev pub own_name_seen : Program
own_name_seen = record {
  decls =
      a_plant (record {
        name = (word 7 (codes "p"));
        states =
            (record { name = (word 17 (codes "p")); scale = None } ∷ []);
        inputs =
            [];
        sees =
            ((word 30 (codes "p")) ∷ []);
        noise =
            [];
        next =
            (record { name = (word 38 (codes "p")); value = (named (word 42 (codes "p")) None) }
            ∷ []);
        end = (at 45);
      })
      ∷ a_module (record {
        name = (word 54 (codes "m"));
        ac = (word 61 (codes "a"));
        sc =
            (word 67 (codes "b"));
        period =
            (whole 77 (pos 1));
        offset =
            (whole 86 (pos 0));
        plant = (word 95 (codes "p"));
        safe = [];
        safer = [];
      })
      ∷ [];
}

-- 10,001 statements where each loop is written out: the last one is past the limit.
--   topic t: bool = true; node n period 1 offset 0 { writes t; do { repeat 100 { repeat 99 {
--   publish t = true; } } } }
abbrev pub many_statements : Program
many_statements = record {
  decls =
      a_topic (record {
        outside = false;
        name = (word 7 (codes "t"));
        shape = one (BoolScalar (at 10));
        init = one_value (Truth true (at 17));
      })
      ∷ a_node (record {
        name = (word 28 (codes "n"));
        period = (whole 37 (pos 1));
        offset =
            (whole 46 (pos 0));
        reads =
            [];
        writes =
            ((word 57 (codes "t")) ∷ []);
        locals =
            [];
        body =
            (Some (statement (repeated (whole 72 (pos 100))
            (statement (repeated (whole 85 (pos 99))
            (statement (published (word 98 (codes "t")) None (truth true (at 102))) no_statement)
            (at 78)) no_statement) (at 65)) no_statement));
      })
      ∷ [];
}

-- An offset that is its period.
--   external n period 5 offset 5 { }
abbrev pub late_offset : Program
late_offset = record {
  decls =
      a_node (record {
        name = (word 10 (codes "n"));
        period = (whole 19 (pos 5));
        offset = (whole 28 (pos 5));
        reads = [];
        writes = [];
        locals = [];
        body = None;
      })
      ∷ [];
}

-- A box with more sides than the plant has state variables.
--   plant p { state x: int; next x = x; } external a period 1 offset 0 { } node b period 1 offset 0
--   { do { } } module m { ac a; sc b; period 1 offset 0; plant p; safe [0..1, 0..1]; safer none; }
abbrev pub wide_box : Program
wide_box = record {
  decls =
      a_plant (record {
        name = (word 7 (codes "p"));
        states =
            (record { name = (word 17 (codes "x")); scale = None } ∷ []);
        inputs =
            [];
        sees =
            [];
        noise =
            [];
        next =
            (record { name = (word 30 (codes "x")); value = (named (word 34 (codes "x")) None) }
            ∷ []);
        end = (at 37);
      })
      ∷ a_node (record {
        name = (word 48 (codes "a"));
        period = (whole 57 (pos 1));
        offset = (whole 66 (pos 0));
        reads = [];
        writes = [];
        locals = [];
        body = None;
      })
      ∷ a_node (record {
        name = (word 77 (codes "b"));
        period = (whole 86 (pos 1));
        offset =
            (whole 95 (pos 0));
        reads = [];
        writes = [];
        locals = [];
        body = (Some no_statement);
      })
      ∷ a_module (record {
        name = (word 115 (codes "m"));
        ac = (word 122 (codes "a"));
        sc =
            (word 128 (codes "b"));
        period =
            (whole 138 (pos 1));
        offset =
            (whole 147 (pos 0));
        plant =
            (word 156 (codes "p"));
        safe =
            (record {
              sides = (range (whole 165 (pos 0)) (whole 168 (pos 1)) ∷ range
                  (whole 171 (pos 0)) (whole 174 (pos 1)) ∷ []);
              at = (at 164);
            } ∷ []);
        safer = [];
      })
      ∷ [];
}
