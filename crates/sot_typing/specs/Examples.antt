-- Worked programs and their tables. Each stands on one line; what they should give was computed by
-- another program.
use Rattle.std.specs.Prelude.{pos, negsuc, true, false, [], ◌∷◌, Some, None, codes}
use Rattle.sot_syntax_tree.specs.declared.operator.Op.TheVariants.{Add, And, Greater, Less, Mul}
use Rattle.sot_syntax_tree.specs.declared.operator.Op.TheVariants.{Sub}
use Rattle.sot_syntax_tree.specs.declared.operator.Func.TheVariants.{Min}
use Rattle.sot_syntax_tree.specs.declared.tree.Scalar.TheVariants.{Int, Fix, Bool as BoolScalar}
use Rattle.sot_syntax_tree.specs.declared.tree.Const.TheVariants.{Number, Truth}
use Rattle.sot_lang.specs.declared.tables.Slot.TheVariants.{Scalar as ScalarSlot, State}
use Rattle.sot_syntax_tree.specs.Trees.{number, named, binary, rest, negated, denied, called}
use Rattle.sot_syntax_tree.specs.Trees.{rescaled}
use Rattle.sot_syntax_tree.specs.Trees.{chosen, no_tree, one_more, assigned, published, branched}
use Rattle.sot_syntax_tree.specs.Trees.{repeated}
use Rattle.sot_syntax_tree.specs.Trees.{no_statement, statement, one, fields, one_value, values}
use Rattle.sot_syntax_tree.specs.Trees.{a_topic}
use Rattle.sot_syntax_tree.specs.Trees.{a_plant, a_node, a_module, Program}
use Rattle.sot_rules.specs.ExampleParts.{at, word, decimal, whole, range}
use Rattle.sot_typing.specs.Formulas as to
use Rattle.sot_typing.specs.Resolved.{ProgramTables}

-- the tables of `the_line` of `sot_rules`, a vehicle on a line with an advanced and a safe node
abbrev pub line_tables : ProgramTables
line_tables = record {
  topics =
      record { name = codes "cmd"; outside = false; first = 0; count = 1 }
      ∷ [];
  scalars =
      record {
        topic = 0;
        field = None;
        scale = 0;
        truth = false;
        lo = (negsuc 1);
        hi = (pos 2);
        init = (pos 0);
      }
      ∷ [];
  plants =
      record {
        name = codes "pos";
        states = (record { name = codes "x"; scale = 0 } ∷ []);
        inputs = (0 ∷ []);
        sees = [];
        noise = (record { name = codes "w"; scale = 0; lo = (negsuc 0); hi = (pos 1) } ∷ []);
        next =
            ((to.binary Add (to.binary Add (to.place 0) (to.place 1) (at 98)) (to.place 2) (at 105))
            ∷ []);
      }
      ∷ [];
  nodes =
      record {
        name = codes "fast";
        period = 4;
        offset = 0;
        reads = (State 0 0 ∷ []);
        writes = (0 ∷ []);
        locals = [];
        body = None;
      }
      ∷ record {
        name = codes "slow";
        period = 2;
        offset = 0;
        reads = (State 0 0 ∷ []);
        writes = (0 ∷ []);
        locals = [];
        body =
            Some (to.deed (to.published 0 (to.chosen
            (to.binary Greater (to.place 0) (to.number (pos 10)) (at 253)) (to.number (negsuc 1))
            (to.chosen (to.binary Less (to.place 0) (to.number (negsuc 9)) (at 283))
            (to.number (pos 2)) (to.number (pos 0)) (at 273)) (at 243)) (at 237)) to.no_deed);
      }
      ∷ [];
  modules =
      record {
        name = codes "nav";
        ac = 0;
        sc = 1;
        period = 4;
        offset = 0;
        plant = 0;
        safe =
            record {
              width = 1;
              boxes = ((record { lo = (negsuc 39); hi = (pos 40) } ∷ []) ∷ []);
              settled =
                  true;
            };
        safer = record {
          width = 1;
          boxes = ((record { lo = (negsuc 9); hi = (pos 10) } ∷ []) ∷ []);
          settled = true;
        };
      }
      ∷ [];
}

-- Records, scales, truth values, things that are used before they are declared, and every sort of
-- place.
--   module a { ac f; sc s; period 8 offset 3; plant p; safe [0.0..1.0, -3..4] | [2.5..2.5, 0..0];
--   safer none; } environment topic e: bool = true; topic r: {a: fix(1)[0.0..1.0], b: bool} = {0.5,
--   true}; plant p { state x: fix(1), y: int; input r, t; sees q; noise w: int[0..1]; next x = if
--   r.b then x + r.a else x; next y = min(y + t, q.z) - w; } topic t: int[0..9] = 3; node s period
--   2 offset 1 { reads p, e, q; writes r, t; local n: int[0..9] = 1; local m: fix(2)[-0.50..0.50] =
--   -0.25; do { if not e and (p.y > n) { n := (n + 1) % 10; } else { m := rescale(-p.x, 2); }
--   publish r.b = e; publish r.a = rescale(m, 1); repeat 2 { publish t = q.z * n; } } } plant q {
--   state z: int; next z = z; } external f period 4 offset 0 { reads q, p; writes r, t; } module b
--   { ac f; sc s; period 4 offset 0; plant q; safe [0..9]; safer [0..1]; }
abbrev pub many : Program
many = record {
  decls =
      a_module (record {
        name = (word 8 (codes "a"));
        ac = (word 15 (codes "f"));
        sc = (word 21 (codes "s"));
        period = (whole 31 (pos 8));
        offset = (whole 40 (pos 3));
        plant = (word 49 (codes "p"));
        safe =
            (record {
              sides = ((range (decimal 58 (pos 0) 1) (decimal 63 (pos 10) 1)) ∷
                  (range (whole 68 (negsuc 2)) (whole 72 (pos 4))) ∷ []);
              at = (at 57);
            } ∷ record {
              sides = ((range (decimal 78 (pos 25) 1) (decimal 83 (pos 25) 1)) ∷
                  (range (whole 88 (pos 0)) (whole 91 (pos 0))) ∷ []);
              at = (at 77);
            } ∷ []);
        safer = [];
      })
      ∷ a_topic (record {
        outside = true;
        name = (word 127 (codes "e"));
        shape = one (BoolScalar (at 130));
        init = one_value (Truth true (at 137));
      })
      ∷ a_topic (record {
        outside = false;
        name = (word 149 (codes "r"));
        shape =
            fields (record {
              name = (word 153 (codes "a"));
              scalar =
                  (Fix (whole 160 (pos 1)) (range (decimal 163 (pos 0) 1)
                  (decimal 168 (pos 10) 1)));
            } ∷
            record { name = (word 174 (codes "b")); scalar = (BoolScalar (at 177)) } ∷ []);
        init = values ((Number (decimal 186 (pos 5) 1)) ∷ (Truth true (at 191)) ∷ []) (at 185);
      })
      ∷ a_plant (record {
        name = (word 204 (codes "p"));
        states =
            (record { name = (word 214 (codes "x")); scale = (Some (whole 221 (pos 1))) } ∷ record
            { name = (word 225 (codes "y")); scale = None } ∷ []);
        inputs = ((word 239 (codes "r")) ∷ (word 242 (codes "t")) ∷ []);
        sees = ((word 250 (codes "q")) ∷ []);
        noise =
            (record {
              name = (word 259 (codes "w"));
              scalar = (Int (range (whole 266 (pos 0)) (whole 269 (pos 1))));
            } ∷ []);
        next =
            (record {
              name = (word 278 (codes "x"));
              value =
                  (chosen (named (word 285 (codes "r")) (Some (word 287 (codes "b"))))
                  (binary Add (named (word 294 (codes "x")) None)
                  (named (word 298 (codes "r")) (Some (word 300 (codes "a")))) (at 296))
                  (named (word 307 (codes "x")) None) (at 282));
            } ∷ record {
              name = (word 315 (codes "y"));
              value =
                  (binary Sub (called Min (one_more
                  (binary Add (named (word 323 (codes "y")) None)
                  (named (word 327 (codes "t")) None)
                  (at 325)) (one_more (named (word 330 (codes "q")) (Some (word 332 (codes "z"))))
                  no_tree)) (at 319)) (named (word 337 (codes "w")) None) (at 335));
            } ∷ []);
        end = (at 340);
      })
      ∷ a_topic (record {
        outside = false;
        name = (word 348 (codes "t"));
        shape =
            one (Int (range (whole 355 (pos 0)) (whole 358 (pos 9))));
        init =
            one_value (Number (whole 363 (pos 3)));
      })
      ∷ a_node (record {
        name = (word 371 (codes "s"));
        period = (whole 380 (pos 2));
        offset = (whole 389 (pos 1));
        reads = ((word 399 (codes "p")) ∷ (word 402 (codes "e")) ∷ (word 405 (codes "q")) ∷ []);
        writes = ((word 415 (codes "r")) ∷ (word 418 (codes "t")) ∷ []);
        locals =
            (record {
              name = (word 427 (codes "n"));
              scalar =
                  (Int (range (whole 434 (pos 0)) (whole 437 (pos 9))));
              init =
                  (Number (whole 442 (pos 1)));
            } ∷ record {
              name = (word 451 (codes "m"));
              scalar =
                  (Fix (whole 458 (pos 2)) (range (decimal 461 (negsuc 49) 2)
                  (decimal 468 (pos 50) 2)));
              init = (Number (decimal 476 (negsuc 24) 2));
            } ∷ []);
        body =
            Some (statement (branched (binary And
            (denied (named (word 495 (codes "e")) None) (at 491))
            (binary Greater (named (word 502 (codes "p")) (Some (word 504 (codes "y"))))
            (named (word 508 (codes "n")) None) (at 506)) (at 497))
            (statement (assigned (word 513 (codes "n"))
            (rest (binary Add (named (word 519 (codes "n")) None) (number (whole 523 (pos 1)))
            (at 521)) (whole 528 (pos 10)) (at 526))) no_statement)
            (statement (assigned (word 541 (codes "m"))
            (rescaled (negated (named (word 555 (codes "p")) (Some (word 557 (codes "x"))))
            (at 554)) (whole 560 (pos 2)) (at 546))) no_statement) (at 488))
            (statement (published (word 574 (codes "r")) (Some (word 576 (codes "b")))
            (named (word 580 (codes "e")) None))
            (statement (published (word 591 (codes "r")) (Some (word 593 (codes "a")))
            (rescaled (named (word 605 (codes "m")) None) (whole 608 (pos 1)) (at 597)))
            (statement (repeated (whole 619 (pos 2))
            (statement (published (word 631 (codes "t")) None
            (binary Mul (named (word 635 (codes "q")) (Some (word 637 (codes "z"))))
            (named (word 641 (codes "n")) None) (at 639))) no_statement) (at 612)) no_statement))));
      })
      ∷ a_plant (record {
        name = (word 656 (codes "q"));
        states = (record { name = (word 666 (codes "z")); scale = None } ∷ []);
        inputs = [];
        sees = [];
        noise = [];
        next =
            (record { name = (word 679 (codes "z")); value = (named (word 683 (codes "z")) None) } ∷
            []);
        end = (at 686);
      })
      ∷ a_node (record {
        name = (word 697 (codes "f"));
        period = (whole 706 (pos 4));
        offset = (whole 715 (pos 0));
        reads = ((word 725 (codes "q")) ∷ (word 728 (codes "p")) ∷ []);
        writes = ((word 738 (codes "r")) ∷ (word 741 (codes "t")) ∷ []);
        locals = [];
        body = None;
      })
      ∷ a_module (record {
        name = (word 753 (codes "b"));
        ac = (word 760 (codes "f"));
        sc = (word 766 (codes "s"));
        period = (whole 776 (pos 4));
        offset = (whole 785 (pos 0));
        plant = (word 794 (codes "q"));
        safe =
            (record {
              sides = ((range (whole 803 (pos 0)) (whole 806 (pos 9))) ∷ []);
              at = (at 802);
            } ∷ []);
        safer =
            (record {
              sides = ((range (whole 817 (pos 0)) (whole 820 (pos 1))) ∷ []);
              at = (at 816);
            } ∷ []);
      })
      ∷ [];
}

abbrev pub many_tables : ProgramTables
many_tables = record {
  topics =
      record { name = codes "e"; outside = true; first = 0; count = 1 }
      ∷ record { name = codes "r"; outside = false; first = 1; count = 2 }
      ∷ record { name = codes "t"; outside = false; first = 3; count = 1 }
      ∷ [];
  scalars =
      record {
        topic = 0;
        field = None;
        scale = 0;
        truth = true;
        lo = (pos 0);
        hi = (pos 1);
        init = (pos 1);
      }
      ∷ record {
        topic = 1;
        field = (Some (codes "a"));
        scale = 1;
        truth = false;
        lo = (pos 0);
        hi = (pos 10);
        init = (pos 5);
      }
      ∷ record {
        topic = 1;
        field = (Some (codes "b"));
        scale = 0;
        truth = true;
        lo = (pos 0);
        hi = (pos 1);
        init = (pos 1);
      }
      ∷ record {
        topic = 2;
        field = None;
        scale = 0;
        truth = false;
        lo = (pos 0);
        hi = (pos 9);
        init = (pos 3);
      }
      ∷ [];
  plants =
      record {
        name = codes "p";
        states =
            (record { name = codes "x"; scale = 1 } ∷ record { name = codes "y"; scale = 0 } ∷ []);
        inputs = (1 ∷ 2 ∷ 3 ∷ []);
        sees = (1 ∷ []);
        noise = (record { name = codes "w"; scale = 0; lo = (pos 0); hi = (pos 1) } ∷ []);
        next =
            ((to.chosen (to.place 3) (to.binary Add (to.place 0) (to.place 2) (at 296)) (to.place 0)
            (at 282)) ∷ (to.binary Sub (to.called Min
            (to.one_more (to.binary Add (to.place 1) (to.place 4) (at 325))
            (to.one_more (to.place 5) to.no_formula)) (at 319)) (to.place 6) (at 335)) ∷ []);
      }
      ∷ record {
        name = codes "q";
        states = (record { name = codes "z"; scale = 0 } ∷ []);
        inputs = [];
        sees = [];
        noise = [];
        next = ((to.place 0) ∷ []);
      }
      ∷ [];
  nodes =
      record {
        name = codes "s";
        period = 2;
        offset = 1;
        reads = (State 0 0 ∷ State 0 1 ∷ ScalarSlot 0 ∷ State 1 0 ∷ []);
        writes = (1 ∷ 2 ∷ 3 ∷ []);
        locals =
            (record {
              name = codes "n";
              scale = 0;
              truth = false;
              lo = (pos 0);
              hi = (pos 9);
              init =
                  (pos 1);
            } ∷ record {
              name = codes "m";
              scale = 2;
              truth = false;
              lo = (negsuc 49);
              hi = (pos 50);
              init = (negsuc 24);
            } ∷ []);
        body =
            Some (to.deed (to.branched (to.binary And (to.denied (to.place 2) (at 491))
            (to.binary Greater (to.place 1) (to.place 4) (at 506)) (at 497))
            (to.deed (to.assigned 0 (to.rest
            (to.binary Add (to.place 4) (to.number (pos 1)) (at 521)) (pos 10) (at 526)) (at 513))
            to.no_deed) (to.deed (to.assigned 1
            (to.rescaled (to.negated (to.place 0) (at 554)) 1 2 (at 546)) (at 541)) to.no_deed))
            (to.deed (to.published 1 (to.place 2) (at 574))
            (to.deed (to.published 0 (to.rescaled (to.place 5) 2 1 (at 597)) (at 591))
            (to.deed (to.repeated 2 (to.deed
            (to.published 2 (to.binary Mul (to.place 3) (to.place 4) (at 639)) (at 631))
            to.no_deed)) to.no_deed))));
      }
      ∷ record {
        name = codes "f";
        period = 4;
        offset = 0;
        reads = (State 1 0 ∷ State 0 0 ∷ State 0 1 ∷ []);
        writes = (1 ∷ 2 ∷ 3 ∷ []);
        locals = [];
        body = None;
      }
      ∷ [];
  modules =
      record {
        name = codes "a";
        ac = 1;
        sc = 0;
        period = 8;
        offset = 3;
        plant = 0;
        safe =
            record {
              width = 2;
              boxes = ((record { lo = (pos 0); hi = (pos 10) } ∷ record
                  { lo = (negsuc 2); hi = (pos 4) } ∷ []) ∷
                  (record { lo = (pos 25); hi = (pos 25) } ∷ record { lo = (pos 0); hi = (pos 0) }
                  ∷ []) ∷ []);
              settled = true;
            };
        safer = record { width = 2; boxes = []; settled = true };
      }
      ∷ record {
        name = codes "b";
        ac = 1;
        sc = 0;
        period = 4;
        offset = 0;
        plant = 1;
        safe =
            record {
              width = 1;
              boxes = ((record { lo = (pos 0); hi = (pos 9) } ∷ []) ∷ []);
              settled =
                  true;
            };
        safer = record {
          width = 1;
          boxes = ((record { lo = (pos 0); hi = (pos 1) } ∷ []) ∷ []);
          settled = true;
        };
      }
      ∷ [];
}
