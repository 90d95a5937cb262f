-- Worked programs that break no rule of typing. Each stands on one line.
use Rattle.std.specs.Prelude.{pos, negsuc, true, false, [], ◌∷◌, Some, None, codes}
use Rattle.sot_syntax_tree.specs.declared.operator.Op.TheVariants.{Add, Equal, Greater, Less}
use Rattle.sot_syntax_tree.specs.declared.operator.Func.TheVariants.{Min}
use Rattle.sot_syntax_tree.specs.declared.tree.Scalar.TheVariants.{Int, Fix, Bool as BoolScalar}
use Rattle.sot_syntax_tree.specs.declared.tree.Const.TheVariants.{Number, Truth}
use Rattle.sot_syntax_tree.specs.Trees.{number, named, binary, rest, denied, called, rescaled}
use Rattle.sot_syntax_tree.specs.Trees.{chosen, no_tree, one_more, assigned, published, branched}
use Rattle.sot_syntax_tree.specs.Trees.{repeated}
use Rattle.sot_syntax_tree.specs.Trees.{no_statement, statement, one, fields, one_value, values}
use Rattle.sot_syntax_tree.specs.Trees.{a_topic}
use Rattle.sot_syntax_tree.specs.Trees.{a_plant, a_node, a_module, Program}
use Rattle.sot_rules.specs.ExampleParts.{at, word, decimal, whole, range}

-- The running example.
--   topic cmd: int[-2..2] = 0; plant pos { state x: int; input cmd; noise w: int[-1..1]; next x =
--   (x + cmd) + w; } external fast period 4 offset 0 { reads pos; writes cmd; } node slow period 2
--   offset 0 { reads pos; writes cmd; do { publish cmd = if (pos.x > 10) then -2 else (if (pos.x <
--   -10) then 2 else 0); } } module nav { ac fast; sc slow; period 4 offset 0; plant pos; safe
--   [-40..40]; safer [-10..10]; }
abbrev pub the_line : Program
the_line = record {
  decls =
      a_topic (record {
        outside = false;
        name = (word 7 (codes "cmd"));
        shape =
            one (Int (range (whole 16 (negsuc 1)) (whole 20 (pos 2))));
        init =
            one_value (Number (whole 25 (pos 0)));
      })
      ∷ a_plant (record {
        name = (word 34 (codes "pos"));
        states =
            (record { name = (word 46 (codes "x")); scale = None } ∷ []);
        inputs =
            ((word 60 (codes "cmd")) ∷ []);
        sees =
            [];
        noise =
            (record {
              name = (word 71 (codes "w"));
              scalar =
                  (Int (range (whole 78 (negsuc 0)) (whole 82 (pos 1))));
            } ∷ []);
        next =
            (record {
              name = (word 91 (codes "x"));
              value =
                  (binary Add (binary Add (named (word 96 (codes "x")) None)
                  (named (word 100 (codes "cmd")) None) (at 98)) (named (word 107 (codes "w")) None)
                  (at 105));
            } ∷ []);
        end = (at 110);
      })
      ∷ a_node (record {
        name = (word 121 (codes "fast"));
        period = (whole 133 (pos 4));
        offset =
            (whole 142 (pos 0));
        reads =
            ((word 152 (codes "pos")) ∷ []);
        writes =
            ((word 164 (codes "cmd")) ∷ []);
        locals = [];
        body = None;
      })
      ∷ a_node (record {
        name = (word 176 (codes "slow"));
        period = (whole 188 (pos 2));
        offset =
            (whole 197 (pos 0));
        reads =
            ((word 207 (codes "pos")) ∷ []);
        writes =
            ((word 219 (codes "cmd")) ∷ []);
        locals =
            [];
        body =
            (Some (statement (published (word 237 (codes "cmd")) None
            (chosen (binary Greater (named (word 247 (codes "pos")) (Some (word 251 (codes "x"))))
            (number (whole 255 (pos 10))) (at 253)) (number (whole 264 (negsuc 1)))
            (chosen (binary Less (named (word 277 (codes "pos")) (Some (word 281 (codes "x"))))
            (number (whole 285 (negsuc 9))) (at 283)) (number (whole 295 (pos 2)))
            (number (whole 302 (pos 0))) (at 273)) (at 243))) no_statement));
      })
      ∷ a_module (record {
        name = (word 317 (codes "nav"));
        ac = (word 326 (codes "fast"));
        sc =
            (word 335 (codes "slow"));
        period =
            (whole 348 (pos 4));
        offset =
            (whole 357 (pos 0));
        plant =
            (word 366 (codes "pos"));
        safe =
            (record {
              sides = (range (whole 377 (negsuc 39)) (whole 382 (pos 40)) ∷ []);
              at =
                  (at 376);
            } ∷ []);
        safer = (record
            { sides = (range (whole 394 (negsuc 9)) (whole 399 (pos 10)) ∷ []); at = (at 393) }
            ∷ []);
      })
      ∷ [];
}

-- A mission with a record, a truth value, decimals, a loop and a seen plant.
--   environment topic wind: fix(1)[-0.5..0.5] = 0.0; topic r: {on: bool, v: int[0..9]} = {false,
--   3}; plant p { state x: fix(1); input r; noise w: fix(1)[-0.1..0.1]; next x = x + w; } plant q {
--   state y: int; sees p; next y = if p.x > 0.5 then min(y, 3) else y % 7; } external a period 2
--   offset 1 { reads q, p; writes r; } node b period 1 offset 0 { reads p, wind; writes r; local n:
--   int[0..9] = 1; do { repeat 3 { n := n; } if p.x > wind { publish r.on = not (n == 1); } else {
--   publish r.v = rescale(p.x, 0); } } } module m { ac a; sc b; period 2 offset 0; plant p; safe
--   [-1.0..1.0]; safer [0.0..0.5] | [0.5..0.5]; } module k { ac a; sc b; period 2 offset 0; plant
--   q; safe none; safer none; }
abbrev pub the_rest : Program
the_rest = record {
  decls =
      a_topic (record {
        outside = true;
        name = (word 19 (codes "wind"));
        shape =
            one (Fix (whole 29 (pos 1)) (range (decimal 32 (negsuc 4) 1) (decimal 38 (pos 5) 1)));
        init =
            one_value (Number (decimal 45 (pos 0) 1));
      })
      ∷ a_topic (record {
        outside = false;
        name = (word 56 (codes "r"));
        shape =
            fields (record { name = (word 60 (codes "on")); scalar = (BoolScalar (at 64)) } ∷
            record {
              name = (word 70 (codes "v"));
              scalar =
                  (Int (range (whole 77 (pos 0)) (whole 80 (pos 9))));
            } ∷ []);
        init = values ((Truth false (at 87)) ∷ (Number (whole 94 (pos 3))) ∷ []) (at 86);
      })
      ∷ a_plant (record {
        name = (word 104 (codes "p"));
        states =
            (record { name = (word 114 (codes "x")); scale = (Some (whole 121 (pos 1))) } ∷ []);
        inputs =
            ((word 131 (codes "r")) ∷ []);
        sees =
            [];
        noise =
            (record {
              name = (word 140 (codes "w"));
              scalar =
                  (Fix (whole 147 (pos 1)) (range (decimal 150 (negsuc 0) 1)
                  (decimal 156 (pos 1) 1)));
            } ∷
            []);
        next = (record {
          name = (word 167 (codes "x"));
          value =
              (binary Add (named (word 171 (codes "x")) None) (named (word 175 (codes "w")) None)
              (at 173));
        } ∷ []);
        end = (at 178);
      })
      ∷ a_plant (record {
        name = (word 186 (codes "q"));
        states =
            (record { name = (word 196 (codes "y")); scale = None } ∷ []);
        inputs =
            [];
        sees =
            ((word 209 (codes "p")) ∷ []);
        noise =
            [];
        next =
            (record {
              name = (word 217 (codes "y"));
              value =
                  (chosen (binary Greater (named (word 224 (codes "p"))
                  (Some (word 226 (codes "x"))))
                  (number (decimal 230 (pos 5) 1)) (at 228))
                  (called Min (one_more (named (word 243 (codes "y")) None)
                  (one_more (number (whole 246 (pos 3))) no_tree)) (at 239))
                  (rest (named (word 254 (codes "y")) None) (whole 258 (pos 7)) (at 256)) (at 221));
            } ∷ []);
        end = (at 261);
      })
      ∷ a_node (record {
        name = (word 272 (codes "a"));
        period = (whole 281 (pos 2));
        offset =
            (whole 290 (pos 1));
        reads =
            ((word 300 (codes "q")) ∷ (word 303 (codes "p")) ∷ []);
        writes =
            ((word 313 (codes "r")) ∷ []);
        locals = [];
        body = None;
      })
      ∷ a_node (record {
        name = (word 323 (codes "b"));
        period = (whole 332 (pos 1));
        offset =
            (whole 341 (pos 0));
        reads =
            ((word 351 (codes "p")) ∷ (word 354 (codes "wind")) ∷ []);
        writes =
            ((word 367 (codes "r")) ∷ []);
        locals =
            (record {
              name = (word 376 (codes "n"));
              scalar =
                  (Int (range (whole 383 (pos 0)) (whole 386 (pos 9))));
              init =
                  (Number (whole 391 (pos 1)));
            } ∷ []);
        body =
            (Some (statement (repeated (whole 406 (pos 3))
            (statement (assigned (word 410 (codes "n")) (named (word 415 (codes "n")) None))
            no_statement) (at 399)) (statement
            (branched (binary Greater (named (word 423 (codes "p")) (Some (word 425 (codes "x"))))
            (named (word 429 (codes "wind")) None) (at 427))
            (statement (published (word 444 (codes "r")) (Some (word 446 (codes "on")))
            (denied (binary Equal (named (word 456 (codes "n")) None) (number (whole 461 (pos 1)))
            (at 458)) (at 451))) no_statement)
            (statement (published (word 482 (codes "r")) (Some (word 484 (codes "v")))
            (rescaled (named (word 496 (codes "p")) (Some (word 498 (codes "x"))))
            (whole 501 (pos 0))
            (at 488))) no_statement) (at 420)) no_statement)));
      })
      ∷ a_module (record {
        name = (word 518 (codes "m"));
        ac = (word 525 (codes "a"));
        sc =
            (word 531 (codes "b"));
        period =
            (whole 541 (pos 2));
        offset =
            (whole 550 (pos 0));
        plant =
            (word 559 (codes "p"));
        safe =
            (record {
              sides = (range (decimal 568 (negsuc 9) 1) (decimal 574 (pos 10) 1) ∷ []);
              at =
                  (at 567);
            } ∷ []);
        safer = (record {
          sides = (range (decimal 587 (pos 0) 1) (decimal 592 (pos 5) 1) ∷ []);
          at = (at 586);
        } ∷
            record {
              sides = (range (decimal 600 (pos 5) 1) (decimal 605 (pos 5) 1) ∷ []);
              at = (at 599);
            } ∷ []);
      })
      ∷ a_module (record {
        name = (word 620 (codes "k"));
        ac = (word 627 (codes "a"));
        sc =
            (word 633 (codes "b"));
        period =
            (whole 643 (pos 2));
        offset =
            (whole 652 (pos 0));
        plant = (word 661 (codes "q"));
        safe = [];
        safer = [];
      })
      ∷ [];
}
