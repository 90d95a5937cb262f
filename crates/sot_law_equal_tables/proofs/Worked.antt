-- What the worked tables of the running example look like.
use Rattle.std.proofs.Common.{◌≡◌, pos, negsuc, List, [], ◌∷◌, Some, map, refl, ap, ◌∙◌}
use Rattle.std.specs.Prelude.{option_map}
use Rattle.std.specs.Global.{Global}
use Rattle.sot_syntax_tree.specs.declared.operator.Op.TheVariants.{Add, Greater}
use Rattle.sot_lang.specs.declared.act.Act.{Act}
use Rattle.sot_lang.specs.declared.term.Term.{Term}
use Rattle.sot_lang.specs.declared.tables.PlantInfo.{PlantInfo}
use Rattle.sot_lang.specs.declared.tables.NodeInfo.{NodeInfo}
use Rattle.sot_lang.specs.Line.{next_x, slow_term, slow_acts, pos_plant, fast, slow}
use Rattle.sot_law_print_parse.specs.Unplaced.{nowhere}
use Rattle.sot_typing.specs.Formulas.{Formula, number, place, binary, chosen, published, no_deed, deed, formula_view, deeds_view}
use Rattle.sot_typing.specs.Resolved.{plant_seen, node_seen}
use Rattle.sot_law_equal_tables.specs.UnplacedTables.{unplaced_formula, unplaced_deeds, unplaced_plant_table, unplaced_node_table}
use Rattle.sot_worked_missions.specs.Line.{IsMove, IsReturn, IsCommand, IsPos, IsFast, IsSlow}
use Rattle.sot_law_equal_tables.specs.OneLine.{plain_module, WorkedTablesAreTheLine}

-- how an expression looks without places
abbrev looks : Term → Formula
looks t = unplaced_formula (formula_view t)

module _ (g : Global) where
  move_looks : (t : Term) → IsMove t → looks t ≡ looks (next_x g)
  move_looks t (sum, (p, q, is), (r, s, whole)) = ap looks whole ∙ ap (λ x. binary Add (looks x) (place 2) nowhere) is

  return_looks : (t : Term) → IsReturn t → looks t ≡ looks (slow_term g)
  return_looks t (above, below, rest, (p, q, is_above), (r, s, is_below), (a, b, c, is_rest), (d, e, f, whole)) =
      ap looks whole
      ∙ ap (λ x. chosen (looks x) (number (negsuc 1)) (looks rest) nowhere) is_above
      ∙ ap (λ x. chosen (binary Greater (place 0) (number (pos 10)) nowhere) (number (negsuc 1)) (looks x) nowhere) is_rest
      ∙ ap (λ x. chosen (binary Greater (place 0) (number (pos 10)) nowhere) (number (negsuc 1)) (chosen (looks x) (number (pos 2)) (number (pos 0)) nowhere)
      nowhere) is_below

  command_looks : (acts : List Act) → IsCommand acts → unplaced_deeds (deeds_view acts) ≡ unplaced_deeds (deeds_view (slow_acts g))
  command_looks acts (t, returns, is) =
      ap (λ x. unplaced_deeds (deeds_view x)) is ∙ ap (λ x. deed (published 0 x nowhere) no_deed) (return_looks t returns)

  pos_looks : (plant : PlantInfo) → IsPos IsMove plant → unplaced_plant_table (plant_seen plant) ≡ unplaced_plant_table (plant_seen (pos_plant g))
  pos_looks plant is =
      let next = ap (map looks) is.next.2 ∙ ap (λ x. x ∷ []) (move_looks is.next.0 is.next.1) in
      λ i. record {
        name = is.name i;
        states = is.states i;
        inputs = is.inputs i;
        sees = is.sees i;
        noise = is.noise i;
        next = (seen_twice plant.next.items ∙ next) i;
      }
    where
      seen_twice : (ts : List Term) → map unplaced_formula (map formula_view ts) ≡ map looks ts
      seen_twice [] = refl
      seen_twice (t ∷ ts) = ap (λ l. looks t ∷ l) (seen_twice ts)

  fast_looks : (node : NodeInfo) → IsFast node → unplaced_node_table (node_seen node) ≡ unplaced_node_table (node_seen (fast g))
  fast_looks node is = λ i. record {
    name = is.name i;
    period = is.period i;
    offset = is.offset i;
    reads = is.reads i;
    writes = is.writes i;
    locals = is.locals i;
    body = option_map unplaced_deeds (option_map (λ v. deeds_view v.items) (is.body i));
  }

  slow_looks : (node : NodeInfo) → IsSlow node → unplaced_node_table (node_seen node) ≡ unplaced_node_table (node_seen (slow g))
  slow_looks node is =
      let body = is.body in
      let coded = body.1 in
      let looked = ap (option_map unplaced_deeds) (ap (option_map (λ v. deeds_view v.items)) coded.1)
      ∙ ap (λ acts. Some (unplaced_deeds (deeds_view acts))) coded.2
      ∙ ap Some (command_looks body.0 body.2)
      in
      λ i. record {
        name = is.name i;
        period = is.period i;
        offset = is.offset i;
        reads = is.reads i;
        writes = is.writes i;
        locals = is.locals i;
        body = looked i;
      }

pub worked_is : WorkedTablesAreTheLine
worked_is g p is =
    let plants = ap (map (λ x. unplaced_plant_table (plant_seen x))) is.plants.2 ∙ ap (λ x. x ∷ []) (pos_looks g is.plants.0 is.plants.1) in
    let (a, b, fast_is, slow_is, nodes_are) = is.nodes in
    let nodes = ap (map (λ x. unplaced_node_table (node_seen x))) nodes_are ∙ (λ i. fast_looks g a fast_is i ∷ slow_looks g b slow_is i ∷ []) in
    λ i. record {
      topics = is.topics i;
      scalars = is.scalars i;
      plants = (twice plant_seen unplaced_plant_table p.plants ∙ plants) i;
      nodes = (twice node_seen unplaced_node_table p.nodes ∙ nodes) i;
      modules = map plain_module (is.modules i);
    }
  where
    twice : {A B C : Type 0} (f : A → B) (h : B → C) (xs : List A) → map h (map f xs) ≡ map (λ x. h (f x)) xs
    twice f h [] = refl
    twice f h (x ∷ xs) = ap (λ l. h (f x) ∷ l) (twice f h xs)
