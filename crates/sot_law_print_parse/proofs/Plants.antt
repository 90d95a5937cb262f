-- Plants, and clauses of names.
use Rattle.std.proofs.Common.{ℕ, List, ◌∷◌, ◌++◌, codes, refl, ap₂}
use Rattle.sot_text.specs.Reading.{Lexeme}
use Rattle.sot_syntax_tree.specs.declared.tree.Ident.{Ident}
use Rattle.sot_syntax_tree.specs.declared.tree.Field.{Field}
use Rattle.sot_syntax_tree.specs.declared.tree.StateDecl.{StateDecl}
use Rattle.sot_syntax_tree.specs.Trees.{Next, Plant}
use Rattle.sot_parser.specs.Pieces.{each, maybe, spelled_clause, spelled_field}
use Rattle.sot_parser.specs.Declarations.{spelled_state, spelled_next, PlantForm, spelled_names, spelled_plant, plant_of, plant_levels}
use Rattle.sot_print.specs.declared.gap.Gap.{Gap}
use Rattle.sot_print.specs.declared.gap.Gap.TheVariants.{Space}
use Rattle.sot_print.specs.Words.{Word}
use Rattle.sot_print.specs.Leaves.{listed}
use Rattle.sot_print.specs.Canonical.{clause, closing, state_words, names_clause, noise_clause}
use Rattle.sot_print.specs.Canonical.{next_clause, plant_clauses, plant_words}
use Rattle.sot_print.specs.Canonical as canonical
use Rattle.sot_syntax_tree.specs.Formed as formed
use Rattle.sot_law_print_parse.specs.Unplaced.{nowhere, unplaced_plant}
use Rattle.sot_law_print_parse.proofs.Takes.{Takes, split, a_keyword, a_sign, a_name, led, onto}
use Rattle.sot_law_print_parse.proofs.Kept.{Production, Again, Kept, Keeps, also}
use Rattle.sot_law_print_parse.proofs.Leaves.{names, same_name, name_text, names_keep, typed_names, typed_names_keep}
use Rattle.sot_law_print_parse.proofs.Lists.{clauses, clauses_keep, optional, IsOptional, optional_keep, rows, rows_keep}
use Rattle.sot_law_print_parse.proofs.Clauses.{states, states_keep, nexts, nexts_keep}

-- clauses of names, and of noise
names_optional : (text : List ℕ) → IsOptional text names (names_clause text)
names_optional text = record { none = refl; some = λ x xs. refl }

pub names_clauses : (text : List ℕ) → Keeps (optional text names (names_clause text))
names_clauses text = optional_keep text names (names_clause text) (names_optional text) names_keep

noise_clauses : Keeps (optional (codes "noise") typed_names noise_clause)
noise_clauses = optional_keep (codes "noise") typed_names noise_clause (record { none = refl; some = λ x xs. refl }) typed_names_keep

-- plant
abbrev pub plants : Production Gap PlantForm Plant
plants = record { spelled = spelled_plant; tree = plant_of; unplaced = unplaced_plant; levels = plant_levels; Holds = formed.IsPlant; words = plant_words }

abbrev plant_with : Ident → List StateDecl → List Ident → List Ident → List Field → List Next → Plant
plant_with own states_ inputs sees noise next = record { name = own; states = states_; inputs = inputs; sees = sees; noise = noise; next = next; end = nowhere }

record KeptPlant (p : PlantForm) : Type 0 where
  states_kept : Kept (clauses (codes "state") states) p.states
  inputs_kept : Kept (optional (codes "input") names (names_clause (codes "input"))) p.inputs
  sees_kept : Kept (optional (codes "sees") names (names_clause (codes "sees"))) p.sees
  noise_kept : Kept (optional (codes "noise") typed_names noise_clause) p.noise
  next_kept : Kept (rows nexts) p.next

plant_again : (p : PlantForm) → KeptPlant p → (gap : Gap) (ts us : List Lexeme) → Takes ts (plant_words gap (plant_of p)) us → Again plants p ts us
plant_again p kept gap ts us h =
    let t : Plant = plant_of p in
    let of_states : List Word = clause (codes "state") (listed state_words Space t.states) in
    let of_inputs : List Word = names_clause (codes "input") t.inputs in
    let of_sees : List Word = names_clause (codes "sees") t.sees in
    let own = h.2 in
    let opening = own.2 in
    let outer = split (plant_clauses t ++ canonical.each next_clause t.next) closing opening.0 us opening.2 in
    let body = split (plant_clauses t) (canonical.each next_clause t.next) opening.0 outer.0 outer.1 in
    let one = split ((of_states ++ of_inputs) ++ of_sees) (noise_clause t.noise) opening.0 body.0 body.1 in
    let two = split (of_states ++ of_inputs) of_sees opening.0 one.0 one.1 in
    let three = split of_states of_inputs opening.0 two.0 two.1 in
    let a = kept.states_kept.again tt opening.0 three.0 three.1 in
    let b = kept.inputs_kept.again tt three.0 two.0 three.2 in
    let c = kept.sees_kept.again tt two.0 one.0 two.2 in
    let d = kept.noise_kept.again tt one.0 body.0 one.2 in
    let e = kept.next_kept.again tt body.0 outer.0 body.2 in
    let last = outer.2 in
    record {
      form = record {
        word = a_keyword h.1;
        name = a_name own.1;
        opening = a_sign opening.1;
        states = a.form;
        inputs = b.form;
        sees = c.form;
        noise = d.form;
        next = e.form;
        closing = a_sign last.1;
      };
      tokens =
          led h.1 (led own.1 (led opening.1 (
          onto (spelled_clause spelled_state a.form) a.tokens (onto (spelled_names b.form) b.tokens (onto (spelled_names c.form) c.tokens (
          onto (maybe (spelled_clause spelled_field) d.form) d.tokens (onto (each spelled_next e.form) e.tokens (led last.1 last.2))))))));
      same = also (also (also (also (ap₂ plant_with (same_name own.1.text) a.same) b.same) c.same) d.same) e.same;
      nests = e.nests;
    }

pub plants_keep : Keeps plants
plants_keep p more texts =
    let after_noise : List Lexeme = each spelled_next p.next (p.closing.token ∷ more) in
    let after_sees : List Lexeme = maybe (spelled_clause spelled_field) p.noise after_noise in
    let after_inputs : List Lexeme = spelled_names p.sees after_sees in
    let after_states : List Lexeme = spelled_names p.inputs after_inputs in
    let a = clauses_keep (codes "state") states states_keep p.states after_states texts.1.1.1 in
    let b = names_clauses (codes "input") p.inputs after_inputs a.1 in
    let c = names_clauses (codes "sees") p.sees after_sees b.1 in
    let d = noise_clauses p.noise after_noise c.1 in
    let e = rows_keep nexts nexts_keep p.next (p.closing.token ∷ more) d.1 in (
      record {
        holds =
            record {
              name = name_text p.name.token p.name.is texts.1.0;
              some = a.0.holds.0;
              states = a.0.holds.1;
              inputs = b.0.holds;
              sees = c.0.holds;
              noise = d.0.holds;
              next = e.0.holds;
            };
        again = plant_again p (record { states_kept = a.0; inputs_kept = b.0; sees_kept = c.0; noise_kept = d.0; next_kept = e.0 });
      },
      e.1.1,
    )
