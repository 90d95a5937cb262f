-- A program that is the same as one without faults has none.
use Rattle.std.proofs.Common.{◌≡◌, List, [], ◌∷◌, map, slice_get, Option, None, option_map, refl, sym, ap, ◌∙◌}
use Rattle.sot_syntax_tree.specs.declared.tree.Ident.{Ident}
use Rattle.sot_syntax_tree.specs.Trees.{Declaration, a_topic, a_plant, a_node, a_module, Program}
use Rattle.sot_rules.specs.declared.fault.TypeFault.{TypeFault}
use Rattle.sot_rules.specs.Names.{declared_name}
use Rattle.sot_rules.specs.Tests.{topic_name, plant_name, node_name, module_name, names_of}
use Rattle.sot_rules.specs.First.{IsFaultless}
use Rattle.sot_rules.specs.Faults.{declaration_faults, faults, least}
use Rattle.sot_rules.proofs.FirstFault.{listed, none_is}
use Rattle.sot_law_print_parse.specs.Unplaced.{unplaced_name, unplaced_declaration, without_places}
use Rattle.sot_law_equal_tables.specs.Places.{TypingKnowsNoPlace}
use Rattle.sot_law_equal_tables.proofs.Lists.{map_swap, filter_swap}
use Rattle.sot_law_equal_tables.proofs.Names.{declared_same}
use Rattle.sot_law_equal_tables.proofs.FaultLists.{unplaced_fault, AreBare, none, also, each, repeats_same, past_names}
use Rattle.sot_law_equal_tables.proofs.DeclarationFaults.{declaration_bare}

topic_name_is : (d : Declaration) → topic_name (unplaced_declaration d) ≡ option_map unplaced_name (topic_name d)
topic_name_is (a_topic t) = refl
topic_name_is (a_plant q) = refl
topic_name_is (a_node n) = refl
topic_name_is (a_module m) = refl

plant_name_is : (d : Declaration) → plant_name (unplaced_declaration d) ≡ option_map unplaced_name (plant_name d)
plant_name_is (a_topic t) = refl
plant_name_is (a_plant q) = refl
plant_name_is (a_node n) = refl
plant_name_is (a_module m) = refl

node_name_is : (d : Declaration) → node_name (unplaced_declaration d) ≡ option_map unplaced_name (node_name d)
node_name_is (a_topic t) = refl
node_name_is (a_plant q) = refl
node_name_is (a_node n) = refl
node_name_is (a_module m) = refl

module_name_is : (d : Declaration) → module_name (unplaced_declaration d) ≡ option_map unplaced_name (module_name d)
module_name_is (a_topic t) = refl
module_name_is (a_plant q) = refl
module_name_is (a_node n) = refl
module_name_is (a_module m) = refl

names_same : (name : Declaration → Option Ident) → ((d : Declaration) → name (unplaced_declaration d) ≡ option_map unplaced_name (name d)) → (p : Program)
    → names_of name (without_places p) ≡ map unplaced_name (names_of name p)
names_same name same p = filter_swap unplaced_declaration name unplaced_name name same p.decls

-- a program without places has the faults of the program, nowhere
program_bare : (p : Program) → AreBare (faults (without_places p)) (faults p)
unfolding faults
program_bare p =
    also (repeats_same _ (map declared_name p.decls) (map_swap unplaced_declaration declared_name unplaced_name declared_name declared_same p.decls))
    (also (past_names 512 _ (names_of topic_name p) (names_same topic_name topic_name_is p))
    (also (past_names 300 _ (names_of node_name p) (names_same node_name node_name_is p))
    (also (past_names 100 _ (names_of module_name p) (names_same module_name module_name_is p))
    (also (past_names 100 _ (names_of plant_name p) (names_same plant_name plant_name_is p))
    (also (each unplaced_declaration (declaration_faults (without_places p)) (declaration_faults p) (declaration_bare p) p.decls)
    none)))))

no_fault : (p : Program) (fs : List TypeFault) → faults p ≡ fs → IsFaultless p → fs ≡ []
no_fault p [] e faultless = refl
no_fault p (f ∷ more) e faultless = absurd (faultless f.at f.kind (listed p f (0, ap (λ xs. slice_get xs 0) e)))

nothing_bare : (fs : List TypeFault) → map unplaced_fault fs ≡ [] → fs ≡ []
nothing_bare [] e = refl
nothing_bare (f ∷ more) e = cc

pub faultless_same : TypingKnowsNoPlace
faultless_same p q same faultless =
    let none_of_p : map unplaced_fault (faults p) ≡ [] = ap (map unplaced_fault) (no_fault p (faults p) refl faultless) in
    let none_of_q : map unplaced_fault (faults q) ≡ [] = sym (program_bare q).same ∙ ap faults (sym same) ∙ (program_bare p).same ∙ none_of_p in
    none_is q (ap (least None) (nothing_bare (faults q) none_of_q))
