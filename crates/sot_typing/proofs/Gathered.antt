-- Tables that are gathered declaration by declaration.
use Rattle.std.proofs.Common.{◌≡◌, ◌∙◌, ℕ, ◌<◌, List, [], ◌∷◌, length, get_or, map, sym, ap, subst}
use Rattle.std.specs.Prelude.{flat_map, filter_map}
use Rattle.std.specs.List.{All, cons_option}
use Rattle.std.proofs.lemmas.List.{get_or-map, length-map, append-nil}
use Rattle.sot_syntax_tree.specs.declared.tree.Decl.{Decl}
use Rattle.sot_syntax_tree.specs.declared.tree.TopicDecl.{TopicDecl}
use Rattle.sot_syntax_tree.specs.declared.tree.Decl.TheVariants as decls
use Rattle.sot_syntax_tree.specs.TreeViews.{declaration_view, topic_view}
use Rattle.sot_syntax_tree.specs.Trees.{Program}
use Rattle.sot_lang.specs.Tables.{Tables}
use Rattle.sot_rules.specs.declared.names.index.Index.{Index}
use Rattle.sot_rules.specs.Indexes.{program_in}
use Rattle.sot_typing.specs.Resolved.{a_topic_of, topic_place, topics, plants, nodes, modules, topic_info, topic_scalars, plant_seen, plant_table, node_seen}
use Rattle.sot_typing.specs.Resolved.{node_table, module_info, tables_of, AreTables}
use Rattle.sot_typing.specs.Parts.{scalars_at}
use Rattle.sot_typing.specs.Fits.{DeclarationFits, AllFit}
use Rattle.sot_typing.proofs.FoundThing.{decl_at}

-- what holds of all that are seen holds of each as it is seen
pub all_mapped : {X Y : Type 0} (P : Y → Type 0) (f : X → Y) (xs : List X) → All P (map f xs) → All (λ x. P (f x)) xs
all_mapped P f xs h k d lt = subst P (get_or-map f xs k d (f d) lt) (h k (f d) (subst (λ n. k < n) (sym (length-map xs f)) lt))

-- the scalars of a declaration that is a topic
pub scalars_of : (p : Program) (d : Decl) (t : TopicDecl) (place : ℕ) → d ≡ decls.Topic t → place ≡ topic_place p t.name
    → scalars_at place (topic_view t) ≡ flat_map (topic_scalars p) (filter_map a_topic_of (declaration_view d ∷ []))
scalars_of p d t place is e =
    ap (λ n. scalars_at n (topic_view t)) e
    ∙ sym (append-nil (topic_scalars p (topic_view t)))
    ∙ ap (λ z. flat_map (topic_scalars p) (cons_option (a_topic_of (declaration_view z)) [])) (sym is)

-- a declaration of the program fits
pub fits_at : (x : Index) (k : ℕ) (d : Decl) → AllFit (program_in x) → k < length x.decls.now → d ≡ get_or x.decls.now k d
    → DeclarationFits (program_in x) (declaration_view d)
fits_at x k d all lt e = all k (declaration_view d) (decl_at x.decls.now k d lt e)

-- the five lists are those of the program
pub gathered : (p : Program) (t : Tables) → t.topics ≡ map (topic_info p) (topics p) → t.scalars ≡ flat_map (topic_scalars p) (topics p)
    → map plant_seen t.plants ≡ map (plant_table p) (plants p) → map node_seen t.nodes ≡ map (node_table p) (nodes p)
    → t.modules ≡ map (module_info p) (modules p) → AreTables p t
unfolding tables_of
gathered p t a b c d e = cc
