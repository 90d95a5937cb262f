-- What names mean does not tell the regions of modules.
use Rattle.std.proofs.Common.{◌≡◌, ◌||◌, Bool, true, false, cond, List, [], ◌∷◌, ◌++◌, map}
use Rattle.std.proofs.Common.{Option, Some, None, option_map, find, filter_map, refl, sym, ap, ap₂, ◌∙◌}
use Rattle.std.specs.List.{cons_option, list_any}
use Rattle.std.specs.Str.{bytes_eq}
use Rattle.sot_syntax_tree.specs.declared.tree.Ident.{Ident}
use Rattle.sot_syntax_tree.specs.Trees.{Plant, Node, Module, Declaration, a_topic, a_plant, a_node, a_module, Program}
use Rattle.sot_rules.specs.Names.{declared_name, meaning, topic_meant, plant_meant, either_meant, node_scope, state_scope, plant_scope, noise_thing}
use Rattle.sot_rules.specs.Names.{local_thing}
use Rattle.sot_rules.specs.Tests.{is_plant_of, has_module}
use Rattle.sot_regions_rewrite.specs.declared.modules.ModuleRegions.{ModuleRegions}
use Rattle.sot_regions_rewrite.specs.OtherRegions.{declaration_with, left_behind, declarations_with}
use Rattle.sot_law_regions_rewrite.specs.WithoutRegions.{bare_module, bare, without_regions, AreSameButForRegions}
use Rattle.sot_law_regions_rewrite.specs.Laws.{NothingElseChanges}

-- ---- nothing else changes

bare_same : (regions : List ModuleRegions) (d : Declaration) → bare d ≡ bare (declaration_with regions d)
bare_same [] d = refl
bare_same (r ∷ later) (a_topic t) = refl
bare_same (r ∷ later) (a_plant q) = refl
bare_same (r ∷ later) (a_node n) = refl
bare_same (r ∷ later) (a_module m) = refl

all_bare : (regions : List ModuleRegions) (ds : List Declaration) → map bare ds ≡ map bare (declarations_with regions ds)
all_bare regions [] = refl
all_bare regions (d ∷ ds) = ap₂ (λ x xs. x ∷ xs) (bare_same regions d) (all_bare (left_behind d regions) ds)

abbrev program_with : List Declaration → Program
program_with ds = record { decls = ds }

pub nothing_else : NothingElseChanges
nothing_else regions p = ap program_with (all_bare regions p.decls)

-- ---- lists of declarations

cond_bare : (b : Bool) (x y : Option Declaration) → cond b (option_map bare x) (option_map bare y) ≡ option_map bare (cond b x y)
cond_bare true x y = refl
cond_bare false x y = refl

find_bare : (f : Declaration → Bool) → ((d : Declaration) → f (bare d) ≡ f d) → (ds : List Declaration) → find f (map bare ds) ≡ option_map bare (find f ds)
find_bare f same [] = refl
find_bare f same (d ∷ ds) = ap₂ (λ a b. cond a (Some (bare d)) b) (same d) (find_bare f same ds) ∙ cond_bare (f d) (Some d) (find f ds)

pub filter_bare : {A : Type 0} (f : Declaration → Option A) → ((d : Declaration) → f (bare d) ≡ f d) → (ds : List Declaration)
    → filter_map f (map bare ds) ≡ filter_map f ds
filter_bare f same [] = refl
filter_bare f same (d ∷ ds) = ap₂ (λ a b. cons_option a b) (same d) (filter_bare f same ds)

any_bare : (f : Declaration → Bool) → ((d : Declaration) → f (bare d) ≡ f d) → (ds : List Declaration) → list_any f (map bare ds) ≡ list_any f ds
any_bare f same [] = refl
any_bare f same (d ∷ ds) = ap₂ (λ a b. a || b) (same d) (any_bare f same ds)

pub map_bare : {A : Type 0} (f : Declaration → A) → ((d : Declaration) → f (bare d) ≡ f d) → (ds : List Declaration) → map f (map bare ds) ≡ map f ds
map_bare f same [] = refl
map_bare f same (d ∷ ds) = ap₂ (λ x xs. x ∷ xs) (same d) (map_bare f same ds)

-- ---- what a name means

pub declared_bare : (d : Declaration) → declared_name (bare d) ≡ declared_name d
declared_bare (a_topic t) = refl
declared_bare (a_plant q) = refl
declared_bare (a_node n) = refl
declared_bare (a_module m) = refl

meaning_bare : (p : Program) (i : Ident) → meaning (without_regions p) i ≡ option_map bare (meaning p i)
meaning_bare p i = find_bare (λ d. bytes_eq i.name (declared_name d).name) (λ d. ap (λ (n : Ident). bytes_eq i.name n.name) (declared_bare d)) p.decls

-- what tells no regions of modules
abbrev pub TellsNoRegion : {A : Type 0} → (Option Declaration → A) → Type 0
TellsNoRegion f = (m : Module) → f (Some (a_module (bare_module m))) ≡ f (Some (a_module m))

found_bare : {A : Type 0} (f : Option Declaration → A) → TellsNoRegion f → (m : Option Declaration) → f (option_map bare m) ≡ f m
found_bare f tells None = refl
found_bare f tells (Some (a_topic t)) = refl
found_bare f tells (Some (a_plant q)) = refl
found_bare f tells (Some (a_node n)) = refl
found_bare f tells (Some (a_module m)) = tells m

meant_bare : {A : Type 0} (f : Option Declaration → A) → TellsNoRegion f → (p : Program) (i : Ident) → f (meaning (without_regions p) i) ≡ f (meaning p i)
meant_bare f tells p i = ap f (meaning_bare p i) ∙ found_bare f tells (meaning p i)

plant_of_bare : (i : Ident) (d : Declaration) → is_plant_of i (bare d) ≡ is_plant_of i d
plant_of_bare i (a_topic t) = refl
plant_of_bare i (a_plant q) = refl
plant_of_bare i (a_node n) = refl
plant_of_bare i (a_module m) = refl

module _ (p q : Program) (same : AreSameButForRegions p q) where
  -- what is told of a program without its regions is told of both
  pub by_bare : {A : Type 0} (f : Program → A) → ((x : Program) → f (without_regions x) ≡ f x) → f q ≡ f p
  by_bare f tells = sym (tells q) ∙ ap f (sym same) ∙ tells p

  pub told : {A : Type 0} (f : Option Declaration → A) → TellsNoRegion f → (i : Ident) → f (meaning q i) ≡ f (meaning p i)
  told f tells i = by_bare (λ x. f (meaning x i)) (λ x. meant_bare f tells x i)

  pub has_module_same : (i : Ident) → has_module q i ≡ has_module p i
  has_module_same i = by_bare (λ x. has_module x i) (λ x. any_bare (is_plant_of i) (plant_of_bare i) x.decls)

  -- the names that may be used
  pub node_scope_same : (n : Node) → node_scope q n ≡ node_scope p n
  node_scope_same n = λ j. record {
    read = filter_map (λ i. told either_meant (λ m. refl) i j) n.reads ++ map local_thing n.locals;
    local = map local_thing n.locals;
    written = filter_map (λ i. told topic_meant (λ m. refl) i j) n.writes;
  }

  pub plant_scope_same : (k : Plant) → plant_scope q k ≡ plant_scope p k
  plant_scope_same k = λ j.
      state_scope k ++ filter_map (λ i. told topic_meant (λ m. refl) i j) k.inputs ++ filter_map (λ i. told plant_meant (λ m. refl) i j) k.sees
      ++ map noise_thing k.noise
