-- An index with one declaration more.
use Rattle.std.proofs.Common.{◌≡◌, ◌∙◌, ℕ, ◌<◌, List, [], ◌∷◌, ◌++◌, length, map, find, Option, Some, None, IfSome, Bool, ◌||◌, position, sym, ap, subst}
use Rattle.std.specs.Option.{option_or}
use Rattle.std.specs.List.{list_any, slice_get}
use Rattle.std.proofs.lemmas.List.{length-map, map-append}
use Rattle.std.proofs.lemmas.List.Folds.{list_any-append}
use denote.Ref.{Bor}
use Rattle.indexmap.specs.IndexMap.{IndexMap}
use Rattle.sot_syntax_tree.specs.declared.tree.Ident.{Ident}
use Rattle.sot_syntax_tree.specs.Trees.{Declaration}
use Rattle.sot_rules.specs.declared.names.scope.PartTable.{PartTable}
use Rattle.sot_rules.specs.Scopes.{parts_of}
use Rattle.sot_rules.specs.Names.{declared_name}
use Rattle.sot_rules.specs.Tests.{is_plant_of}
use Rattle.sot_names.specs.NameTables.{found, entry}
use Rattle.sot_rules.specs.Indexes.{is_named, is_key, declared_parts, sort_in}
use Rattle.sot_rules.proofs.NameTables.{or_false, placed, position_push}

pub places_more : {S : Type 0} (ds : List Declaration) (d : Declaration) (old new : IndexMap (Bor (List ℕ)) ℕ S) (key : List ℕ) (place : ℕ)
    → ((n : List ℕ) → found new n ≡ option_or (found old n) (entry key place n)) → ((n : List ℕ) → found old n ≡ position (is_named n) ds)
    → key ≡ (declared_name d).name → place ≡ length ds → (n : List ℕ) → found new n ≡ position (is_named n) (ds ++ d ∷ [])
places_more ds d old new key place add held named counted n =
    add n
    ∙ ap (λ o. option_or o (entry key place n)) (held n)
    ∙ ap (λ k. option_or (position (is_named n) ds) (entry k place n)) named
    ∙ ap (λ k. option_or (position (is_named n) ds) (entry (declared_name d).name k n)) counted
    ∙ sym (position_push (is_named n) ds d)

pub owned_more : (ds : List Declaration) (d : Declaration) (old new : List (Bor (List ℕ))) → ((i : Ident) → is_key new i ≡ (is_key old i || is_plant_of i d))
    → ((i : Ident) → is_key old i ≡ list_any (is_plant_of i) ds) → (i : Ident) → is_key new i ≡ list_any (is_plant_of i) (ds ++ d ∷ [])
owned_more ds d old new add held i =
    add i
    ∙ ap (λ b. b || is_plant_of i d) (held i)
    ∙ sym (list_any-append (is_plant_of i) ds (d ∷ []) ∙ or_false (list_any (is_plant_of i) ds) (is_plant_of i d))

pub counted : {X Y Z : Type 0} (f : X → Z) (g : Y → Z) (xs : List X) (ys : List Y) → map f xs ≡ map g ys → length xs ≡ length ys
counted f g xs ys e = sym (length-map xs f) ∙ ap length e ∙ length-map ys g

pub parts_more : (ds : List Declaration) (d : Declaration) (old new : List PartTable) (t : PartTable) → new ≡ old ++ t ∷ []
    → ((n : List ℕ) → sort_in (parts_of t) n ≡ sort_in (declared_parts d) n)
    → ((n : List ℕ) → map (λ t. sort_in (parts_of t) n) old ≡ map (λ d. sort_in (declared_parts d) n) ds) → (n : List ℕ)
    → map (λ t. sort_in (parts_of t) n) new ≡ map (λ d. sort_in (declared_parts d) n) (ds ++ d ∷ [])
parts_more ds d old new t push table held n =
    ap (map (λ t. sort_in (parts_of t) n)) push
    ∙ map-append (λ t. sort_in (parts_of t) n) old (t ∷ [])
    ∙ ap (λ os. os ++ sort_in (parts_of t) n ∷ []) (held n)
    ∙ ap (λ o. map (λ d. sort_in (declared_parts d) n) ds ++ o ∷ []) (table n)
    ∙ sym (map-append (λ d. sort_in (declared_parts d) n) ds (d ∷ []))

-- what stands at the first place of a name
pub meant : {X : Type 0} (test : X → Bool) (xs : List X) (r : Option ℕ) → r ≡ position test xs → IfSome r (λ k. slice_get xs k ≡ find test xs)
meant test xs None e = tt
meant test xs (Some k) e = (placed test xs k (sym e)).0

pub within : {X Y : Type 0} (f : X → Y) (test : Y → Bool) (xs : List X) (r : Option ℕ) → r ≡ position test (map f xs) → IfSome r (λ k. k < length xs)
within f test xs None e = tt
within f test xs (Some k) e = subst (λ n. k < n) (length-map xs f) (placed test (map f xs) k (sym e)).1
