-- Names of which no two are the same: as many keys as names, and none that repeats.
use Rattle.std.proofs.Common.{◌≡◌, ◌∙◌, ℕ, List, [], ◌∷◌, ◌++◌, length, map, find, Some, Bool, true, false, is_some, cond, if◌then◌else◌, ◌||◌, position, refl}
use Rattle.std.proofs.Common.{sym, ap, subst}
use Rattle.std.specs.List.{list_any, IsDistinct, AllByRecursion}
use Rattle.std.specs.Set.{distinct_count}
use Rattle.std.specs.Str.{bytes_eq}
use Rattle.std.specs.Map.{keys_of}
use Rattle.std.proofs.lemmas.List.{length-map}
use Rattle.std.proofs.lemmas.List.Folds.{list_any-append}
use Rattle.std.proofs.lemmas.Map.Made.{is_some-lookup, length-from_keys, IsDistinct-from_count}
use Rattle.std.proofs.lemmas.Cmp.{nat_list_eq_equiv}
use denote.Ref.{Bor}
use Rattle.indexmap.specs.IndexMap.{IndexMap}
use Rattle.sot_syntax_tree.specs.declared.tree.Ident.{Ident}
use Rattle.sot_syntax_tree.specs.Trees.{Declaration}
use Rattle.sot_rules.specs.declared.fault.TypeKind.TheVariants.{Twice}
use Rattle.sot_rules.specs.Names.{declared_name}
use Rattle.sot_names.specs.SeenNames.{seen_names}
use Rattle.sot_rules.specs.Faults.{when, repeats}
use Rattle.sot_names.specs.NameTables.{found}
use Rattle.sot_rules.specs.Indexes.{is_named}
use Rattle.sot_rules.proofs.Mapped.{map_twice}
use Rattle.sot_rules.proofs.NameTables.{known, or_false}
use Rattle.sot_names.proofs.SeenNames.{any_seen}

-- keys of which no two are equal have names of which no two are
apart_names : (k : Bor (List ℕ)) (ks : List (Bor (List ℕ))) → AllByRecursion (λ (y : Bor (List ℕ)). bytes_eq k.now y.now ≡ false) ks
    → AllByRecursion (λ n. bytes_eq k.now n ≡ false) (seen_names ks)
apart_names k [] a = tt
apart_names k (x ∷ ks) a = (a.0, apart_names k ks a.1)

distinct_names : (ks : List (Bor (List ℕ))) → IsDistinct (λ (a b : Bor (List ℕ)). bytes_eq a.now b.now) ks → IsDistinct bytes_eq (seen_names ks)
unfolding IsDistinct
distinct_names [] d = tt
distinct_names (k ∷ ks) d = (apart_names k ks d.0, distinct_names ks d.1)

-- whether something is found, and whether it is there
any_found : (q : List ℕ) (ds : List Declaration) → is_some (find (is_named q) ds) ≡ list_any (bytes_eq q) (map (λ (d : Declaration). (declared_name d).name) ds)
any_found q [] = refl
any_found q (d ∷ ds) = by (bytes_eq q (declared_name d).name) (any_found q ds)
  where
    by : (b : Bool) → is_some (find (is_named q) ds) ≡ list_any (bytes_eq q) (map (λ (d : Declaration). (declared_name d).name) ds)
        → is_some (cond b (Some d) (find (is_named q) ds)) ≡ (b || list_any (bytes_eq q) (map (λ (d : Declaration). (declared_name d).name) ds))
    by true h = refl
    by false h = h

-- a table with as many entries as there are declarations has a name for each of them
pub names_distinct : {S : Type 0} (m : IndexMap (Bor (List ℕ)) ℕ S) (ds : List Declaration)
    → IsDistinct (λ (a b : Bor (List ℕ)). bytes_eq a.now b.now) (keys_of m.entries) → ((n : List ℕ) → found m n ≡ position (is_named n) ds)
    → length m.entries ≡ length ds → IsDistinct bytes_eq (map (λ (d : Declaration). (declared_name d).name) ds)
names_distinct m ds unique held counted =
    let names = map (λ (d : Declaration). (declared_name d).name) ds in
    let keys = keys_of m.entries in
    let alike : (q : List ℕ) → list_any (bytes_eq q) (seen_names keys) ≡ list_any (bytes_eq q) names = λ q.
    sym (any_seen q keys)
    ∙ sym (is_some-lookup (λ (k : Bor (List ℕ)). bytes_eq q k.now) m.entries)
    ∙ ap is_some (held q)
    ∙ known (is_named q) ds
    ∙ any_found q ds in
    let count : length (seen_names keys) ≡ distinct_count bytes_eq names =
    length-from_keys nat_list_eq_equiv (seen_names keys) names (distinct_names keys unique) alike in
    let long : length (seen_names keys) ≡ length names =
    length-map keys (λ (k : Bor (List ℕ)). k.now)
    ∙ length-map m.entries (λ (e : Bor (List ℕ) × ℕ). e.0)
    ∙ counted
    ∙ sym (length-map ds (λ (d : Declaration). (declared_name d).name)) in
    IsDistinct-from_count nat_list_eq_equiv names (sym count ∙ long)

-- a name that is apart from the others is not among them with one more
not_among : (a b : Bool) → a ≡ false → b ≡ false → (a || b) ≡ false
not_among false false x y = refl
not_among true b x y = x
not_among false true x y = y

still_new : (name : List ℕ) (seen ns : List (List ℕ)) → AllByRecursion (λ n. bytes_eq name n ≡ false) ns
    → AllByRecursion (λ n. list_any (bytes_eq n) seen ≡ false) ns → AllByRecursion (λ n. list_any (bytes_eq n) (seen ++ name ∷ []) ≡ false) ns
still_new name seen [] apart new = tt
still_new name seen (n ∷ ns) apart new = (
  list_any-append (bytes_eq n) seen (name ∷ [])
      ∙ or_false (list_any (bytes_eq n) seen) (bytes_eq n name)
      ∙ not_among (list_any (bytes_eq n) seen) (bytes_eq n name) new.0 (nat_list_eq_equiv.symm n name ∙ apart.0),
  still_new name seen ns apart.1 new.1,
)

none_repeat_after : (seen : List (List ℕ)) (is : List Ident) → IsDistinct bytes_eq (map (λ (i : Ident). i.name) is)
    → AllByRecursion (λ n. list_any (bytes_eq n) seen ≡ false) (map (λ (i : Ident). i.name) is) → repeats seen is ≡ []
unfolding IsDistinct
none_repeat_after seen [] distinct new = refl
none_repeat_after seen (i ∷ is) distinct new =
    ap (λ b. when b i.at Twice ++ repeats (if b then seen else seen ++ i.name ∷ []) is) new.0
    ∙ none_repeat_after (seen ++ i.name ∷ []) is distinct.1 (still_new i.name seen (map (λ (i : Ident). i.name) is) distinct.0 new.1)

all_new : (ns : List (List ℕ)) → AllByRecursion (λ n. list_any (bytes_eq n) [] ≡ false) ns
all_new [] = tt
all_new (n ∷ ns) = (refl, all_new ns)

-- declarations of which no two have the same name repeat none
pub none_repeat : (ds : List Declaration) → IsDistinct bytes_eq (map (λ (d : Declaration). (declared_name d).name) ds) → repeats [] (map declared_name ds) ≡ []
none_repeat ds distinct =
    none_repeat_after [] (map declared_name ds) (subst (IsDistinct bytes_eq) (map_twice (λ (i : Ident). i.name) declared_name ds) distinct)
    (all_new (map (λ (i : Ident). i.name) (map declared_name ds)))
