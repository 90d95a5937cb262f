-- Tables of names that stand for lists of things, one thing longer; and that such a table reads like its list.
use Rattle.std.proofs.Common.{◌≡◌, ◌∙◌, ℕ, zero, suc, ◌+◌, ◌<◌, ◌≤◌, List, [], ◌∷◌, ◌++◌, length, get_or, take, map, find, Option, Some, None, Bool, true}
use Rattle.std.proofs.Common.{false, cond, if◌then◌else◌, option_map, refl, sym, ap, subst}
use Rattle.std.specs.Option.{option_or, option_to_list}
use Rattle.std.specs.List.{filter_map, cons_option, slice_get}
use Rattle.std.specs.Str.{bytes_eq}
use Rattle.std.specs.Map.{lookup}
use Rattle.std.proofs.lemmas.List.{append_assoc, take_all, take_more}
use Rattle.std.proofs.lemmas.List.Elements.{filter_map-append}
use denote.Ref.{Bor}
use Rattle.sot_syntax_tree.specs.declared.tree.Ident.{Ident}
use Rattle.sot_syntax_tree.specs.Trees.{Form, one, fields, Declaration, a_topic, a_plant, a_node, a_module}
use Rattle.sot_rules.specs.declared.expressions.sort.Sort.{Sort}
use Rattle.sot_rules.specs.declared.names.scope.Kept.{Kept}
use Rattle.sot_rules.specs.declared.names.scope.Things.{Things}
use Rattle.sot_rules.specs.declared.names.scope.PartTable.{PartTable}
use Rattle.sot_rules.specs.declared.names.scope.Kept.TheVariants.{Alone}
use Rattle.sot_rules.specs.declared.names.gather.NameList.{NameList}
use Rattle.sot_rules.specs.declared.names.gather.NameList.TheVariants.{Topics, Plants, Both}
use Rattle.sot_rules.specs.Names.{field_part, form_parts, state_part, Part, Parts, alone, several, Thing, declared_name, part_reading, parts_reading}
use Rattle.sot_rules.specs.Names.{thing_reading}
use Rattle.sot_names.specs.NameTables.{entry}
use Rattle.sot_rules.specs.NameTables.{entries_in, found_in}
use Rattle.sot_rules.specs.declared.names.scope.Names.{Names}
use Rattle.sot_rules.specs.Scopes.{names_in, parts_of, kept_parts, things_of, reading_of}
use Rattle.sot_rules.specs.Indexes.{declared_parts, form_fields, is_named, sort_in}
use Rattle.sot_rules.specs.Alike.{Adds, ReadsAlike, PartsAlike, AreAlike, parts_found, StandsFor, StandsForThing, form_kept, kept_of_list}
use Rattle.sot_rules.specs.NameLists.{thing_of_list}
use Rattle.sot_rules.proofs.Lookups.{thing_found}
use Rattle.sot_rules.proofs.NameTables.{map_more}

-- what is found first stays
alike_or : (a b c d : Option Parts) → AreAlike a b → AreAlike c d → AreAlike (option_or a c) (option_or b d)
alike_or None None c d h k = k
alike_or None (Some b) c d h k = absurd h
alike_or (Some a) None c d h k = absurd h
alike_or (Some a) (Some b) c d h k = h

map_or : {X Y : Type 0} (f : X → Y) (a b : Option X) → option_map f (option_or a b) ≡ option_or (option_map f a) (option_map f b)
map_or f None b = refl
map_or f (Some x) b = refl

map_if : {X Y : Type 0} (f : X → Y) (b : Bool) (x : X) → option_map f (if b then Some x else None) ≡ (if b then Some (f x) else None)
map_if f true x = refl
map_if f false x = refl

parts_push : (xs : List Thing) (x : Thing) (name : List ℕ) → parts_found (xs ++ x ∷ []) name ≡ option_or (parts_found xs name) (entry x.name x.parts name)
parts_push [] x name = map_if (λ (x : Thing). x.parts) (bytes_eq name x.name) x
parts_push (y ∷ ys) x name =
    by (bytes_eq name y.name) (find (λ (x : Thing). bytes_eq name x.name) (ys ++ x ∷ [])) (find (λ (x : Thing). bytes_eq name x.name) ys) (parts_push ys x name)
  where
    by : (b : Bool) (o q : Option Thing) → option_map (λ (x : Thing). x.parts) o ≡ option_or (option_map (λ (x : Thing). x.parts) q) (entry x.name x.parts name)
        → option_map (λ (x : Thing). x.parts) (cond b (Some y) o)
        ≡ option_or (option_map (λ (x : Thing). x.parts) (cond b (Some y) q)) (entry x.name x.parts name)
    by true o q h = refl
    by false o q h = h

entry_alike : (b : Bool) (p q : Parts) → PartsAlike p q → AreAlike (if b then Some p else None) (if b then Some q else None)
entry_alike true p q h = h
entry_alike false p q h = tt

-- one name more, and one thing more
stands_more : (tables : List (List Part)) (xs : List Thing) (x : Thing) (old new : Things) (key : List ℕ) (s : Kept)
    → ((n : List ℕ) → found_in new n ≡ option_or (found_in old n) (entry key s n)) → key ≡ x.name → PartsAlike (kept_parts tables s) x.parts
    → StandsFor tables old xs → StandsFor tables new (xs ++ x ∷ [])
stands_more tables xs x old new key s add named alike stands n =
    let left : option_map (kept_parts tables) (found_in new n)
    ≡ option_or (option_map (kept_parts tables) (found_in old n)) (entry x.name (kept_parts tables s) n) =
    ap (option_map (kept_parts tables)) (add n)
    ∙ map_or (kept_parts tables) (found_in old n) (entry key s n)
    ∙ ap (option_or (option_map (kept_parts tables) (found_in old n)))
    (map_if (kept_parts tables) (bytes_eq n key) s ∙ ap (λ k. entry k (kept_parts tables s) n) named) in
    subst (λ o. AreAlike o (parts_found (xs ++ x ∷ []) n)) (sym left)
    (subst (λ o. AreAlike (option_or (option_map (kept_parts tables) (found_in old n)) (entry x.name (kept_parts tables s) n)) o) (sym (parts_push xs x n))
    (alike_or _ (parts_found xs n) _ (entry x.name x.parts n) (stands n) (entry_alike (bytes_eq n x.name) _ x.parts alike)))

pub stands_same : (tables : List (List Part)) (xs ys : List Thing) (m : Things) → xs ≡ ys → StandsFor tables m xs → StandsFor tables m ys
stands_same tables xs ys m e h = subst (StandsFor tables m) e h

-- a name that adds a thing
pub stands_added : (tables : List (List Part)) (xs : List Thing) (x : Option Thing) (old new : Things) (key name : List ℕ) (s : Kept)
    → ((n : List ℕ) → found_in new n ≡ option_or (found_in old n) (entry key s n)) → key ≡ name → StandsForThing tables name (Some s) x
    → StandsFor tables old xs → StandsFor tables new (xs ++ option_to_list x)
stands_added tables xs None old new key name s add e h stands = absurd h
stands_added tables xs (Some x) old new key name s add e h stands = stands_more tables xs x old new key s add (e ∙ h.0) h.1 stands

-- the list of a loop, one item longer
filter_map_one : {X Y : Type 0} (f : X → Option Y) (x : X) → filter_map f (x ∷ []) ≡ option_to_list (f x)
filter_map_one f x = by (f x)
  where
    by : {Y : Type 0} (o : Option Y) → cons_option o [] ≡ option_to_list o
    by None = refl
    by (Some y) = refl

pub listed_more : {X Y : Type 0} (f : X → Option Y) (base : List Y) (xs : List X) (i : ℕ) (x : X) → i < length xs → x ≡ get_or xs i x
    → (base ++ filter_map f (take i xs)) ++ option_to_list (f x) ≡ base ++ filter_map f (take (i + 1) xs)
listed_more f base xs i x lt e =
    append_assoc base (filter_map f (take i xs)) (option_to_list (f x))
    ∙ ap (λ l. base ++ (filter_map f (take i xs) ++ l)) (sym (filter_map_one f x))
    ∙ ap (λ l. base ++ l) (sym (filter_map-append f (take i xs) (x ∷ [])))
    ∙ ap (λ z. base ++ filter_map f (take i xs ++ z ∷ [])) e
    ∙ ap (λ l. base ++ filter_map f l) (sym (take_more xs i x lt))

mapped_more : {X Y : Type 0} (f : X → Y) (base : List Y) (xs : List X) (i : ℕ) (x : X) → i < length xs → x ≡ get_or xs i x
    → (base ++ map f (take i xs)) ++ f x ∷ [] ≡ base ++ map f (take (i + 1) xs)
mapped_more f base xs i x lt e = append_assoc base (map f (take i xs)) (f x ∷ []) ∙ ap (λ l. base ++ l) (sym (map_more f xs i x lt e))

-- one number or truth value more
pub alone_more : {X : Type 0} (f : X → Thing) (xs : List X) (i : ℕ) (x : X) (s : Sort) (key : List ℕ) (start old new : Things) → i < length xs
    → x ≡ get_or xs i x → ((tables : List (List Part)) (base : List Thing) → StandsFor tables start base → StandsFor tables old (base ++ map f (take i xs)))
    → ((n : List ℕ) → found_in new n ≡ option_or (found_in old n) (entry key (Alone s) n)) → key ≡ (f x).name → alone s ≡ (f x).parts
    → (tables : List (List Part)) (base : List Thing) → StandsFor tables start base → StandsFor tables new (base ++ map f (take (i + 1) xs))
alone_more f xs i x s key start old new lt e inv add named sorted tables base stands =
    stands_same tables _ (base ++ map f (take (i + 1) xs)) new (mapped_more f base xs i x lt e)
    (stands_more tables (base ++ map f (take i xs)) (f x) old new key (Alone s) add named (λ first field. ap (parts_reading first field) sorted)
    (inv tables base stands))

-- parts of the same sorts read alike
reading_by : (field : Ident) (a b : Option Part) → option_map (λ (x : Part). x.sort) a ≡ option_map (λ (x : Part). x.sort) b
    → part_reading field a ≡ part_reading field b
reading_by field None None e = refl
reading_by field None (Some y) e = cc
reading_by field (Some x) None e = cc
reading_by field (Some x) (Some y) e = cc

several_alike : (ps qs : List Part) → ((n : List ℕ) → sort_in ps n ≡ sort_in qs n) → PartsAlike (several ps) (several qs)
several_alike ps qs h first None = refl
several_alike ps qs h first (Some field) =
    reading_by field (find (λ (x : Part). bytes_eq field.name x.name) ps) (find (λ (x : Part). bytes_eq field.name x.name) qs) (h field.name)

-- the table at a place has the parts of the declaration at that place
pub parts_at : (items : List PartTable) (ds : List Declaration) (k : ℕ) (d : Declaration) (n : List ℕ)
    → map (λ t. sort_in (parts_of t) n) items ≡ map (λ d. sort_in (declared_parts d) n) ds → slice_get ds k ≡ Some d
    → sort_in (get_or (map parts_of items) k []) n ≡ sort_in (declared_parts d) n
parts_at items [] k d n e at = cc
parts_at [] (x ∷ ds) k d n e at = cc
parts_at (t ∷ items) (x ∷ ds) zero d n e at =
    let q : x ≡ d = cc in
    let p : sort_in (parts_of t) n ≡ sort_in (declared_parts x) n = cc in
    p ∙ ap (λ d. sort_in (declared_parts d) n) q
parts_at (t ∷ items) (x ∷ ds) (suc k) d n e at = parts_at items ds k d n (cc) at

-- what is kept of a declaration stands for the thing that it adds
form_alike : (tables : List (List Part)) (k : ℕ) (f : Form) → ((n : List ℕ) → sort_in (get_or tables k []) n ≡ sort_in (form_fields f) n)
    → PartsAlike (kept_parts tables (form_kept k f)) (form_parts f)
form_alike tables k (one s) h first field = refl
form_alike tables k (fields fs) h first field = several_alike (get_or tables k []) (map field_part fs) h first field

thing_alike : (list : NameList) (tables : List (List Part)) (k : ℕ) (d : Declaration)
    → ((n : List ℕ) → sort_in (get_or tables k []) n ≡ sort_in (declared_parts d) n)
    → StandsForThing tables (declared_name d).name (kept_of_list list k d) (thing_of_list list (Some d))
thing_alike Topics tables k (a_topic t) h = (refl, form_alike tables k t.shape h)
thing_alike Topics tables k (a_plant q) h = tt
thing_alike Topics tables k (a_node n) h = tt
thing_alike Topics tables k (a_module m) h = tt
thing_alike Plants tables k (a_topic t) h = tt
thing_alike Plants tables k (a_plant q) h = (refl, several_alike (get_or tables k []) (map state_part q.states) h)
thing_alike Plants tables k (a_node n) h = tt
thing_alike Plants tables k (a_module m) h = tt
thing_alike Both tables k (a_topic t) h = (refl, form_alike tables k t.shape h)
thing_alike Both tables k (a_plant q) h = (refl, several_alike (get_or tables k []) (map state_part q.states) h)
thing_alike Both tables k (a_node n) h = tt
thing_alike Both tables k (a_module m) h = tt

-- what is found has the name
pub found_named : (name : List ℕ) (ds : List Declaration) (d : Declaration) → find (is_named name) ds ≡ Some d → bytes_eq name (declared_name d).name ≡ true
found_named name [] d e = cc
found_named name (x ∷ ds) d e = by x d (bytes_eq name (declared_name x).name) refl (find (is_named name) ds) (found_named name ds d) e
  where
    by : (x d : Declaration) (b : Bool) → bytes_eq name (declared_name x).name ≡ b → (rest : Option Declaration)
        → (rest ≡ Some d → bytes_eq name (declared_name d).name ≡ true) → cond b (Some x) rest ≡ Some d → bytes_eq name (declared_name d).name ≡ true
    by x d true h rest later q = let r : x ≡ d = cc in subst (λ d. bytes_eq name (declared_name d).name ≡ true) r h
    by x d false h rest later q = later q

-- a table of names reads like the list that it stands for
reads_by : (f : Kept → Parts) (first : Ident) (field : Option Ident) (a : Option Kept) (b : Option Thing)
    → AreAlike (option_map f a) (option_map (λ (x : Thing). x.parts) b) → reading_of f first field a ≡ thing_reading first field b
reads_by f first field None None h = refl
reads_by f first field None (Some y) h = absurd h
reads_by f first field (Some x) None h = absurd h
reads_by f first field (Some x) (Some y) h = h first field

reads_alike : (tables : List PartTable) (m : Things) (xs : List Thing) → StandsFor (map parts_of tables) m xs → ReadsAlike (things_of tables m) xs
reads_alike tables m xs h first field =
    thing_found (kept_parts (map parts_of tables)) first field (entries_in m)
    ∙ reads_by (kept_parts (map parts_of tables)) first field (found_in m first.name) (find (λ (x : Thing). bytes_eq first.name x.name) xs) (h first.name)

-- the whole list of a loop
pub mapped_all : {X : Type 0} (tables : List (List Part)) (f : X → Thing) (base : List Thing) (xs : List X) (i : ℕ) (m : Things) → length xs ≤ i
    → StandsFor tables m (base ++ map f (take i xs)) → StandsFor tables m (base ++ map f xs)
mapped_all tables f base xs i m le h = stands_same tables _ (base ++ map f xs) m (ap (λ l. base ++ map f l) (take_all i xs le)) h

pub map_twice : {X Y Z : Type 0} (f : Y → Z) (g : X → Y) (xs : List X) → map (λ x. f (g x)) xs ≡ map f (map g xs)
map_twice f g [] = refl
map_twice f g (x ∷ xs) = ap (λ l. f (g x) ∷ l) (map_twice f g xs)

-- a name that means the declaration at place k
pub kept_alike : (list : NameList) (tables : List (List Part)) (k : ℕ) (name : List ℕ) (d : Declaration) (r : Option Kept) (m : Option Declaration) → m ≡ Some d
    → name ≡ (declared_name d).name → r ≡ kept_of_list list k d → ((n : List ℕ) → sort_in (get_or tables k []) n ≡ sort_in (declared_parts d) n)
    → StandsForThing tables name r (thing_of_list list m)
kept_alike list tables k name d r m means named kept h =
    subst (λ z. StandsForThing tables name r (thing_of_list list z)) (sym means)
    (subst (λ z. StandsForThing tables name z (thing_of_list list (Some d))) (sym kept)
    (subst (λ z. StandsForThing tables z (kept_of_list list k d) (thing_of_list list (Some d))) (sym named) (thing_alike list tables k d h)))

pub stands_none : (tables : List (List Part)) (m : Things) → entries_in m ≡ [] → StandsFor tables m []
stands_none tables m e n = subst (λ es. AreAlike (option_map (kept_parts tables) (lookup (λ (k : Bor (List ℕ)). bytes_eq n k.now) es)) None) (sym e) tt

-- the names that the code keeps, with the tables of an index
pub names_alike : (x : Names) (tables : List (List Part)) (xs : List Thing) → map parts_of x.tables.now ≡ tables → StandsFor tables x.things xs
    → ReadsAlike (names_in x) xs
unfolding names_in
names_alike x tables xs e h = reads_alike x.tables.now x.things xs (subst (λ t. StandsFor t x.things xs) (sym e) h)

-- things that are added after others, and lists that are the same
pub adds_both : (tables : List (List Part)) (old : Things) (mid : Things) (new : Things) (xs ys : List Thing) → Adds tables old mid xs → Adds tables mid new ys
    → Adds tables old new (xs ++ ys)
adds_both tables old mid new xs ys early late base stands =
    stands_same tables ((base ++ xs) ++ ys) (base ++ (xs ++ ys)) new (append_assoc base xs ys) (late (base ++ xs) (early base stands))

pub adds_same : (tables : List (List Part)) (old : Things) (new : Things) (xs ys : List Thing) → xs ≡ ys → Adds tables old new xs → Adds tables old new ys
adds_same tables old new xs ys e adds base stands = subst (λ zs. StandsFor tables new (base ++ zs)) e (adds base stands)
