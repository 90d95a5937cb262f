-- The lists that tables stand for, one item longer.
use Rattle.std.proofs.Common.{◌≡◌, ◌∙◌, ℕ, zero, suc, ◌+◌, ◌<◌, ◌≤◌, List, [], ◌∷◌, ◌++◌, length, get_or, take, map, find, Option, Some, None, Bool, true}
use Rattle.std.proofs.Common.{false, is_some, cond, if◌then◌else◌, not, ◌||◌, ◌==◌, option_map, position, refl, sym, ap, arith, nat_lt}
use Rattle.std.specs.Option.{option_or}
use Rattle.std.specs.Str.{bytes_eq}
use Rattle.std.specs.List.{list_any, position_or_len, slice_get}
use Rattle.sot_syntax_tree.specs.declared.tree.Ident.{Ident}
use Rattle.std.proofs.lemmas.List.{length-append, map-append, take_more}
use Rattle.std.proofs.lemmas.List.Folds.{find_at, list_any-append, position_or_len_push}
use Rattle.std.proofs.lemmas.List.Sums.{prefix_len-le-length}
use Rattle.std.proofs.lemmas.Bool.Decides.{nat_tests}
use denote.Ref.{Bor}
use Rattle.indexmap.specs.IndexMap.{IndexMap}
use Rattle.sot_rules.specs.declared.expressions.sort.Sort.{Sort}
use Rattle.sot_rules.specs.Names.{Part}
use Rattle.sot_names.specs.NameTables.{found, entry}
use Rattle.sot_rules.specs.Indexes.{is_key, sort_in}
use Rattle.sot_names.proofs.NameTables.{same_by, bytes_eq_sym}

-- one part more
sort_push : (ps : List Part) (p : Part) (name : List ℕ) → sort_in (ps ++ p ∷ []) name ≡ option_or (sort_in ps name) (entry p.name p.sort name)
sort_push [] p name = by (bytes_eq name p.name)
  where
    by : (b : Bool) → option_map (λ (x : Part). x.sort) (cond b (Some p) None) ≡ (if b then Some p.sort else None)
    by true = refl
    by false = refl
sort_push (x ∷ ps) p name =
    by (bytes_eq name x.name) (find (λ (x : Part). bytes_eq name x.name) (ps ++ p ∷ [])) (find (λ (x : Part). bytes_eq name x.name) ps) (sort_push ps p name)
  where
    by : (b : Bool) (o q : Option Part) → option_map (λ (x : Part). x.sort) o ≡ option_or (option_map (λ (x : Part). x.sort) q) (entry p.name p.sort name)
        → option_map (λ (x : Part). x.sort) (cond b (Some x) o) ≡ option_or (option_map (λ (x : Part). x.sort) (cond b (Some x) q)) (entry p.name p.sort name)
    by true o q h = refl
    by false o q h = h

-- the first items of a list, with one more
pub map_more : {X Y : Type 0} (g : X → Y) (xs : List X) (i : ℕ) (x : X) → i < length xs → x ≡ get_or xs i x
    → map g (take (i + 1) xs) ≡ map g (take i xs) ++ g x ∷ []
map_more g xs i x lt e =
    ap (map g) (take_more xs i x lt)
    ∙ map-append g (take i xs) (get_or xs i x ∷ [])
    ∙ ap (λ z. map g (take i xs) ++ g z ∷ []) (sym e)

-- a table of parts, one part longer
pub sorts_more : {X S : Type 0} (g : X → Part) (xs : List X) (i : ℕ) (x : X) (old new : IndexMap (Bor (List ℕ)) Sort S) (key : List ℕ) (s : Sort)
    → i < length xs → x ≡ get_or xs i x → ((n : List ℕ) → found old n ≡ sort_in (map g (take i xs)) n)
    → ((n : List ℕ) → found new n ≡ option_or (found old n) (entry key s n)) → key ≡ (g x).name → s ≡ (g x).sort → (n : List ℕ)
    → found new n ≡ sort_in (map g (take (i + 1) xs)) n
sorts_more g xs i x old new key s lt e inv add named sorted n =
    add n
    ∙ ap (λ o. option_or o (entry key s n)) (inv n)
    ∙ ap (λ k. option_or (sort_in (map g (take i xs)) n) (entry k s n)) named
    ∙ ap (λ t. option_or (sort_in (map g (take i xs)) n) (entry (g x).name t n)) sorted
    ∙ sym (sort_push (map g (take i xs)) (g x) n)
    ∙ sym (ap (λ ps. sort_in ps n) (map_more g xs i x lt e))

length_push : {X : Type 0} (xs : List X) (y : X) → length (xs ++ y ∷ []) ≡ length xs + 1
length_push xs y = length-append xs (y ∷ [])

-- the first place at which a test passes, in a list that is one item longer
place_by : (p n : ℕ) (b : Bool) → p ≤ n → cond (nat_lt (cond (p == n) (n + cond b 0 1) p) (n + 1)) (Some (cond (p == n) (n + cond b 0 1) p)) None
    ≡ option_or (cond (nat_lt p n) (Some p) None) (if b then Some n else None)
place_by p n true h = grind (arith, nat_tests)
place_by p n false h = grind (arith, nat_tests)

pub position_push : {X : Type 0} (test : X → Bool) (xs : List X) (y : X)
    → position test (xs ++ y ∷ []) ≡ option_or (position test xs) (if test y then Some (length xs) else None)
position_push test xs y =
    ap (λ m. cond (nat_lt (position_or_len test (xs ++ y ∷ [])) m) (Some (position_or_len test (xs ++ y ∷ []))) None) (length_push xs y)
    ∙ ap (λ p. cond (nat_lt p (length xs + 1)) (Some p) None) (position_or_len_push test xs y)
    ∙ place_by (position_or_len test xs) (length xs) (test y) (prefix_len-le-length (λ x. not (test x)) xs)

-- the place at which a test passes first has what is found
found_at : {X : Type 0} (xs : List X) (p k : ℕ) → cond (nat_lt p (length xs)) (Some p) None ≡ Some k → (p ≡ k) × (k < length xs)
found_at xs p k e = by (nat_lt p (length xs)) refl e
  where
    by : (b : Bool) → nat_lt p (length xs) ≡ b → cond b (Some p) None ≡ Some k → (p ≡ k) × (k < length xs)
    by true h e = let q : p ≡ k = cc in (q, grind (arith, nat_tests))
    by false h e = cc

pub placed : {X : Type 0} (test : X → Bool) (xs : List X) (k : ℕ) → position test xs ≡ Some k → (slice_get xs k ≡ find test xs) × (k < length xs)
placed test xs k e = let r = found_at xs (position_or_len test xs) k e in (ap (slice_get xs) (sym r.0) ∙ sym (find_at test xs), r.1)

within_test : {X : Type 0} (xs : List X) (p : ℕ) → nat_lt p (length xs) ≡ is_some (slice_get xs p)
within_test [] p = grind (arith, nat_tests)
within_test (x ∷ xs) zero = grind (arith, nat_tests)
within_test (x ∷ xs) (suc p) = suc_test p (length xs) ∙ within_test xs p
  where
    suc_test : (p n : ℕ) → nat_lt (suc p) (suc n) ≡ nat_lt p n
    suc_test p n = grind (arith, nat_tests)

some_cond : (b : Bool) (p : ℕ) → is_some (cond b (Some p) None) ≡ b
some_cond true p = refl
some_cond false p = refl

pub known : {X : Type 0} (test : X → Bool) (xs : List X) → is_some (position test xs) ≡ is_some (find test xs)
known test xs =
    some_cond (nat_lt (position_or_len test xs) (length xs)) (position_or_len test xs)
    ∙ within_test xs (position_or_len test xs)
    ∙ ap is_some (sym (find_at test xs))

-- a key more in a set
or_kept : (a b : Bool) → (b ≡ true → a ≡ true) → a ≡ (a || b)
or_kept true b h = refl
or_kept false true h = h refl
or_kept false false h = refl

pub or_false : (a b : Bool) → (a || (b || false)) ≡ (a || b)
or_false true b = refl
or_false false true = refl
or_false false false = refl

pub keys_more : (keys : List (Bor (List ℕ))) (key : Bor (List ℕ)) (i : Ident)
    → is_key (if list_any (λ (x : Bor (List ℕ)). bytes_eq key.now x.now) keys then keys else keys ++ key ∷ []) i ≡ (is_key keys i || bytes_eq key.now i.name)
keys_more keys key i = by (list_any (λ (x : Bor (List ℕ)). bytes_eq key.now x.now) keys) refl
  where
    by : (b : Bool) → list_any (λ (x : Bor (List ℕ)). bytes_eq key.now x.now) keys ≡ b
        → is_key (if b then keys else keys ++ key ∷ []) i ≡ (is_key keys i || bytes_eq key.now i.name)
    by true e = or_kept (is_key keys i) (bytes_eq key.now i.name) (λ h. ap (λ n. list_any (λ (x : Bor (List ℕ)). bytes_eq n x.now) keys) (sym (same_by h)) ∙ e)
    by false e =
        list_any-append (λ (k : Bor (List ℕ)). bytes_eq i.name k.now) keys (key ∷ [])
        ∙ or_false (is_key keys i) (bytes_eq i.name key.now)
        ∙ ap (λ b. is_key keys i || b) (bytes_eq_sym i.name key.now)
