-- A name that is looked up gives the sort that stands at its place.
use Rattle.std.proofs.Common.{◌≡◌, ◌∙◌, ℕ, zero, suc, ◌+◌, List, [], ◌∷◌, ◌++◌, map, length, find, cond, not, flat_map, refl, sym, ap, subst, Option, Some}
use Rattle.std.proofs.Common.{None, true, false, Bool, ◌&&◌, arith}
use Rattle.std.specs.List.{position_or_len}
use Rattle.std.specs.Str.{bytes_eq}
use Rattle.std.proofs.lemmas.List.{length-map, length-append}
use Rattle.std.proofs.lemmas.List.Folds.{find_at}
use Rattle.sot_lists.specs.Places.{At}
use Rattle.sot_syntax_tree.specs.declared.tree.Ident.{Ident}
use Rattle.sot_rules.specs.declared.expressions.sort.Sort.{Sort}
use Rattle.sot_rules.specs.Names.{Part, Parts, alone, several, Thing, gives, part_reading, parts_reading, thing_reading, reading}
use Rattle.sot_typing.specs.Terms.{Reference, parts_references, references, are_both, is_meant, place_of}
use Rattle.sot_typing.proofs.Declared.{of_find}
use Rattle.sot_typing.proofs.Lists.{at_lt, at_below, at_map, at_left, at_right, at_mapped}

-- the sorts of all that some things are, in order
abbrev pub parts_sorts : Parts → List Sort
parts_sorts (alone s) = s ∷ []
parts_sorts (several parts) = map (λ x. x.sort) parts

abbrev pub thing_sorts : List Thing → List Sort
thing_sorts things = flat_map (λ x. parts_sorts x.parts) things

position_left : {A : Type 0} (test : A → Bool) (xs ys : List A) (k : ℕ) (x : A) → At xs k x → test x ≡ true
    → position_or_len test (xs ++ ys) ≡ position_or_len test xs
position_left test [] ys k x a e = cc
position_left test (z ∷ xs) ys zero x a e =
    let q : test z ≡ true = (let r : z ≡ x = cc in ap test r ∙ e) in
    ap (λ b. cond (not b) (1 + position_or_len test (xs ++ ys)) 0) q ∙ sym (ap (λ b. cond (not b) (1 + position_or_len test xs) 0) q)
position_left test (z ∷ xs) ys (suc k) x a e = ap (λ n. cond (not (test z)) (1 + n) 0) (position_left test xs ys k x a e)

-- what stands at the first place that passes passes
is_first : {A : Type 0} (test : A → Bool) (xs : List A) (x : A) → At xs (position_or_len test xs) x → test x ≡ true
is_first test xs x a = (let r = of_find test xs x (find_at test xs ∙ a) in r.2)

position_right : {A : Type 0} (test : A → Bool) (xs ys : List A) → ((k : ℕ) (x : A) → At xs k x → test x ≡ false)
    → position_or_len test (xs ++ ys) ≡ length xs + position_or_len test ys
position_right test [] ys h = omega arith
position_right test (z ∷ xs) ys h =
    let r = position_right test xs ys (λ k x a. h (suc k) x a) in
    ap (λ b. cond (not b) (1 + position_or_len test (xs ++ ys)) 0) (h 0 z refl) ∙ omega arith

position_map : {A B : Type 0} (test : B → Bool) (f : A → B) (xs : List A) → position_or_len test (map f xs) ≡ position_or_len (λ x. test (f x)) xs
position_map test f [] = refl
position_map test f (z ∷ xs) = ap (λ n. cond (not (test (f z))) (1 + n) 0) (position_map test f xs)

position_same : {A : Type 0} (test other : A → Bool) (xs : List A) → ((x : A) → test x ≡ other x) → position_or_len test xs ≡ position_or_len other xs
position_same test other [] h = refl
position_same test other (z ∷ xs) h =
    ap (λ b. cond (not b) (1 + position_or_len test xs) 0) (h z) ∙ ap (λ n. cond (not (other z)) (1 + n) 0) (position_same test other xs h)

length_parts : (name : List ℕ) (parts : Parts) → length (parts_references name parts) ≡ length (parts_sorts parts)
length_parts name (alone s) = refl
length_parts name (several ps) = length-map ps (λ x. record { name = name; field = Some x.name }) ∙ sym (length-map ps (λ x. x.sort))

pub length_references : (things : List Thing) → length (references things) ≡ length (thing_sorts things)
length_references [] = refl
length_references (z ∷ things) =
    let r = length_references things in
    let a = length-append (parts_references z.name z.parts) (references things) in
    let b = length-append (parts_sorts z.parts) (thing_sorts things) in
    let c = length_parts z.name z.parts in
    omega arith

-- a name that another thing has
other_name : (first : Ident) (field : Option Ident) (name : List ℕ) (parts : Parts) → bytes_eq first.name name ≡ false → (k : ℕ) (r : Reference)
    → At (parts_references name parts) k r → is_meant first field r ≡ false
other_name first field name (alone s) e zero r a =
    (let q : record { name = name; field = None } ≡ r = cc in ap (is_meant first field) (sym q) ∙ ap (λ b. b && are_both field None) e)
other_name first field name (alone s) e (suc k) r a = cc
other_name first field name (several ps) e k r a =
    let m = at_mapped (λ (x : Part). record { name = name; field = Some x.name }) ps k r a in
    ap (is_meant first field) (sym m.2) ∙ ap (λ b. b && are_both field (Some m.0.name)) e

-- the name of a thing
part_found : (field : Ident) (s : Sort) (o : Option Part) → part_reading field o ≡ gives s → (x : Part) × (o ≡ Some x) × (x.sort ≡ s)
part_found field s None e = cc
part_found field s (Some x) e = (x, refl, cc)

in_parts : (first : Ident) (field : Option Ident) (name : List ℕ) (parts : Parts) (s : Sort) → bytes_eq first.name name ≡ true
    → parts_reading first field parts ≡ gives s → At (parts_sorts parts) (position_or_len (is_meant first field) (parts_references name parts)) s
in_parts first None name (alone u) s e r =
    let q : u ≡ s = cc in
    subst (λ b. At (u ∷ []) (cond (not (b && true)) (1 + 0) 0) s) (sym e) (ap Some q)
in_parts first (Some f) name (alone u) s e r = cc
in_parts first None name (several ps) s e r = cc
in_parts first (Some f) name (several ps) s e r =
    let x = part_found f s (find (λ (x : Part). bytes_eq f.name x.name) ps) r in
    let at : At ps (position_or_len (λ (x : Part). bytes_eq f.name x.name) ps) x.0 = sym (find_at (λ (x : Part). bytes_eq f.name x.name) ps) ∙ x.1 in
    let same = position_map (is_meant first (Some f)) (λ (x : Part). record { name = name; field = Some x.name }) ps
    ∙ position_same _ (λ (x : Part). bytes_eq f.name x.name) ps (λ x. ap (λ b. b && bytes_eq f.name x.name) e) in
    subst (λ n. At (map (λ (x : Part). x.sort) ps) n s) (sym same) (at_map (λ (x : Part). x.sort) ps _ x.0 at ∙ ap Some x.2)

length_at : {A B : Type 0} (xs : List A) (ys : List B) (k : ℕ) (y : B) → length xs ≡ length ys → At ys k y → (x : A) × At xs k x
length_at xs ys k y e a = (let l = at_lt ys k y a in at_below xs k (omega arith))

pub place_is : (things : List Thing) (first : Ident) (field : Option Ident) (s : Sort) → reading things first field ≡ gives s
    → At (thing_sorts things) (place_of things first field) s
place_is [] first field s e = cc
place_is (z ∷ things) first field s e = by (bytes_eq first.name z.name) refl e (λ q. place_is things first field s q)
  where
    here : bytes_eq first.name z.name ≡ true → parts_reading first field z.parts ≡ gives s → At (thing_sorts (z ∷ things)) (place_of (z ∷ things) first field) s
    here q r =
        let a = in_parts first field z.name z.parts s q r in
        let x = length_at (parts_references z.name z.parts) (parts_sorts z.parts) _ s (length_parts z.name z.parts) a in
        let m = is_first (is_meant first field) (parts_references z.name z.parts) x.0 x.1 in
        let n = position_left (is_meant first field) (parts_references z.name z.parts) (references things) _ x.0 x.1 m in
        subst (λ n. At (thing_sorts (z ∷ things)) n s) (sym n) (at_left (parts_sorts z.parts) (thing_sorts things) _ s a)

    later : bytes_eq first.name z.name ≡ false → At (thing_sorts things) (place_of things first field) s
        → At (thing_sorts (z ∷ things)) (place_of (z ∷ things) first field) s
    later q a =
        let n = position_right (is_meant first field) (parts_references z.name z.parts) (references things) (other_name first field z.name z.parts q) in
        let l = length_parts z.name z.parts in
        let m : length (parts_sorts z.parts) + place_of things first field ≡ place_of (z ∷ things) first field =
        ap (λ k. k + place_of things first field) (sym l) ∙ sym n in
        subst (λ n. At (thing_sorts (z ∷ things)) n s) m (at_right (parts_sorts z.parts) (thing_sorts things) _ s a)

    by : (b : Bool) → bytes_eq first.name z.name ≡ b → thing_reading first field (cond b (Some z) (find (λ (x : Thing). bytes_eq first.name x.name) things))
        ≡ gives s → (reading things first field ≡ gives s → At (thing_sorts things) (place_of things first field) s)
        → At (thing_sorts (z ∷ things)) (place_of (z ∷ things) first field) s
    by true q r more = here q r
    by false q r more = later q (more r)
