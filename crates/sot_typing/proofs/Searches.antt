-- Searches through short lists: what a name gives, and at which place it stands.
use Rattle.std.proofs.Common.{◌≡◌, ℕ, ◌+◌, ◌<◌, ◌≤◌, List, [], ◌∷◌, ◌++◌, length, get_or, drop, map, find, cond, Bool, true, false, not, ◌&&◌, Option, Some}
use Rattle.std.proofs.Common.{None, refl, sym, ap, ◌∙◌, subst, arith, length-append}
use Rattle.std.specs.List.{position_or_len}
use Rattle.std.specs.Str.{bytes_eq}
use Rattle.sot_syntax_tree.specs.declared.tree.Ident.{Ident}
use Rattle.std.proofs.lemmas.List.{drop_all, length-map}
use Rattle.sot_rules.specs.Names.{Part, Parts, alone, several, Thing, part_reading, parts_reading, thing_reading, reading, reading_sort}
use Rattle.sot_rules.specs.Faults.{reading_faults}
use Rattle.sot_rules.proofs.Loops.{rest_is}
use Rattle.sot_typing.specs.declared.names.things.Thing.{Thing as Kept}
use Rattle.sot_typing.specs.Things.{parts_in, thing_in, things_in}
use Rattle.sot_typing.specs.Terms.{Reference, parts_references, references, are_both, is_meant, place_of}

-- the item at hand passes a test, or it does not
module _ {X Y : Type 0} (q : Y → Bool) (g : X → Y) (xs : List X) (i : ℕ) (x : X) (lt : i < length xs) (e : x ≡ get_or xs i x) where
  pub miss_find : q (g x) ≡ false → find q (map g (drop i xs)) ≡ find q (map g (drop (i + 1) xs))
  miss_find h = ap (λ z. find q (map g z)) (rest_is xs i x lt e) ∙ ap (λ b. cond b (Some (g x)) (find q (map g (drop (i + 1) xs)))) h

  pub hit_find : q (g x) ≡ true → find q (map g (drop i xs)) ≡ Some (g x)
  hit_find h = ap (λ z. find q (map g z)) (rest_is xs i x lt e) ∙ ap (λ b. cond b (Some (g x)) (find q (map g (drop (i + 1) xs)))) h

  pub miss_place : q (g x) ≡ false → position_or_len q (map g (drop i xs)) ≡ 1 + position_or_len q (map g (drop (i + 1) xs))
  miss_place h = ap (λ z. position_or_len q (map g z)) (rest_is xs i x lt e) ∙ ap (λ b. cond (not b) (1 + position_or_len q (map g (drop (i + 1) xs))) 0) h

  pub hit_place : q (g x) ≡ true → position_or_len q (map g (drop i xs)) ≡ 0
  hit_place h = ap (λ z. position_or_len q (map g z)) (rest_is xs i x lt e) ∙ ap (λ b. cond (not b) (1 + position_or_len q (map g (drop (i + 1) xs))) 0) h

-- what is found stands in the list
pub within : {X : Type 0} (q : X → Bool) (xs : List X) → (find q xs ≡ None → ⊥) → position_or_len q xs < length xs
within q [] h = absurd (h refl)
within {X} q (x ∷ xs) h = by (q x) (find q xs) (position_or_len q xs) h (within q xs)
  where
    by : (b : Bool) (o : Option X) (n : ℕ) → (cond b (Some x) o ≡ None → ⊥) → ((o ≡ None → ⊥) → n < length xs) → cond (not b) (1 + n) 0 < length (x ∷ xs)
    by true o n h rest = omega arith
    by false o n h rest = (let k = rest h in omega arith)

-- and not behind it
pub place_append : {X : Type 0} (q : X → Bool) (xs ys : List X) → position_or_len q xs < length xs → position_or_len q (xs ++ ys) ≡ position_or_len q xs
place_append q [] ys h = absurd (omega arith)
place_append q (x ∷ xs) ys h = by (q x) (position_or_len q xs) (position_or_len q (xs ++ ys)) h (place_append q xs ys)
  where
    by : (b : Bool) (n m : ℕ) → cond (not b) (1 + n) 0 < length (x ∷ xs) → (n < length xs → m ≡ n) → cond (not b) (1 + m) 0 ≡ cond (not b) (1 + n) 0
    by true n m h rest = refl
    by false n m h rest = (let k : n < length xs = omega arith in ap (λ z. 1 + z) (rest k))

module _ (first : Ident) (field : Option Ident) where
  abbrev reference : List ℕ → Part → Reference
  reference name x = record { name = name; field = Some x.name }

  -- no part of a thing of another name is meant
  skip_parts : (name : List ℕ) (parts : List Part) (ys : List Reference) → bytes_eq first.name name ≡ false
      → position_or_len (is_meant first field) (map (reference name) parts ++ ys)
      ≡ length (map (reference name) parts) + position_or_len (is_meant first field) ys
  skip_parts name [] ys h = omega arith
  skip_parts name (x ∷ parts) ys h =
      let rest = skip_parts name parts ys h in
      ap (λ b. cond (not (b && are_both field (Some x.name))) (1 + position_or_len (is_meant first field) (map (reference name) parts ++ ys)) 0) h
      ∙ ap (λ n. 1 + n) rest
      ∙ omega arith

  pub skip : (x : Thing) (more : List Thing) → bytes_eq first.name x.name ≡ false
      → place_of (x ∷ more) first field ≡ length (parts_references x.name x.parts) + place_of more first field
  skip x more h = by x.parts
    where
      by : (p : Parts) → position_or_len (is_meant first field) (parts_references x.name p ++ references more)
          ≡ length (parts_references x.name p) + place_of more first field
      by (alone s) = ap (λ b. cond (not (b && are_both field None)) (1 + place_of more first field) 0) h
      by (several parts) = skip_parts x.name parts (references more) h

-- among the parts of a thing of its own name a field is told by its own name alone
pub meant_parts : (first f : Ident) (name : List ℕ) (parts : List Part) → bytes_eq first.name name ≡ true
    → position_or_len (is_meant first (Some f)) (map (reference first (Some f) name) parts) ≡ position_or_len (λ x. bytes_eq f.name x.name) parts
meant_parts first f name [] h = refl
meant_parts first f name (x ∷ parts) h =
    ap (λ b. cond (not (b && bytes_eq f.name x.name)) (1 + position_or_len (is_meant first (Some f)) (map (reference first (Some f) name) parts)) 0) h
    ∙ ap (λ n. cond (not (bytes_eq f.name x.name)) (1 + n) 0) (meant_parts first f name parts h)

part_within : (f : Ident) (parts : List Part) → reading_faults (part_reading f (find (λ (x : Part). bytes_eq f.name x.name) parts)) ≡ []
    → position_or_len (λ (x : Part). bytes_eq f.name x.name) parts < length parts
part_within f parts h =
    within (λ (x : Part). bytes_eq f.name x.name) parts
    (λ n. let e = sym (ap (λ z. reading_faults (part_reading f z)) n) ∙ h in cc)

-- what a thing gives stands among its own numbers
pub own : (first : Ident) (field : Option Ident) (name : List ℕ) (p : Parts) → bytes_eq first.name name ≡ true
    → reading_faults (parts_reading first field p) ≡ [] → position_or_len (is_meant first field) (parts_references name p) < length (parts_references name p)
own first None name (alone s) h k = (let e = ap (λ b. cond (not (b && true)) 1 0) h in subst (λ z. z < 1) (sym e) (omega arith))
own first (Some f) name (alone s) h k = cc
own first None name (several parts) h k = cc
own first (Some f) name (several parts) h k =
    let lt = part_within f parts k in
    let size : length (map (reference first (Some f) name) parts) ≡ length parts = simp length-map in
    subst (λ z. z < length (map (reference first (Some f) name) parts)) (sym (meant_parts first f name parts h))
    (subst (λ z. position_or_len (λ (x : Part). bytes_eq f.name x.name) parts < z) (sym size) lt)

pub hit : (first : Ident) (field : Option Ident) (x : Thing) (more : List Thing) → bytes_eq first.name x.name ≡ true
    → reading_faults (parts_reading first field x.parts) ≡ []
    → place_of (x ∷ more) first field ≡ position_or_len (is_meant first field) (parts_references x.name x.parts)
hit first field x more h k = place_append (is_meant first field) (parts_references x.name x.parts) (references more) (own first field x.name x.parts h k)

-- names of parts
abbrev pub is_named : Ident → Part → Bool
is_named i x = bytes_eq i.name x.name

pub tested : (a b x y : List ℕ) (r v : Bool) → r ≡ bytes_eq a b → a ≡ x → b ≡ y → r ≡ v → bytes_eq x y ≡ v
tested a b x y r v e p q h = sym (ap (λ z. bytes_eq z y) p) ∙ sym (ap (bytes_eq a) q) ∙ sym e ∙ h

-- a search among parts, where those before the item at hand do not have the name
module _ {X : Type 0} (g : X → Part) (name : Ident) (xs : List X) (i : ℕ) where
  pub none_left : length xs ≤ i → find (is_named name) (map g (drop i xs)) ≡ find (is_named name) (map g xs)
      → reading_faults (part_reading name (find (is_named name) (map g xs))) ≡ [] → ⊥
  none_left le found known =
      let none : find (is_named name) (map g xs) ≡ None = sym found ∙ ap (λ z. find (is_named name) (map g z)) (drop_all i xs le) in
      let fault = sym (ap (λ z. reading_faults (part_reading name z)) none) ∙ known in
      cc

  module _ (x : X) (lt : i < length xs) (e : x ≡ get_or xs i x) (found : find (is_named name) (map g (drop i xs)) ≡ find (is_named name) (map g xs))
      (place : i + position_or_len (is_named name) (map g (drop i xs)) ≡ position_or_len (is_named name) (map g xs)) where
    pub found_next : bytes_eq name.name (g x).name ≡ false → find (is_named name) (map g (drop (i + 1) xs)) ≡ find (is_named name) (map g xs)
    found_next h = sym (miss_find (is_named name) g xs i x lt e h) ∙ found

    pub place_next : bytes_eq name.name (g x).name ≡ false → (i + 1) + position_or_len (is_named name) (map g (drop (i + 1) xs))
        ≡ position_or_len (is_named name) (map g xs)
    place_next h = omega (arith, miss_place (is_named name) g xs i x lt e h)

    pub place_here : bytes_eq name.name (g x).name ≡ true → i ≡ position_or_len (is_named name) (map g xs)
    place_here h = omega (arith, hit_place (is_named name) g xs i x lt e h)

    pub sort_here : bytes_eq name.name (g x).name ≡ true → (g x).sort ≡ reading_sort (part_reading name (find (is_named name) (map g xs)))
    sort_here h = ap (λ z. reading_sort (part_reading name z)) (sym (hit_find (is_named name) g xs i x lt e h) ∙ found)

-- a search among things
module _ (first : Ident) (field : Option Ident) (x : Thing) (more : List Thing) where
  miss_reading : bytes_eq first.name x.name ≡ false → reading (x ∷ more) first field ≡ reading more first field
  miss_reading h = ap (λ b. thing_reading first field (cond b (Some x) (find (λ (x : Thing). bytes_eq first.name x.name) more))) h

  hit_reading : bytes_eq first.name x.name ≡ true → reading (x ∷ more) first field ≡ parts_reading first field x.parts
  hit_reading h = ap (λ b. thing_reading first field (cond b (Some x) (find (λ (x : Thing). bytes_eq first.name x.name) more))) h

module _ (things : List Kept) (first : Ident) (field : Option Ident) (i before : ℕ)
    (read : reading (things_in (drop i things)) first field ≡ reading (things_in things) first field) where
  pub thing_left : length things ≤ i → reading_faults (reading (things_in things) first field) ≡ [] → ⊥
  thing_left le known =
      let fault = sym (ap (λ z. reading_faults (reading (things_in z) first field)) (drop_all i things le)) ∙ ap reading_faults read ∙ known in
      cc

  module _ (x : Kept) (lt : i < length things) (e : x ≡ get_or things i x) where
    rest_things : things_in (drop i things) ≡ thing_in x ∷ things_in (drop (i + 1) things)
    rest_things = ap things_in (rest_is things i x lt e)

    pub read_next : bytes_eq first.name x.name.now.name ≡ false → reading (things_in (drop (i + 1) things)) first field ≡ reading (things_in things) first field
    read_next h = sym (miss_reading first field (thing_in x) (things_in (drop (i + 1) things)) h) ∙ sym (ap (λ z. reading z first field) rest_things) ∙ read

    pub read_here : bytes_eq first.name x.name.now.name ≡ true → parts_reading first field (parts_in x.parts) ≡ reading (things_in things) first field
    read_here h = sym (hit_reading first field (thing_in x) (things_in (drop (i + 1) things)) h) ∙ sym (ap (λ z. reading z first field) rest_things) ∙ read

    pub part_known : bytes_eq first.name x.name.now.name ≡ true → reading_faults (reading (things_in things) first field) ≡ []
        → reading_faults (parts_reading first field (parts_in x.parts)) ≡ []
    part_known h known = ap reading_faults (read_here h) ∙ known

    module _ (place : before + place_of (things_in (drop i things)) first field ≡ place_of (things_in things) first field)
        (room : before + length (references (things_in (drop i things))) ≡ length (references (things_in things))) where
      size_here : length (references (things_in (drop i things)))
          ≡ length (parts_references x.name.now.name (parts_in x.parts)) + length (references (things_in (drop (i + 1) things)))
      size_here =
          ap (λ z. length (references z)) rest_things ∙ length-append (parts_references x.name.now.name (parts_in x.parts))
          (references (things_in (drop (i + 1) things)))

      pub fits_here : before + length (parts_references x.name.now.name (parts_in x.parts)) ≤ length (references (things_in things))
      fits_here = omega (arith, size_here)

      pub room_next : (before + length (parts_references x.name.now.name (parts_in x.parts))) + length (references (things_in (drop (i + 1) things)))
          ≡ length (references (things_in things))
      room_next = omega (arith, size_here)

      pub thing_next : bytes_eq first.name x.name.now.name ≡ false
          → (before + length (parts_references x.name.now.name (parts_in x.parts))) + place_of (things_in (drop (i + 1) things)) first field
          ≡ place_of (things_in things) first field
      thing_next h = omega (arith, ap (λ z. place_of z first field) rest_things ∙ skip first field (thing_in x) (things_in (drop (i + 1) things)) h)

      pub thing_here : bytes_eq first.name x.name.now.name ≡ true → reading_faults (reading (things_in things) first field) ≡ []
          → before + position_or_len (is_meant first field) (parts_references x.name.now.name (parts_in x.parts)) ≡ place_of (things_in things) first field
      thing_here h known =
          omega (arith, ap (λ z. place_of z first field) rest_things ∙ hit first field (thing_in x) (things_in (drop (i + 1) things)) h (part_known h known))

      pub thing_within : bytes_eq first.name x.name.now.name ≡ true → reading_faults (reading (things_in things) first field) ≡ []
          → before + position_or_len (is_meant first field) (parts_references x.name.now.name (parts_in x.parts)) ≤ length (references (things_in things))
      thing_within h known = omega (arith, fits_here, own first field x.name.now.name (parts_in x.parts) h (part_known h known))
