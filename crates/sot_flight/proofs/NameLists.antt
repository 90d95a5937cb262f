-- Keys among the names of things, and things read one after another.
use Rattle.std.proofs.Common.{◌≡◌, ℕ, ◌+◌, ◌<◌, ◌≤◌, List, [], ◌∷◌, length, map, drop, get_or, Bool, true, false, ◌||◌, ◌&&◌, bytes_eq, refl, sym, ap, ◌∙◌}
use Rattle.std.specs.Prelude.{filter}
use Rattle.std.specs.List.{list_any}
use Rattle.std.proofs.Math.ListN.{drop_of_length-le}
use Rattle.std.proofs.lemmas.Option.{slice_get_read}
use Rattle.sot_lists.proofs.Places.{drop_at}
use Rattle.sot_lang.specs.declared.tables.PlantInfo.{PlantInfo}
use Rattle.sot_lang.specs.declared.tables.NodeInfo.{NodeInfo}
use Rattle.sot_json.specs.Json.{is_among}
use Rattle.sot_flight.specs.FlightFormat.{plant_names, has_noise, is_external, node_names}

module _ {X : Type 0} (name : X → List ℕ) (key : List ℕ) where
  names_from : (xs : List X) (i : ℕ) (x : X) (b : Bool) → i < length xs → x ≡ get_or xs i x → bytes_eq key (name x) ≡ b
      → is_among key (map name (drop i xs)) ≡ (b || is_among key (map name (drop (i + 1) xs)))
  names_from xs i x b lt is same = rw (drop_at xs i x (slice_get_read xs (length xs) i x refl lt is), same) refl

  one_more : (test : X → Bool) (x : X) (xs : List X) (a b : Bool) → test x ≡ a → (test x && bytes_eq key (name x)) ≡ b
      → is_among key (map name (filter test (x ∷ xs))) ≡ (b || is_among key (map name (filter test xs)))
  one_more test x xs true b is same =
      let e : bytes_eq key (name x) ≡ b = ap (λ a. a && bytes_eq key (name x)) (sym is) ∙ same in
      rw (is, e) refl
  one_more test x xs false b is same =
      let e : false ≡ b = ap (λ a. a && bytes_eq key (name x)) (sym is) ∙ same in
      rw (is, ← e) refl

  some_names_from : (test : X → Bool) (xs : List X) (i : ℕ) (x : X) (b : Bool) → i < length xs → x ≡ get_or xs i x → (test x && bytes_eq key (name x)) ≡ b
      → is_among key (map name (filter test (drop i xs))) ≡ (b || is_among key (map name (filter test (drop (i + 1) xs))))
  some_names_from test xs i x b lt is same =
      rw (drop_at xs i x (slice_get_read xs (length xs) i x refl lt is)) (one_more test x (drop (i + 1) xs) _ b refl same)

pub plants_from : (key : List ℕ) (plants : List PlantInfo) (i : ℕ) (plant : PlantInfo) (b : Bool) → i < length plants → plant ≡ get_or plants i plant
    → bytes_eq key plant.name ≡ b → is_among key (plant_names (drop i plants)) ≡ (b || is_among key (plant_names (drop (i + 1) plants)))
plants_from key plants i plant b lt is same = names_from (λ k. k.name) key plants i plant b lt is same

pub plants_past : (key : List ℕ) (plants : List PlantInfo) (i : ℕ) → length plants ≤ i → is_among key (plant_names (drop i plants)) ≡ false
plants_past key plants i le = rw (drop_of_length-le plants le) refl

pub disturbed_from : (key : List ℕ) (plants : List PlantInfo) (i : ℕ) (plant : PlantInfo) (b : Bool) → i < length plants → plant ≡ get_or plants i plant
    → (has_noise plant && bytes_eq key plant.name) ≡ b → is_among key (plant_names (filter has_noise (drop i plants)))
    ≡ (b || is_among key (plant_names (filter has_noise (drop (i + 1) plants))))
disturbed_from key plants i plant b lt is same = some_names_from (λ k. k.name) key has_noise plants i plant b lt is same

pub disturbed_past : (key : List ℕ) (plants : List PlantInfo) (i : ℕ) → length plants ≤ i
    → is_among key (plant_names (filter has_noise (drop i plants))) ≡ false
disturbed_past key plants i le = rw (drop_of_length-le plants le) refl

pub external_from : (key : List ℕ) (nodes : List NodeInfo) (i : ℕ) (node : NodeInfo) (b : Bool) → i < length nodes → node ≡ get_or nodes i node
    → (is_external node && bytes_eq key node.name) ≡ b → is_among key (node_names (filter is_external (drop i nodes)))
    ≡ (b || is_among key (node_names (filter is_external (drop (i + 1) nodes))))
external_from key nodes i node b lt is same = some_names_from (λ n. n.name) key is_external nodes i node b lt is same

pub external_past : (key : List ℕ) (nodes : List NodeInfo) (i : ℕ) → length nodes ≤ i → is_among key (node_names (filter is_external (drop i nodes))) ≡ false
external_past key nodes i le = rw (drop_of_length-le nodes le) refl

pub any_map : {X A : Type 0} (test : A → Bool) (of : X → A) (xs : List X) → list_any test (map of xs) ≡ list_any (λ x. test (of x)) xs
any_map test of [] = refl
any_map test of (x ∷ xs) = ap (λ b. test (of x) || b) (any_map test of xs)
