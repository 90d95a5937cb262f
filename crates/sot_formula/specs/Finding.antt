-- What references name, as it is found.
use Rattle.std.specs.Prelude.{ℕ, List, Bool, false, Option, Some, None, take, drop, slice_get, ◌+◌}
use Rattle.std.specs.List.{position}
use Rattle.std.specs.Option.{option_map_or, option_map, option_and_then}
use Rattle.std.specs.Str.{bytes_eq}
use Rattle.sot_lang.specs.declared.tables.TopicInfo.{TopicInfo}
use Rattle.sot_lang.specs.declared.tables.ScalarInfo.{ScalarInfo}
use Rattle.sot_lang.specs.declared.tables.PlantInfo.{PlantInfo}
use Rattle.sot_lang.specs.declared.tables.StateInfo.{StateInfo}
use Rattle.sot_lang.specs.declared.tables.ModuleInfo.{ModuleInfo}
use Rattle.sot_lang.specs.Tables.{Tables}
use Rattle.sot_formula.specs.declared.quantity.Quantity.TheVariants as quantities
use Rattle.sot_formula.specs.declared.finding.FoundQuantity.{FoundQuantity}
use Rattle.sot_formula.specs.Meanings.{scale_of}

-- the place of the first thing of this name
abbrev pub place_of : {A : Type 0} → (A → List ℕ) → List A → List ℕ → Option ℕ
place_of name things word = position (λ x. bytes_eq (name x) word) things

-- a scalar is the field of this name
abbrev pub is_field : List ℕ → ScalarInfo → Bool
is_field word info = option_map_or (λ n. bytes_eq n word) info.field false

abbrev pub found_scalar : ℕ → ScalarInfo → FoundQuantity
found_scalar k info = record { of = quantities.Scalar k; scale = scale_of info }

-- a scalar that is no field
abbrev pub plain_of : ℕ → ScalarInfo → Option FoundQuantity
plain_of k info = option_map_or (λ n. None) info.field (Some (found_scalar k info))

-- the topic of this name, if it is one number
abbrev pub plain_in : Tables → TopicInfo → Option FoundQuantity
plain_in p x = option_and_then (plain_of x.first) (slice_get p.scalars x.first)

unfoldable pub plain_named : Tables → List ℕ → Option FoundQuantity
plain_named p word =
    option_and_then (λ t. option_and_then (plain_in p) (slice_get p.topics t))
    (place_of (λ (x : TopicInfo). x.name) p.topics word)

-- a field of a topic
abbrev pub scalars_of : List ScalarInfo → ℕ → ℕ → List ScalarInfo
scalars_of infos first count = take count (drop first infos)

unfoldable pub field_in : List ScalarInfo → ℕ → ℕ → List ℕ → Option FoundQuantity
field_in infos first count word =
    option_and_then
    (λ i. option_map (found_scalar (first + i)) (slice_get (scalars_of infos first count) i))
    (position (is_field word) (scalars_of infos first count))

unfoldable pub field_named : Tables → List ℕ → List ℕ → Option FoundQuantity
field_named p word field =
    option_and_then
    (λ t. option_and_then (λ x. field_in p.scalars x.first x.count field) (slice_get p.topics t))
    (place_of (λ (x : TopicInfo). x.name) p.topics word)

-- a state variable of a plant
abbrev pub found_state : ℕ → ℕ → StateInfo → FoundQuantity
found_state k v info = record { of = quantities.State k v; scale = info.scale }

unfoldable pub variable_in : List StateInfo → ℕ → List ℕ → Option FoundQuantity
variable_in states k word =
    option_and_then (λ v. option_map (found_state k v) (slice_get states v))
    (place_of (λ (x : StateInfo). x.name) states word)

unfoldable pub variable_named : Tables → List ℕ → List ℕ → Option FoundQuantity
variable_named p word var =
    option_and_then
    (λ k. option_and_then (λ x. variable_in x.states.items k var) (slice_get p.plants k))
    (place_of (λ (x : PlantInfo). x.name) p.plants word)

-- a field, or else a state variable
abbrev pub or_else : Option FoundQuantity → Option FoundQuantity → Option FoundQuantity
or_else (Some x) other = Some x
or_else None other = other

unfoldable pub part_named : Tables → List ℕ → List ℕ → Option FoundQuantity
part_named p word part = or_else (field_named p word part) (variable_named p word part)

-- the mode of a module
unfoldable pub module_named : Tables → List ℕ → Option FoundQuantity
module_named p word =
    option_map (λ m. record { of = quantities.Mode m; scale = 0 })
    (place_of (λ (x : ModuleInfo). x.name) p.modules word)
