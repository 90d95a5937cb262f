-- The names of scalars that a trace prints, by their places.
use Rattle.std.specs.Prelude.{ℕ, List, [], ◌++◌, Option, Some, None, slice_get, codes}
use Rattle.std.specs.Option.{option_map_or}
use Rattle.sot_lang.specs.Tables.{Tables}
use Rattle.sot_lang.specs.Names.{topic_name}

-- a point and the name of a field; a topic that is one number has none
abbrev pub field_part : Option (List ℕ) → List ℕ
field_part None = []
field_part (Some field) = codes "." ++ field

-- a scalar: `topic`, or `topic.field`
abbrev pub scalar_name : Tables → ℕ → List ℕ
scalar_name p k =
    option_map_or (λ s. topic_name p s.topic ++ field_part s.field) (slice_get p.scalars k) []
