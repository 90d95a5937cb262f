-- The names of topics, plants, nodes and modules, by their places; none where nothing stands there.
use Rattle.std.specs.Prelude.{ℕ, List, [], slice_get}
use Rattle.std.specs.Option.{option_map_or}
use Rattle.sot_lang.specs.Tables.{Tables}

abbrev pub topic_name : Tables → ℕ → List ℕ
topic_name p t = option_map_or (λ x. x.name) (slice_get p.topics t) []

abbrev pub plant_name : Tables → ℕ → List ℕ
plant_name p k = option_map_or (λ x. x.name) (slice_get p.plants k) []

abbrev pub node_name : Tables → ℕ → List ℕ
node_name p n = option_map_or (λ x. x.name) (slice_get p.nodes n) []

abbrev pub module_name : Tables → ℕ → List ℕ
module_name p m = option_map_or (λ x. x.name) (slice_get p.modules m) []
