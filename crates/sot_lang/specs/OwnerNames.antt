-- The names that the expressions of an owner may read, in order: of a node what it reads and then
-- its locals; of a plant its state variables, its inputs, the states of the plants that it sees,
-- and its disturbances.
use Rattle.std.specs.Prelude.{ℕ, zero, suc, ◌+◌, Bool, false, List, [], ◌∷◌, ◌++◌, slice_index_or}
use Rattle.std.specs.Prelude.{map, length, replicate}
use Rattle.sot_lang.specs.declared.tables.ScalarInfo.{ScalarInfo}
use Rattle.sot_lang.specs.declared.tables.PlantInfo.{PlantInfo}
use Rattle.sot_lang.specs.declared.tables.NodeInfo.{NodeInfo}
use Rattle.sot_lang.specs.declared.tables.Slot.{Slot}
use Rattle.sot_lang.specs.declared.tables.Slot.TheVariants.{Scalar, State}
use Rattle.sot_lang.specs.Tables.{Tables}

-- how many state variables a plant has, by its place
abbrev pub width_of : List PlantInfo → ℕ → ℕ
width_of [] k = 0
width_of (plant ∷ rest) zero = length plant.states.items
width_of (plant ∷ rest) (suc k) = width_of rest k

-- how many state variables these plants have together
abbrev pub seen_width : List PlantInfo → List ℕ → ℕ
seen_width plants [] = 0
seen_width plants (k ∷ ks) = width_of plants k + seen_width plants ks

-- whether a scalar is a truth value, by its place
abbrev pub is_truth_scalar : List ScalarInfo → ℕ → Bool
is_truth_scalar infos k = slice_index_or (map (λ i. i.truth) infos) k false

-- whether a number that is read is a truth value; the states of plants are numbers
abbrev pub reads_truth : List ScalarInfo → Slot → Bool
reads_truth infos (Scalar k) = is_truth_scalar infos k
reads_truth infos (State k v) = false

-- which of a node's names are truth values
abbrev pub node_truths : Tables → NodeInfo → List Bool
node_truths p node =
    map (reads_truth p.scalars) node.reads.items ++ map (λ l. l.truth) node.locals.items

-- which of a plant's names are truth values: of its inputs some, of the others none
abbrev pub plant_truths : Tables → PlantInfo → List Bool
plant_truths p plant =
    map (λ s. false) plant.states.items ++ map (is_truth_scalar p.scalars) plant.inputs.items
    ++ replicate (seen_width p.plants plant.sees.items) false ++ map (λ d. false) plant.noise.items
