-- The points of plants, in a list of the states of all of them.
use Rattle.std.proofs.Common.{◌≡◌, ◌∙◌, ℕ, zero, suc, ◌+◌, ◌*◌, ◌≤◌, ◌<◌, ℤ, List, [], ◌∷◌, length, take, drop, refl, sym, ap, arith, add-one}
use Rattle.std.specs.Prelude.{slice_index_or}
use Rattle.std.proofs.lemmas.List.{drop-drop, length-drop, length-take-le}
use Rattle.std.proofs.lemmas.Option.{same_Some, none-some}
use Rattle.sot_lists.specs.Places.{At}
use Rattle.sot_lang.specs.declared.tables.PlantInfo.{PlantInfo}
use Rattle.sot_lang.specs.declared.tables.ModuleInfo.{ModuleInfo}
use Rattle.sot_lang.specs.Tables.{Tables}
use Rattle.sot_lang.specs.TableRules.{MeetsTableRules}
use Rattle.sot_lang.proofs.Owners.{width_at}
use Rattle.sot_board.specs.Counts.{state_count}
use Rattle.sot_trace.proofs.StateCounts.{few_states}
use Rattle.sot_summary.specs.Outside.{points_in}

abbrev width : PlantInfo → ℕ
width plant = length plant.states.items

-- the states in front of a plant, and those up to it
front_suc : (plants : List PlantInfo) (i : ℕ) (plant : PlantInfo) → At plants i plant
    → state_count (take (suc i) plants) ≡ state_count (take i plants) + width plant
front_suc [] i plant at = absurd (none-some plant at)
front_suc (k ∷ ks) zero plant at = (let same = ap width (same_Some k plant at) in omega (arith, same))
front_suc (k ∷ ks) (suc i) plant at = (let rest = front_suc ks i plant at in omega (arith, rest))

pub front_more : (plants : List PlantInfo) (i : ℕ) (plant : PlantInfo) → At plants i plant
    → state_count (take (i + 1) plants) ≡ state_count (take i plants) + width plant
front_more plants i plant at = rw (add-one i) (front_suc plants i plant at)

pub front_inside : (plants : List PlantInfo) (i : ℕ) (plant : PlantInfo) → At plants i plant → state_count (take i plants) + width plant ≤ state_count plants
front_inside [] i plant at = absurd (none-some plant at)
front_inside (k ∷ ks) zero plant at = (let same = ap width (same_Some k plant at) in omega (arith, same))
front_inside (k ∷ ks) (suc i) plant at = (let rest = front_inside ks i plant at in omega (arith, rest))

-- a plant's point stands behind the states in front of it
pub point_at : (plants : List PlantInfo) (states : List ℤ) (i : ℕ) (plant : PlantInfo) → At plants i plant
    → slice_index_or (points_in plants states) i [] ≡ take (width plant) (drop (state_count (take i plants)) states)
point_at [] states i plant at = absurd (none-some plant at)
point_at (k ∷ ks) states zero plant at = ap (λ x. take (width x) states) (same_Some k plant at)
point_at (k ∷ ks) states (suc i) plant at =
    point_at ks (drop (width k) states) i plant at ∙ ap (take (width plant)) (drop-drop (state_count (take i ks)) (width k) states)

-- a tick has at most 400 states
pub few_in : (p : Tables) → MeetsTableRules p → (states : List ℤ) → length states ≡ state_count p.plants → length states ≤ 400
few_in p rules states size = (let few = few_states p rules in omega (arith, few, size, rules.plant_count))

-- the states of a module's plant are as wide as the plant, which has 1 to 4, and as the module's safe region
module _
    (p : Tables) (rules : MeetsTableRules p) (m : ℕ) (info : ModuleInfo) (is : At p.modules m info) (states : List ℤ) (plants : List PlantInfo) (own : List ℤ)
    (size : length states ≡ state_count p.plants)
    (same : plants ≡ p.plants) (owned : own ≡ slice_index_or (points_in plants states) info.plant [])
  where
    own_width : (plant : PlantInfo) → At p.plants info.plant plant → length own ≡ width plant
    own_width plant at =
        let inside = front_inside p.plants info.plant plant at in
        let front = state_count (take info.plant p.plants) in
        let here = owned ∙ ap (λ ks. slice_index_or (points_in ks states) info.plant []) same ∙ point_at p.plants states info.plant plant at in
        let behind = length-drop front states in
        let room : width plant ≤ length (drop front states) = omega (arith, inside, size, behind) in
        ap length here ∙ length-take-le (width plant) (drop front states) room

    pub module_width : length own ≡ info.safe.width
    module_width =
        let plant = rules.typed.plant_is m info is in
        own_width plant.0 plant.1 ∙ sym (width_at p.plants info.plant plant.0 plant.1) ∙ sym (rules.modules m info is).safe.width

    pub module_some : 0 < length own
    module_some =
        let plant = rules.typed.plant_is m info is in
        omega (arith, own_width plant.0 plant.1, (rules.plants info.plant plant.0 plant.1).some_state)

    pub module_few : length own ≤ 4
    module_few =
        let plant = rules.typed.plant_is m info is in
        omega (arith, own_width plant.0 plant.1, (rules.plants info.plant plant.0 plant.1).states)
