-- What an owner of code, a node or a plant, has by its place in the tables, and how many names it has.
use Rattle.std.proofs.Common.{◌≡◌, ℕ, zero, suc, ◌+◌, ◌*◌, ◌<◌, ◌≤◌, ℤ, pos, negsuc, Bool, true, false, List, [], ◌∷◌, ◌++◌, map, length, get_or, refl, sym, ap}
use Rattle.std.proofs.Common.{ap₂, ◌∙◌, subst, arith, length-append, ◌≤ℤ◌}
use Rattle.std.specs.Prelude.{replicate}
use Rattle.std.proofs.lemmas.List.{length-map, length-replicate}
use Rattle.std.proofs.lemmas.Option.{get_or_from_slice_get, same_Some, none-some}
use Rattle.sot_lists.specs.Places.{At}
use Rattle.sot_lists.proofs.Places.{at_map, index_or-map}
use Rattle.sot_box.specs.Sides.{Side, nought, AreOrdered}
use Rattle.sot_lang.specs.declared.act.Act.{Act}
use Rattle.sot_lang.specs.declared.term.Term.{Term}
use Rattle.sot_lang.specs.declared.tables.ScalarInfo.{ScalarInfo}
use Rattle.sot_lang.specs.declared.tables.PlantInfo.{PlantInfo}
use Rattle.sot_lang.specs.declared.tables.NodeInfo.{NodeInfo}
use Rattle.sot_lang.specs.declared.tables.StateInfo.{StateInfo}
use Rattle.sot_lang.specs.declared.tables.NoiseInfo.{NoiseInfo}
use Rattle.sot_lang.specs.declared.tables.LocalInfo.{LocalInfo}
use Rattle.sot_lang.specs.Tables.{Tables}
use Rattle.sot_lang.specs.Values.{is_true}
use Rattle.sot_lang.specs.Ranges.{range_of}
use Rattle.sot_lang.specs.OwnerNames.{width_of, seen_width, plant_truths, node_truths, is_truth_scalar, reads_truth}
use Rattle.sot_lang.specs.TermRules.{TermFits, TermsFit}
use Rattle.sot_lang.specs.TermPlaces.{HasPlaces, HavePlaces}
use Rattle.sot_lang.specs.ActRules.{ActFits, ActsFit}
use Rattle.sot_lang.specs.TableRules.{MeetsTableRules, IsCoded}
use Rattle.sot_lang.proofs.Places.{HasPlaces-TermFits, HavePlaces-TermsFit}

-- the range of a scalar, by what stands or was read at its place
pub range_at : (infos : List ScalarInfo) (k : ℕ) (info : ScalarInfo) → At infos k info → range_of infos k ≡ record { lo = info.lo; hi = info.hi }
range_at infos k info at =
    get_or_from_slice_get (map (λ i. record { lo = i.lo; hi = i.hi }) infos) k (record { lo = info.lo; hi = info.hi }) nought
    (at_map (λ i. let s : Side = record { lo = i.lo; hi = i.hi } in s) infos k info at)

pub range_of-get : (infos : List ScalarInfo) (k : ℕ) (d : ScalarInfo) → k < length infos
    → range_of infos k ≡ record { lo = (get_or infos k d).lo; hi = (get_or infos k d).hi }
range_of-get infos k d lt = index_or-map (λ i. let s : Side = record { lo = i.lo; hi = i.hi } in s) infos k d nought lt

-- how many state variables a plant has, by its place
pub width_at : (plants : List PlantInfo) (k : ℕ) (plant : PlantInfo) → At plants k plant → width_of plants k ≡ length plant.states.items
width_at [] k plant at = absurd (none-some plant at)
width_at (x ∷ xs) zero plant at = ap (λ z. length z.states.items) (same_Some x plant at)
width_at (x ∷ xs) (suc k) plant at = width_at xs k plant at

-- no plant has more than four, if none in the tables has
pub width_few : (plants : List PlantInfo) → ((k : ℕ) (plant : PlantInfo) → At plants k plant → length plant.states.items ≤ 4) → (k : ℕ) → width_of plants k ≤ 4
width_few [] h k = omega arith
width_few (plant ∷ rest) h zero = h 0 plant refl
width_few (plant ∷ rest) h (suc k) = width_few rest (λ i x at. h (suc i) x at) k

-- the plants that a plant sees have at most four state variables each
pub seen_few : (p : Tables) → MeetsTableRules p → (ks : List ℕ) → seen_width p.plants ks ≤ 4 * length ks
seen_few p rules [] = omega arith
seen_few p rules (k ∷ ks) =
    let a = width_few p.plants (λ i x at. (rules.plants i x at).states) k in
    let b = seen_few p rules ks in
    omega (arith, a, b)

-- the places of a plant's expressions are below the count of its names
pub plant_places : (p : Tables) (plant : PlantInfo) (ts : List Term) (n : ℕ) → TermsFit (plant_truths p plant) ts
    → n ≡ length plant.states.items + length plant.inputs.items + seen_width p.plants plant.sees.items + length plant.noise.items → HavePlaces n ts
plant_places p plant ts n h size =
    let a = map (λ (s : StateInfo). false) plant.states.items in
    let b = map (is_truth_scalar p.scalars) plant.inputs.items in
    let c = replicate (seen_width p.plants plant.sees.items) false in
    let d = map (λ (s : NoiseInfo). false) plant.noise.items in
    let names : length (plant_truths p plant) ≡ length plant.states.items + length plant.inputs.items + seen_width p.plants plant.sees.items
    + length plant.noise.items =
    length-append (a ++ b ++ c) d
    ∙ ap₂ (λ x y. x + y) (length-append (a ++ b) c ∙ ap₂ (λ x y. x + y)
    (length-append a b ∙ ap₂ (λ x y. x + y) (length-map plant.states.items (λ (s : StateInfo). false))
    (length-map plant.inputs.items (is_truth_scalar p.scalars))) (length-replicate (seen_width p.plants plant.sees.items) false))
    (length-map plant.noise.items (λ (s : NoiseInfo). false)) in
    subst (λ k. HavePlaces k ts) (names ∙ sym size) (HavePlaces-TermsFit (plant_truths p plant) ts h)

-- the places of a node's expressions are below the count of its names
pub node_places : (p : Tables) (node : NodeInfo) (t : Term) (n : ℕ) → TermFits (node_truths p node) t → length node.reads.items + length node.locals.items ≡ n
    → HasPlaces n t
node_places p node t n h size =
    let names : length (node_truths p node) ≡ n =
    length-append (map (reads_truth p.scalars) node.reads.items) (map (λ l. l.truth) node.locals.items)
    ∙ ap₂ (λ a b. a + b) (length-map node.reads.items (reads_truth p.scalars)) (length-map node.locals.items (λ (l : LocalInfo). l.truth)) ∙ size in
    subst (λ k. HasPlaces k t) names (HasPlaces-TermFits (node_truths p node) t h)

-- what is read at a place of the plants is the plant there
pub plant_is : (p : Tables) (k : ℕ) (plant info : PlantInfo) → At p.plants k plant → info ≡ get_or p.plants k info → plant ≡ info
plant_is p k plant info at is = sym (get_or_from_slice_get p.plants k plant info at) ∙ sym is

-- what is read at a place of the nodes is the node there
pub node_is : (p : Tables) (n : ℕ) (node info : NodeInfo) → At p.nodes n node → info ≡ get_or p.nodes n info → node ≡ info
node_is p n node info at is = sym (get_or_from_slice_get p.nodes n node info at) ∙ sym is

-- a node has one body
pub one_body : (node : NodeInfo) (us vs : List Act) → IsCoded node us → IsCoded node vs → us ≡ vs
one_body node us vs a b = sym a.2 ∙ ap (λ v. v.items) (same_Some a.0 b.0 (sym a.1 ∙ b.1)) ∙ b.2

-- what stands at a place of a body that fits
pub fits_at : (truths : List Bool) (n m : ℕ) (us : List Act) (i : ℕ) (one : Act) → ActsFit truths n m us → i < length us → one ≡ get_or us i one
    → ActFits truths n m one
fits_at truths n m [] i one h lt is = absurd (omega arith)
fits_at truths n m (a ∷ us) zero one h lt is = subst (ActFits truths n m) (sym is) h.0
fits_at truths n m (a ∷ us) (suc i) one h lt is = fits_at truths n m us i one h.1 (omega arith) is

-- every number but 0 is true
pub true_of_ne : (z : ℤ) → (z ≡ pos 0 → ⊥) → is_true z ≡ true
true_of_ne (pos zero) ne = absurd (ne refl)
true_of_ne (pos (suc n)) ne = refl
true_of_ne (negsuc n) ne = refl

-- the intervals of a plant's noise are in order
pub noise_ordered : (ds : List NoiseInfo) → ((i : ℕ) (d : NoiseInfo) → At ds i d → d.lo ≤ℤ d.hi)
    → AreOrdered (map (λ d. let r : Side = record { lo = d.lo; hi = d.hi } in r) ds)
noise_ordered [] each = tt
noise_ordered (d ∷ ds) each = (each 0 d refl, noise_ordered ds (λ i. each (suc i)))
