-- What the flight of a program states fits the program.
use Rattle.std.proofs.Common.{◌≡◌, ℕ, zero, suc, ◌+◌, ◌*◌, ◌≤◌, ◌<◌, ◌≤ℤ◌, ℤ, Option, List, [], ◌∷◌, ◌++◌, length, map, take, Some, refl, sym, ap, ap₂, ◌∙◌}
use Rattle.std.proofs.Common.{subst, arith, append_assoc, length-append}
use Rattle.std.specs.Prelude.{slice_index_or}
use Rattle.std.proofs.lemmas.Int.{ints}
use Rattle.std.proofs.lemmas.Option.{none-some, same_Some, slice_get_within, get_or_from_slice_get}
use Rattle.std.proofs.lemmas.List.{length-map, append-nil}
use Rattle.sot_lists.specs.Places.{At}
use Rattle.sot_lists.proofs.Places.{at_below, at_mapped}
use Rattle.sot_box.specs.Sides.{Side}
use Rattle.sot_box.specs.Boxes.{IsWithin, lows, highs}
use Rattle.sot_box.proofs.Within.{within-width}
use Rattle.sot_lang.specs.declared.tables.NoiseInfo.{NoiseInfo}
use Rattle.sot_lang.specs.declared.tables.PlantInfo.{PlantInfo}
use Rattle.sot_lang.specs.declared.tables.NodeInfo.{NodeInfo}
use Rattle.sot_lang.specs.Tables.{Tables}
use Rattle.sot_lang.specs.TableRules.{MeetsTableRules}
use Rattle.sot_lang.specs.Ranges.{bounds, range_of, write_ranges}
use Rattle.sot_lang.specs.Ticks.{joined}
use Rattle.sot_flight.specs.Plans.{Plan, Sway, Still, Low, High, Listed, Drawn, Crew, Coded, Script, Wild, Guest}
use Rattle.sot_flight.specs.Draws.{drawn_from, turn}
use Rattle.sot_flight.specs.Stated.{row_at, noise_of, noises, stated_noise, draft_of}
use Rattle.sot_flight.specs.Fits.{FitsSway, FitsCrew, FitsFlight}
use Rattle.sot_flight.specs.NoiseRules.{HasNarrowNoise}
use Rattle.sot_flight.proofs.Drawn.{length-drawn_from, drawn_within}
use Rattle.sot_flight.proofs.Bounds.{length-bounds, length-noise_drawn}
use Rattle.sot_flight.proofs.Listed.{row_among}

-- the disturbances of a plant are few, with narrow bounds
pub narrow_noise : (p : Tables) → MeetsTableRules p → (k : ℕ) (plant : PlantInfo) → At p.plants k plant → HasNarrowNoise plant
narrow_noise p rules k plant at = (let r = rules.plants k plant at in record { few = r.noise; narrow = λ i info is. (r.noise_ranges i info is).1 })

listed_within : (plant : PlantInfo) (rows : List (List ℤ)) (t : ℕ) → FitsSway plant (Listed rows) → IsWithin (bounds plant) (row_at rows t)
listed_within plant rows t fits = (let k = row_among rows t fits.0 in fits.1 k.0 _ k.1)

-- a row has a number for each disturbance
pub listed_size : (plant : PlantInfo) (rows : List (List ℤ)) (t : ℕ) → FitsSway plant (Listed rows) → length (row_at rows t) ≡ length plant.noise.items
listed_size plant rows t fits = within-width (bounds plant) (row_at rows t) (listed_within plant rows t fits) ∙ length-bounds plant

-- so have the stated disturbances of a tick
pub noise_size : (plant : PlantInfo) (sway : Sway) (t : ℕ) → FitsSway plant sway → length (noise_of plant sway t) ≡ length plant.noise.items
noise_size plant Still t fits = ap length (sym fits)
noise_size plant Low t fits = length-map (bounds plant) (λ (r : Side). r.lo) ∙ length-bounds plant
noise_size plant High t fits = length-map (bounds plant) (λ (r : Side). r.hi) ∙ length-bounds plant
noise_size plant (Listed rows) t fits = listed_size plant rows t fits
noise_size plant (Drawn spread seed stream) t fits = length-noise_drawn plant spread seed stream _

-- what is stated for a plant, by its place
pub noises_at : (plants : List PlantInfo) (sways : List Sway) (t k : ℕ) (plant : PlantInfo) (sway : Sway) → At plants k plant → At sways k sway
    → At (noises plants sways t) k (noise_of plant sway t)
noises_at [] sways t k plant sway at is = absurd (none-some plant at)
noises_at (x ∷ plants) [] t k plant sway at is = absurd (none-some sway is)
noises_at (x ∷ plants) (y ∷ sways) t zero plant sway at is = ap Some (ap₂ (λ a b. noise_of a b t) (same_Some x plant at) (same_Some y sway is))
noises_at (x ∷ plants) (y ∷ sways) t (suc k) plant sway at is = noises_at plants sways t k plant sway at is

pub length-noises : (plants : List PlantInfo) (sways : List Sway) (t : ℕ) → length sways ≡ length plants → length (noises plants sways t) ≡ length plants
length-noises [] sways t size = refl
length-noises (plant ∷ plants) [] t size = absurd (omega arith)
length-noises (plant ∷ plants) (sway ∷ sways) t size = ap suc (length-noises plants sways t (omega arith))

-- one list more is joined
pub joined_more : (ss : List (List ℤ)) (k : ℕ) (s : List ℤ) → At ss k s → joined (take (k + 1) ss) ≡ joined (take k ss) ++ s
joined_more ss k s at = (let e : suc k ≡ k + 1 = omega arith in ap (λ n. joined (take n ss)) (sym e) ∙ from ss k at)
  where
    from : (rs : List (List ℤ)) (n : ℕ) → At rs n s → joined (take (suc n) rs) ≡ joined (take n rs) ++ s
    from [] n is = absurd (none-some s is)
    from (r ∷ rs) zero is = (let e = same_Some r s is in rw e (simp (append-nil)))
    from (r ∷ rs) (suc n) is = ap (λ l. r ++ l) (from rs n is) ∙ sym (append_assoc r (joined (take n rs)) s)

-- .. and there is room for it
pub joined_room : (ss : List (List ℤ)) (k : ℕ) (s : List ℤ) → At ss k s → length (joined (take k ss)) + length s ≤ length (joined ss)
joined_room [] k s at = absurd (none-some s at)
joined_room (r ∷ rs) zero s at = omega (arith, ap length (same_Some r s at), length-append r (joined rs))
joined_room (r ∷ rs) (suc k) s at = omega (arith, joined_room rs k s at, length-append r (joined (take k rs)), length-append r (joined rs))

lows_within : (rs : List Side) → ((i : ℕ) (r : Side) → At rs i r → r.lo ≤ℤ r.hi) → IsWithin rs (lows rs)
lows_within [] ordered = tt
lows_within (r ∷ rs) ordered = (omega (arith, ints), ordered 0 r refl, lows_within rs (λ i s at. ordered (suc i) s at))

highs_within : (rs : List Side) → ((i : ℕ) (r : Side) → At rs i r → r.lo ≤ℤ r.hi) → IsWithin rs (highs rs)
highs_within [] ordered = tt
highs_within (r ∷ rs) ordered = (ordered 0 r refl, omega (arith, ints), highs_within rs (λ i s at. ordered (suc i) s at))

ordered_bounds : (plant : PlantInfo) → HasNarrowNoise plant → (i : ℕ) (r : Side) → At (bounds plant) i r → r.lo ≤ℤ r.hi
ordered_bounds plant narrow i r at =
    let d = at_mapped (λ d. let s : Side = record { lo = d.lo; hi = d.hi } in s) plant.noise.items i r at in
    subst (λ (s : Side). s.lo ≤ℤ s.hi) d.2 (narrow.narrow i d.0 d.1).0

-- the stated disturbances of a tick are in the bounds of the plant
pub noise_within : (plant : PlantInfo) (sway : Sway) (t : ℕ) → HasNarrowNoise plant → FitsSway plant sway → IsWithin (bounds plant) (noise_of plant sway t)
noise_within plant Still t narrow fits =
    subst (λ (ds : List NoiseInfo). IsWithin (map (λ d. let s : Side = record { lo = d.lo; hi = d.hi } in s) ds) []) (sym fits) tt
noise_within plant Low t narrow fits = lows_within (bounds plant) (ordered_bounds plant narrow)
noise_within plant High t narrow fits = highs_within (bounds plant) (ordered_bounds plant narrow)
noise_within plant (Listed rows) t narrow fits = listed_within plant rows t fits
noise_within plant (Drawn spread seed stream) t narrow fits = drawn_within spread seed stream _ (bounds plant) (ordered_bounds plant narrow)

-- what a flight states for a plant, by its place
pub stated_at : (p : Tables) (f : Plan) (t k : ℕ) (plant : PlantInfo) (sway : Sway) → At p.plants k plant → At f.sways k sway
    → slice_index_or (stated_noise p f t) k [] ≡ noise_of plant sway t
stated_at p f t k plant sway at is = get_or_from_slice_get (stated_noise p f t) k (noise_of plant sway t) [] (noises_at p.plants f.sways t k plant sway at is)

module _ (p : Tables) (guests : ℕ) (f : Plan) (fits : FitsFlight p guests f) where
  -- a plant has a sway, which fits it
  pub sway_is : (k : ℕ) (plant : PlantInfo) → At p.plants k plant → (sway : Sway) × At f.sways k sway × FitsSway plant sway
  sway_is k plant at =
      let lt : k < length f.sways = omega (arith, slice_get_within p.plants k plant at, fits.sways) in
      let s = at_below f.sways k lt in
      (s.0, s.1, fits.swayed k plant s.0 at s.1)

  -- disturbances are stated for each plant ..
  pub stated_length : (t : ℕ) → length (stated_noise p f t) ≡ length p.plants
  stated_length t = length-noises p.plants f.sways t fits.sways

  -- .. one a disturbance of it ..
  pub stated_size : (t k : ℕ) (plant : PlantInfo) → At p.plants k plant → length (slice_index_or (stated_noise p f t) k []) ≡ length plant.noise.items
  stated_size t k plant at =
      let s = sway_is k plant at in
      ap length (stated_at p f t k plant s.0 at s.1) ∙ noise_size plant s.0 t s.2

  -- .. in its bounds
  pub stated_within : MeetsTableRules p → (t k : ℕ) (plant : PlantInfo) → At p.plants k plant
      → IsWithin (bounds plant) (slice_index_or (stated_noise p f t) k [])
  stated_within rules t k plant at =
      let s = sway_is k plant at in
      subst (IsWithin (bounds plant)) (sym (stated_at p f t k plant s.0 at s.1)) (noise_within plant s.0 t (narrow_noise p rules k plant at) s.2)

  -- there are no more inputs than events
  pub inputs_few : length f.inputs ≤ 200000
  inputs_few = omega (arith, fits.events, fits.few_events)

  -- a node has a crew, which fits it
  pub crew_is : (n : ℕ) (node : NodeInfo) → At p.nodes n node → (crew : Crew) × At f.crews n crew × FitsCrew node crew
  crew_is n node at =
      let lt : n < length f.crews = omega (arith, slice_get_within p.nodes n node at, fits.crews) in
      let s = at_below f.crews n lt in
      (s.0, s.1, fits.crewed n node s.0 at s.1)

-- a stated draft has as many slots as the node writes
pub draft_size : (p : Tables) (node : NodeInfo) (crew : Crew) (i : ℕ) (draft : List (Option ℤ)) → FitsCrew node crew → draft_of p node crew i ≡ Some draft
    → length draft ≡ length node.writes.items
draft_size p node Coded i draft fits is = absurd cc
draft_size p node (Script drafts) i draft fits is = (let k = row_among drafts i fits.1 in ap length (sym (same_Some _ draft is)) ∙ fits.2 k.0 _ k.1)
draft_size p node (Wild spread seed stream) i draft fits is =
    let list = drawn_from spread seed stream (turn spread i * length node.writes.items) (write_ranges p node) in
    ap length (sym (same_Some _ draft is)) ∙ length-map list Some ∙ length-drawn_from spread seed stream _ (write_ranges p node)
    ∙ length-map node.writes.items (range_of p.scalars)
draft_size p node (Guest index) i draft fits is = absurd cc
