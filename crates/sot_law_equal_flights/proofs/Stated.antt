-- What a flight states is the same of tables that look the same.
use Rattle.std.proofs.Common.{◌≡◌, ℕ, ◌*◌, List, [], ◌∷◌, Some, map, length, refl, ap}
use Rattle.sot_box.specs.Sides.{Side}
use Rattle.sot_lang.specs.declared.tables.PlantInfo.{PlantInfo}
use Rattle.sot_lang.specs.declared.tables.NodeInfo.{NodeInfo}
use Rattle.sot_lang.specs.Tables.{Tables}
use Rattle.sot_flight.specs.Plans.{Sway, Still, Low, High, Listed, Drawn, Crew, Coded, Script, Wild, Guest}
use Rattle.sot_flight.specs.Stated.{noise_of, noises, draft_of}
use Rattle.sot_flight.specs.Draws.{drawn_from, turn}
use Rattle.sot_typing.specs.Resolved.{plant_seen, node_seen, tables_seen}
use Rattle.sot_law_equal_flights.proofs.Parts.{bounds_same, write_ranges_same}

noise_same : (x y : PlantInfo) → plant_seen x ≡ plant_seen y → (sway : Sway) (t : ℕ) → noise_of x sway t ≡ noise_of y sway t
noise_same x y alike Still t = refl
noise_same x y alike Low t = ap (map (λ (r : Side). r.lo)) (bounds_same x y alike)
noise_same x y alike High t = ap (map (λ (r : Side). r.hi)) (bounds_same x y alike)
noise_same x y alike (Listed rows) t = refl
noise_same x y alike (Drawn spread seed stream) t = λ i. drawn_from spread seed stream (turn spread t * length (alike i).noise) (bounds_same x y alike i)

-- the disturbances of plants that look the same
pub noises_same : (xs ys : List PlantInfo) → map plant_seen xs ≡ map plant_seen ys → (sways : List Sway) (t : ℕ) → noises xs sways t ≡ noises ys sways t
noises_same [] [] same sways t = refl
noises_same [] (y ∷ ys) same sways t = absurd cc
noises_same (x ∷ xs) [] same sways t = absurd cc
noises_same (x ∷ xs) (y ∷ ys) same [] t = refl
noises_same (x ∷ xs) (y ∷ ys) same (sway ∷ sways) t =
    let heads : plant_seen x ≡ plant_seen y = cc in
    let tails : map plant_seen xs ≡ map plant_seen ys = cc in
    λ i. noise_same x y heads sway t i ∷ noises_same xs ys tails sways t i

-- the drafts of nodes that look the same
pub draft_same : (t u : Tables) → tables_seen t ≡ tables_seen u → (x y : NodeInfo) → node_seen x ≡ node_seen y → (crew : Crew) (f : ℕ)
    → draft_of t x crew f ≡ draft_of u y crew f
draft_same t u same x y alike Coded f = refl
draft_same t u same x y alike (Script drafts) f = refl
draft_same t u same x y alike (Wild spread seed stream) f =
    λ i. Some (map Some (drawn_from spread seed stream (turn spread f * length (alike i).writes) (write_ranges_same t u same x y alike i)))
draft_same t u same x y alike (Guest index) f = refl
