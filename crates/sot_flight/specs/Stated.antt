-- What a flight states for a tick, and for a firing of a node, each by its number from 0 on.
use Rattle.std.specs.Prelude.{ℕ, zero, suc, ℤ, ◌*◌, List, [], ◌∷◌, length, map, Option, Some, None}
use Rattle.sot_lang.specs.declared.tables.PlantInfo.{PlantInfo}
use Rattle.sot_lang.specs.declared.tables.NodeInfo.{NodeInfo}
use Rattle.sot_lang.specs.Tables.{Tables}
use Rattle.sot_lang.specs.Ranges.{bounds, write_ranges}
use Rattle.sot_flight.specs.Plans.{Plan, Sway, Still, Low, High, Listed, Drawn, Crew, Coded, Script}
use Rattle.sot_flight.specs.Plans.{Wild, Guest}
use Rattle.sot_flight.specs.Draws.{drawn_from, turn}

-- the row of that number, and past the last row that one again
abbrev pub row_at : {A : Type 0} → List (List A) → ℕ → List A
row_at [] t = []
row_at (x ∷ []) t = x
row_at (x ∷ y ∷ rows) zero = x
row_at (x ∷ y ∷ rows) (suc t) = row_at (y ∷ rows) t

-- the disturbances of a plant for tick t
abbrev pub noise_of : PlantInfo → Sway → ℕ → List ℤ
noise_of plant Still t = []
noise_of plant Low t = map (λ r. r.lo) (bounds plant)
noise_of plant High t = map (λ r. r.hi) (bounds plant)
noise_of plant (Listed rows) t = row_at rows t
noise_of plant (Drawn spread seed stream) t =
    drawn_from spread seed stream (turn spread t * length plant.noise.items) (bounds plant)

-- the disturbances of each of these plants for tick t
abbrev pub noises : List PlantInfo → List Sway → ℕ → List (List ℤ)
noises [] sways t = []
noises (plant ∷ plants) [] t = []
noises (plant ∷ plants) (sway ∷ sways) t = noise_of plant sway t ∷ noises plants sways t

-- the disturbances of all plants for tick t
abbrev pub stated_noise : Tables → Plan → ℕ → List (List ℤ)
stated_noise p f t = noises p.plants f.sways t

-- the draft of a node's firing f, with a number or nothing for each scalar that it writes; nothing
-- is stated where its own code or a guest drafts
abbrev pub draft_of : Tables → NodeInfo → Crew → ℕ → Option (List (Option ℤ))
draft_of p node Coded f = None
draft_of p node (Script drafts) f = Some (row_at drafts f)
draft_of p node (Wild spread seed stream) f =
    Some (map Some (drawn_from spread seed stream (turn spread f * length node.writes.items)
    (write_ranges p node)))
draft_of p node (Guest index) f = None
