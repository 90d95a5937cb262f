-- Where a history leads, as far as its entries tell it: the modes, the numbers of all scalars and
-- the points of all plants, and no locals.
use Rattle.std.specs.Prelude.{ℕ, ℤ, List, [], ◌∷◌, map, slice_set, slice_get, ◌≡◌, length}
use Rattle.std.specs.Prelude.{slice_index_or}
use Rattle.std.specs.Option.{option_map_or}
use Rattle.sot_lists.specs.Places.{At}
use Rattle.sot_lang.specs.declared.tables.PlantInfo.{PlantInfo}
use Rattle.sot_lang.specs.Tables.{Tables}
use Rattle.sot_world.specs.Configurations.{Configuration}
use Rattle.sot_world.specs.declared.mode.Mode.{Mode}
use Rattle.sot_world.specs.declared.mode.Mode.TheVariants.{Sc}
use Rattle.sot_world.specs.Steps.{write_at, published}
use Rattle.sot_world.specs.HistoryEntry.{Logged, InputAt, FireAt, DecideAt, TickAt}
use Rattle.sot_trace.specs.Lines.{writes_of}
use Rattle.sot_summary.specs.Outside.{points_in}

-- a mode per module, a number per scalar, and a point per plant
pub record Scene : Type 0 where
  pub modes : List Mode
  pub scalars : List ℤ
  pub points : List (List ℤ)

-- what a configuration shows of itself
abbrev pub scene_of : Configuration → Scene
scene_of C = record { modes = C.modes; scalars = C.scalars; points = C.points }

-- the scene at the start: every mode Sc, the scalars as declared, the plants at these points
abbrev pub opening : Tables → List (List ℤ) → Scene
opening p start = record {
  modes = map (λ m. Sc) p.modules;
  scalars = map (λ i. i.init) p.scalars;
  points = start;
}

-- the first scalar of a topic
abbrev pub first_of : Tables → ℕ → ℕ
first_of p t = option_map_or (λ x. x.first) (slice_get p.topics t) 0

-- the numbers of all scalars after an entry: an input writes its value, and an enabled node
-- publishes what it drafted in range
abbrev pub scalars_after : Tables → Logged → List ℤ → List ℤ
scalars_after p (InputAt time topic value) xs = write_at (first_of p topic) value xs
scalars_after p (FireAt time n draft enabled) xs = published enabled p (writes_of p n) draft xs
scalars_after p (DecideAt time m mode) xs = xs
scalars_after p (TickAt time noise states) xs = xs

-- the scene after an entry
abbrev pub after : Tables → Logged → Scene → Scene
after p (InputAt time topic value) s =
    record s { scalars = scalars_after p (InputAt time topic value) s.scalars }
after p (FireAt time n draft enabled) s =
    record s { scalars = scalars_after p (FireAt time n draft enabled) s.scalars }
after p (DecideAt time m mode) s = record s { modes = slice_set s.modes m mode }
after p (TickAt time noise states) s = record s { points = points_in p.plants states }

-- the scene after some entries
abbrev pub scene_after : Tables → Scene → List Logged → Scene
scene_after p s [] = s
scene_after p s (x ∷ xs) = scene_after p (after p x s) xs

-- the scenes before each tick that entries tell, and the last one
abbrev pub moments : Tables → Scene → List Logged → List Scene
moments p s [] = s ∷ []
moments p s (TickAt time noise states ∷ xs) =
    s ∷ moments p (after p (TickAt time noise states) s) xs
moments p s (InputAt time topic value ∷ xs) =
    moments p (after p (InputAt time topic value) s) xs
moments p s (FireAt time n draft enabled ∷ xs) =
    moments p (after p (FireAt time n draft enabled) s) xs
moments p s (DecideAt time m mode ∷ xs) = moments p (after p (DecideAt time m mode) s) xs

-- a scene of this program has one entry for each of its modules, scalars and plants, and each point
-- is as wide as its plant
pub record IsSceneOf (p : Tables) (s : Scene) : Type 0 where
  pub modes : length s.modes ≡ length p.modules
  pub scalars : length s.scalars ≡ length p.scalars
  pub points : length s.points ≡ length p.plants
  pub widths : (k : ℕ) (plant : PlantInfo) → At p.plants k plant
      → length (slice_index_or s.points k []) ≡ length plant.states.items
