-- What a step does to the parts of a configuration, part by part.
use Rattle.std.specs.Prelude.{ℕ, ℤ, pos, Bool, true, false, not, List, [], slice_index_or, ◌≡◌, ◌⊎◌}
use Rattle.std.specs.Prelude.{◌↔◌, ◌<◌, Ok, Result, Option, Some, None, map, length}
use Rattle.sot_box.specs.Sides.{Side}
use Rattle.sot_lang.specs.declared.act.Act.{Act}
use Rattle.sot_lang.specs.declared.tables.NodeInfo.{NodeInfo}
use Rattle.sot_lang.specs.declared.tables.ModuleInfo.{ModuleInfo}
use Rattle.sot_lang.specs.declared.tables.PlantInfo.{PlantInfo}
use Rattle.sot_lang.specs.declared.tables.Slot.{Slot}
use Rattle.sot_lang.specs.declared.tables.Slot.TheVariants.{Scalar, State}
use Rattle.sot_lang.specs.Tables.{Tables}
use Rattle.sot_lang.specs.TableRules.{IsCoded}
use Rattle.sot_lang.specs.Ranges.{local_ranges, write_ranges}
use Rattle.sot_lang.specs.Bodies as bodies
use Rattle.sot_lang.specs.Readings.{reading}
use Rattle.sot_lang.specs.Ticks.{next_state, joined}
use Rattle.sot_lists.specs.Places.{At}
use Rattle.sot_box.specs.Regions.{IsInRegion}
use Rattle.sot_tube.specs.Tubes.{Keeps}
use Rattle.sot_code.specs.declared.fired.Fired.{Fired}
use Rattle.sot_lang.specs.declared.trap.Trap.{Trap}
use Rattle.sot_code.specs.Recorded.{in_slots}
use Rattle.sot_world.specs.declared.role.Role.{Role}
use Rattle.sot_world.specs.declared.role.Role.TheVariants.{Free, Advanced, Safe}
use Rattle.sot_world.specs.Configurations.{Mode, Ac, Sc}
use Rattle.sot_world.specs.Steps.{put}

-- the mode after a decision from this mode, with the module's plant at this point
abbrev pub IsNextMode : Tables → ℕ → ModuleInfo → Mode → List ℤ → Mode → Type 0
IsNextMode p jitter a mode s next =
    (next ≡ Ac) ↔ (((mode ≡ Sc) × IsInRegion a.safer.boxes s) ⊎ ((mode ≡ Ac) × Keeps p jitter a s))

abbrev pub is_ac : Mode → Bool
is_ac Ac = true
is_ac Sc = false

-- whether a node of this role is enabled, with the modules in these modes
abbrev pub role_enables : Role → List Mode → Bool
role_enables Free modes = true
role_enables (Advanced m) modes = is_ac (slice_index_or modes m Sc)
role_enables (Safe m) modes = not (is_ac (slice_index_or modes m Sc))

-- the module of a role is one of so many
abbrev pub IsOfModule : Role → ℕ → Type 0
IsOfModule Free count = Unit {0}
IsOfModule (Advanced m) count = m < count
IsOfModule (Safe m) count = m < count

-- there is a number in a slot, of these scalars and these points
abbrev pub IsThere : List ℤ → List (List ℤ) → Slot → Type 0
IsThere scalars points (Scalar k) = k < length scalars
IsThere scalars points (State k v) = (k < length points) × (v < length (slice_index_or points k []))

-- there is a number in each of these slots
abbrev pub AreThere : List ℤ → List (List ℤ) → List Slot → Type 0
AreThere scalars points slots =
    (i : ℕ) (slot : Slot) → At slots i slot → IsThere scalars points slot

-- what is drafted for a scalar is put there, if it is a number
abbrev pub put_drafted : Side → ℕ → Option ℤ → List ℤ → List ℤ
put_drafted r k None xs = xs
put_drafted r k (Some z) xs = put r k z xs

-- the body of a coded node ends on these numbers, with no trap
pub record Runs (p : Tables) (n : ℕ) (scalars : List ℤ) (points : List (List ℤ)) (locals : List ℤ) :
    Type 0 where
  pub node : NodeInfo
  pub acts : List Act
  pub is : At p.nodes n node
  pub coded : IsCoded node acts
  pub there : AreThere scalars points node.reads.items
  pub locals_are : length locals ≡ length node.locals.items
  pub fired : bodies.Fired
  pub runs : bodies.execution acts (local_ranges node) (write_ranges p node)
      (reading node scalars points) locals ≡ Ok fired

-- what the body gives, with its draft in eight slots
abbrev pub IsRun : Tables → ℕ → List ℤ → List (List ℤ) → List ℤ → Fired → Type 0
IsRun p n scalars points locals result =
    (node : NodeInfo) (acts : List Act) (fired : bodies.Fired) → At p.nodes n node
    → IsCoded node acts
    → bodies.execution acts (local_ranges node) (write_ranges p node) (reading node scalars points)
    locals ≡ Ok fired
    → (result.locals ≡ fired.locals) × (result.draft ≡ in_slots fired.draft)

-- the body ends with no trap, and gives this
abbrev pub HasRun : Tables → ℕ → List ℤ → List (List ℤ) → List ℤ → Result Fired Trap → Type 0
HasRun p n scalars points locals result =
    (fired : Fired) × (result ≡ Ok fired) × IsRun p n scalars points locals fired

-- the numbers of a plant's inputs, and the points of the plants that it sees
abbrev pub held_of : PlantInfo → List ℤ → List ℤ
held_of plant scalars = map (λ k. slice_index_or scalars k (pos 0)) plant.inputs.items

abbrev pub seen_of : PlantInfo → List (List ℤ) → List ℤ
seen_of plant points = joined (map (λ k. slice_index_or points k []) plant.sees.items)

-- a plant's next point, from these scalars and points and with these disturbances
abbrev pub IsMoved : Tables → ℕ → List ℤ → List (List ℤ) → List ℤ → List ℤ → Type 0
IsMoved p k scalars points noise next =
    (plant : PlantInfo) → At p.plants k plant
    → next_state plant (slice_index_or points k []) (held_of plant scalars) (seen_of plant points)
    noise ≡ Ok next

-- the plant's inputs and the plants that it sees are there, and its tick does not trap
pub record MayMove (p : Tables) (k : ℕ) (scalars : List ℤ) (points : List (List ℤ)) (noise : List ℤ)
    : Type 0 where
  pub plant : PlantInfo
  pub is : At p.plants k plant
  pub inputs : (i n : ℕ) → At plant.inputs.items i n → n < length scalars
  pub sees : (i n : ℕ) → At plant.sees.items i n → n < length points
  pub noise_are : length noise ≡ length plant.noise.items
  pub next : List ℤ
  pub moves : next_state plant (slice_index_or points k []) (held_of plant scalars)
      (seen_of plant points) noise ≡ Ok next

-- there is a point for each plant, of its width
pub record ArePoints (p : Tables) (points : List (List ℤ)) : Type 0 where
  pub each : length points ≡ length p.plants
  pub widths : (k : ℕ) (plant : PlantInfo) → At p.plants k plant
      → length (slice_index_or points k []) ≡ length plant.states.items
