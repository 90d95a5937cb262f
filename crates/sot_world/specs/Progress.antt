-- That steps are unique, and that there always are some.
use Rattle.std.specs.Prelude.{ℕ, ℤ, List, [], true, slice_index_or, ◌≡◌, ◌⊎◌, Option, None, length}
use Rattle.std.specs.Prelude.{◌+◌}
use Rattle.sot_lang.specs.declared.act.Act.{Act}
use Rattle.sot_lang.specs.declared.tables.TopicInfo.{TopicInfo}
use Rattle.sot_lang.specs.declared.tables.PlantInfo.{PlantInfo}
use Rattle.sot_lang.specs.declared.tables.NodeInfo.{NodeInfo}
use Rattle.sot_lang.specs.declared.tables.ModuleInfo.{ModuleInfo}
use Rattle.sot_lang.specs.Tables.{Tables}
use Rattle.sot_lists.specs.Places.{At}
use Rattle.sot_box.specs.Sides.{IsIn}
use Rattle.sot_box.specs.Boxes.{IsWithin}
use Rattle.sot_lang.specs.Ranges.{bounds, range_of}
use Rattle.sot_lang.specs.TableRules.{IsCoded, IsTyped}
use Rattle.sot_tube.specs.Tubes.{Keeps}
use Rattle.sot_tube.specs.WellFormed.{IsWellFormed}
use Rattle.sot_world.specs.Configurations.{Configuration, is_left, is_left_dm, point_of}
use Rattle.sot_world.specs.Steps.{Event, Input, Code, Guest, Decide, Tick, MayTick, Step}
use Rattle.sot_world.specs.Outcomes.{Recorded, Records}
use Rattle.sot_world.specs.Invariant.{KeepsInvariant}

-- configuration and event determine the configuration after the step, and what is recorded of it
abbrev pub StepsAreUnique : Type 0
StepsAreUnique =
    (p : Tables) (jitter : ℕ) (C : Configuration) (e : Event) (D D' : Configuration)
    (r r' : Recorded) →
    Step p jitter C e D → Records p C e D r → Step p jitter C e D' → Records p C e D' r'
    → (D ≡ D') × (r ≡ r')

-- there is a step by this event
abbrev pub Happens : Tables → ℕ → Configuration → Event → Type 0
Happens p jitter C e =
    (D : Configuration) × (r : Recorded) × Step p jitter C e D × Records p C e D r

-- each environment topic can get any value in its type, each coded node that is left can fire, each
-- external node that is left can fire with any draft, each decision that is left can be made once
-- it is settled whether the tube keeps, a tick that may come comes for all disturbances in bounds,
-- and where no tick may come something is left to fire
pub record CanGoOn (p : Tables) (jitter : ℕ) (C : Configuration) : Type 0 where
  pub input : (t : ℕ) (info : TopicInfo) (value : List ℤ) → At p.topics t info → info.outside ≡ true
      → length value ≡ info.count → ((i : ℕ) (z : ℤ) → At value i z
      → IsIn (range_of p.scalars (info.first + i)) z) → Happens p jitter C (Input t value)
  pub code : (n : ℕ) (node : NodeInfo) (acts : List Act) → At p.nodes n node → IsCoded node acts
      → is_left C n ≡ true → Happens p jitter C (Code n)
  pub guest : (n : ℕ) (node : NodeInfo) (draft : List (Option ℤ)) → At p.nodes n node
      → node.body ≡ None → length draft ≡ length node.writes.items → is_left C n ≡ true
      → Happens p jitter C (Guest n draft)
  pub decide : (m : ℕ) (a : ModuleInfo) → At p.modules m a → is_left_dm C m ≡ true
      → (Keeps p jitter a (point_of C a.plant) ⊎ (Keeps p jitter a (point_of C a.plant) → ⊥))
      → Happens p jitter C (Decide m)
  pub tick : (noise : List (List ℤ)) → MayTick p jitter C → length noise ≡ length p.plants
      → ((k : ℕ) (plant : PlantInfo) → At p.plants k plant
      → IsWithin (bounds plant) (slice_index_or noise k [])) → Happens p jitter C (Tick noise)
  pub some : MayTick p jitter C ⊎ ((n : ℕ) × (is_left C n ≡ true))
      ⊎ ((m : ℕ) × (is_left_dm C m ≡ true))

-- in each configuration of a well-formed program that satisfies the invariant something can happen
abbrev pub SomethingCanHappen : Type 0
SomethingCanHappen =
    (p : Tables) (jitter : ℕ) (C : Configuration) → IsTyped p → IsWellFormed p jitter
    → KeepsInvariant p jitter C → CanGoOn p jitter C
