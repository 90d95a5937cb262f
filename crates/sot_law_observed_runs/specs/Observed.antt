-- Runs of which the plants are observed: where they are after a tick is not computed.
use Rattle.std.specs.Prelude.{ℕ, suc, ℤ, true, List, [], ◌∷◌, Ok, ◌≡◌, ◌⊎◌, ◌↔◌}
use Rattle.sot_lists.specs.Places.{At}
use Rattle.sot_box.specs.Sides.{Side}
use Rattle.sot_box.specs.Boxes.{IsWithin, point_box}
use Rattle.sot_calendar.specs.Due.{IsDue}
use Rattle.sot_lang.specs.declared.tables.PlantInfo.{PlantInfo}
use Rattle.sot_lang.specs.declared.tables.NodeInfo.{NodeInfo}
use Rattle.sot_lang.specs.declared.tables.ModuleInfo.{ModuleInfo}
use Rattle.sot_lang.specs.Tables.{Tables}
use Rattle.sot_lang.specs.Ticks.{joined}
use Rattle.sot_iv.specs.PlantIntervals.{IsNextBox}
use Rattle.sot_world.specs.Configurations.{Configuration, is_left, is_left_dm, point_of, commands}
use Rattle.sot_world.specs.Configurations.{seen_points, IsSized, IsOpening, IsSafer}
use Rattle.sot_world.specs.Steps.{Event, Input, Code, Guest, Decide, Tick, MayTick, Step}

-- the least box in which plant k is to be after a tick: from its point, with the present commands
-- and the plants that it sees where they are, disturbances anywhere in their bounds
abbrev pub IsBoxFrom : Configuration → ℕ → PlantInfo → List Side → Type 0
IsBoxFrom C k plant box =
    IsNextBox plant (point_box (point_of C k)) (point_box (commands plant C))
    (point_box (joined (seen_points plant C))) (Ok box)

-- a plant is observed where its model allows it to be: at some point of that box
abbrev pub IsAllowed : Configuration → ℕ → PlantInfo → List ℤ → Type 0
IsAllowed C k plant s = (box : List Side) × IsBoxFrom C k plant box × IsWithin box s

-- a tick after which each plant is observed where its model allows it to be; all else is as in a
-- tick of the semantics
pub record ObservedTick (p : Tables) (jitter : ℕ) (C D : Configuration) : Type 0 where
  pub may : MayTick p jitter C
  pub allowed : (k : ℕ) (plant : PlantInfo) → At p.plants k plant
      → IsAllowed C k plant (point_of D k)
  pub time : D.time ≡ suc C.time
  pub left : (n : ℕ) (node : NodeInfo) → At p.nodes n node
      → (is_left D n ≡ true) ↔ ((is_left C n ≡ true) ⊎ IsDue node.period node.offset D.time)
  pub left_dm : (m : ℕ) (a : ModuleInfo) → At p.modules m a
      → (is_left_dm D m ≡ true) ↔ ((is_left_dm C m ≡ true) ⊎ IsDue a.period a.offset D.time)
  pub sizes : IsSized p D
  pub rest : D ≡ record C { time = D.time; left = D.left; left_dm = D.left_dm; points = D.points }

-- one step: a tick is an observed one, whatever disturbances the event names, and every other step
-- is one of the semantics
abbrev pub ObservedStep : Tables → ℕ → Configuration → Event → Configuration → Type 0
ObservedStep p jitter C (Tick noise) D = ObservedTick p jitter C D
ObservedStep p jitter C (Input topic value) D = Step p jitter C (Input topic value) D
ObservedStep p jitter C (Code n) D = Step p jitter C (Code n) D
ObservedStep p jitter C (Guest n draft) D = Step p jitter C (Guest n draft) D
ObservedStep p jitter C (Decide m) D = Step p jitter C (Decide m) D

-- the configurations after each of a list of events, one observed step after another
abbrev pub ObservedRun : Tables → ℕ → Configuration → List Event → List Configuration → Type 0
ObservedRun p jitter C [] [] = Unit {0}
ObservedRun p jitter C (e ∷ es) (D ∷ Ds) =
    ObservedStep p jitter C e D × ObservedRun p jitter D es Ds
ObservedRun p jitter C [] (D ∷ Ds) = ⊥
ObservedRun p jitter C (e ∷ es) [] = ⊥

-- in every observed run from a safer opening each configuration has this property
abbrev pub InEveryObservedRun : Tables → ℕ → (Configuration → Type 0) → Type 0
InEveryObservedRun p jitter P =
    (start : List (List ℤ)) (C : Configuration) (events : List Event) (Ds : List Configuration)
    → IsOpening p start C → IsSafer p C → ObservedRun p jitter C events Ds →
    (i : ℕ) (D : Configuration) → At (C ∷ Ds) i D → P D

-- where a tick may come, each plant has a next box: no operand of its tick may trap
abbrev pub HasNextBoxes : Tables → ℕ → Configuration → Type 0
HasNextBoxes p jitter C =
    MayTick p jitter C → (k : ℕ) (plant : PlantInfo) → At p.plants k plant
    → (box : List Side) × IsBoxFrom C k plant box
