-- The steps of a running program.
use Rattle.std.specs.Prelude.{ℕ, suc, ℤ, Bool, true, false, if◌then◌else◌, ◌&&◌, not, int_le, List}
use Rattle.std.specs.Prelude.{[], ◌∷◌, Ok, slice_index_or, ◌≡◌, ◌⊎◌, ◌==◌, Some, Option, None}
use Rattle.std.specs.Prelude.{slice_set, length, ◌+◌, ◌≢◌, ◌↔◌}
use Rattle.sot_lang.specs.declared.act.Act.{Act}
use Rattle.sot_lang.specs.declared.tables.TopicInfo.{TopicInfo}
use Rattle.sot_lang.specs.declared.tables.PlantInfo.{PlantInfo}
use Rattle.sot_lang.specs.declared.tables.NodeInfo.{NodeInfo}
use Rattle.sot_lang.specs.declared.tables.ModuleInfo.{ModuleInfo}
use Rattle.sot_lang.specs.Tables.{Tables}
use Rattle.sot_box.specs.Sides.{Side, IsIn}
use Rattle.sot_lists.specs.Places.{At}
use Rattle.sot_box.specs.Boxes.{IsWithin}
use Rattle.sot_box.specs.Regions.{IsInRegion}
use Rattle.sot_lang.specs.Ranges.{range_of, bounds, local_ranges, write_ranges}
use Rattle.sot_lang.specs.Bodies.{Fired, execution}
use Rattle.sot_lang.specs.Ticks.{next_state, joined}
use Rattle.sot_lang.specs.Readings.{reading}
use Rattle.sot_calendar.specs.Due.{IsDue, IsLastDue}
use Rattle.sot_tube.specs.Tubes.{Keeps}
use Rattle.sot_world.specs.Configurations.{Configuration, is_left, is_left_dm, mode_of, locals_of}
use Rattle.sot_world.specs.Configurations.{point_of, commands, seen_points, IsSized, Mode, Ac, Sc}

-- an advanced node is enabled in mode Ac, a safe node in mode Sc, and any other always
abbrev pub allows : ModuleInfo → Mode → ℕ → Bool
allows m Ac n = not (m.sc == n)
allows m Sc n = not (m.ac == n)

abbrev pub allowed_by : List ModuleInfo → List Mode → ℕ → Bool
allowed_by [] modes n = true
allowed_by (m ∷ ms) [] n = allows m Sc n && allowed_by ms [] n
allowed_by (m ∷ ms) (mode ∷ modes) n = allows m mode n && allowed_by ms modes n

abbrev pub is_enabled : Tables → Configuration → ℕ → Bool
is_enabled p C n = allowed_by p.modules C.modes n

-- a number in its scalar's range replaces the scalar's, and any other is refused
abbrev pub put : Side → ℕ → ℤ → List ℤ → List ℤ
put r k z xs = if int_le r.lo z && int_le z r.hi then slice_set xs k z else xs

-- a draft is published: each drafted number in its scalar's range is the scalar's new value, and
-- every other scalar stays
abbrev pub publish : Tables → List ℕ → List (Option ℤ) → List ℤ → List ℤ
publish p [] draft xs = xs
publish p (k ∷ ks) [] xs = xs
publish p (k ∷ ks) (None ∷ draft) xs = publish p ks draft xs
publish p (k ∷ ks) (Some z ∷ draft) xs = publish p ks draft (put (range_of p.scalars k) k z xs)

-- a disabled node publishes nothing
abbrev pub published : Bool → Tables → List ℕ → List (Option ℤ) → List ℤ → List ℤ
published true p writes draft xs = publish p writes draft xs
published false p writes draft xs = xs

-- the node n, which is left, fires with these new locals and this draft: it is no longer left, its
-- locals are new also where it is disabled, and its draft is published where it is enabled
pub record Fires (p : Tables) (n : ℕ) (node : NodeInfo) (locals : List ℤ) (draft : List (Option ℤ))
    (C D : Configuration) : Type 0 where
  pub was_left : is_left C n ≡ true
  pub time : D.time ≡ C.time
  pub left : D.left ≡ slice_set C.left n false
  pub left_dm : D.left_dm ≡ C.left_dm
  pub modes : D.modes ≡ C.modes
  pub points : D.points ≡ C.points
  pub locals_set : D.locals ≡ slice_set C.locals n locals
  pub scalars : D.scalars ≡ published (is_enabled p C n) p node.writes.items draft C.scalars

-- what happens: a value comes on a topic, a coded node fires, an external node fires with a draft,
-- a module decides, or all plants tick, with the disturbances of each plant in declared order
pub data Event : Type 0 where
  Input : (topic : ℕ) (value : List ℤ) → Event
  Code : (node : ℕ) → Event
  Guest : (node : ℕ) (draft : List (Option ℤ)) → Event
  Decide : (module_info : ℕ) → Event
  Tick : (noise : List (List ℤ)) → Event

-- the numbers from a place on are replaced by a value's
abbrev pub write_at : ℕ → List ℤ → List ℤ → List ℤ
write_at k [] xs = xs
write_at k (z ∷ zs) xs = write_at (suc k) zs (slice_set xs k z)

-- an environment topic gets a value in its type, and nothing else changes
pub record Inputs (p : Tables) (topic : ℕ) (value : List ℤ) (C D : Configuration) : Type 0 where
  pub info : TopicInfo
  pub is : At p.topics topic info
  pub outside : info.outside ≡ true
  pub size : length value ≡ info.count
  pub typed : (i : ℕ) (z : ℤ) → At value i z → IsIn (range_of p.scalars (info.first + i)) z
  pub scalars : D.scalars ≡ write_at info.first value C.scalars
  pub rest : D ≡ record C { scalars = D.scalars }

-- a coded node's body is executed on the present numbers and the node's locals, and does not trap
pub record CodeFires (p : Tables) (n : ℕ) (C D : Configuration) : Type 0 where
  pub node : NodeInfo
  pub is : At p.nodes n node
  pub acts : List Act
  pub coded : (v : _) × (node.body ≡ Some v) × (v.items ≡ acts)
  pub fired : Fired
  pub runs : execution acts (local_ranges node) (write_ranges p node)
      (reading node C.scalars C.points) (locals_of C n) ≡ Ok fired
  pub fires : Fires p n node fired.locals fired.draft C D

-- an external node gives any draft, which has for each scalar that the node writes a number or
-- nothing
pub record GuestFires (p : Tables) (n : ℕ) (draft : List (Option ℤ)) (C D : Configuration) : Type 0
  where
    pub node : NodeInfo
    pub is : At p.nodes n node
    pub external : node.body ≡ None
    pub slots : length draft ≡ length node.writes.items
    pub fires : Fires p n node (locals_of C n) draft C D

-- no decision node and no node that is left has its deadline now (without jitter: nothing is left)
pub record MayTick (p : Tables) (jitter : ℕ) (C : Configuration) : Type 0 where
  pub nodes : (n : ℕ) (node : NodeInfo) (d : ℕ) → At p.nodes n node → is_left C n ≡ true
      → IsLastDue node.period node.offset C.time d → d + jitter ≢ C.time
  pub modules : (m : ℕ) (module_info : ModuleInfo) (d : ℕ) → At p.modules m module_info
      → is_left_dm C m ≡ true → IsLastDue module_info.period module_info.offset C.time d
      → d + jitter ≢ C.time

-- all plants tick together, each from the points before the tick and with disturbances in its
-- bounds; the time rises by 1, and what is due then is left to fire
pub record Ticks (p : Tables) (jitter : ℕ) (noise : List (List ℤ)) (C D : Configuration) : Type 0
  where
    pub may : MayTick p jitter C
    pub each : length noise ≡ length p.plants
    pub bounded : (k : ℕ) (plant : PlantInfo) → At p.plants k plant
        → IsWithin (bounds plant) (slice_index_or noise k [])
    pub moves : (k : ℕ) (plant : PlantInfo) → At p.plants k plant
        → next_state plant (point_of C k) (commands plant C) (joined (seen_points plant C))
        (slice_index_or noise k []) ≡ Ok (point_of D k)
    pub time : D.time ≡ suc C.time
    pub left : (n : ℕ) (node : NodeInfo) → At p.nodes n node
        → (is_left D n ≡ true) ↔ ((is_left C n ≡ true) ⊎ IsDue node.period node.offset D.time)
    pub left_dm : (m : ℕ) (module_info : ModuleInfo) → At p.modules m module_info
        → (is_left_dm D m ≡ true) ↔ ((is_left_dm C m ≡ true)
        ⊎ IsDue module_info.period module_info.offset D.time)
    pub sizes : IsSized p D
    pub rest : D ≡ record C { time = D.time; left = D.left; left_dm = D.left_dm; points = D.points }

-- a module whose decision is left decides: it is in mode Ac afterwards exactly where it was in mode
-- Sc with its plant in the safer region, or in mode Ac and the tube keeps
pub record Decides (p : Tables) (jitter m : ℕ) (C D : Configuration) : Type 0 where
  pub module_info : ModuleInfo
  pub is : At p.modules m module_info
  pub was_left : is_left_dm C m ≡ true
  pub left_dm : D.left_dm ≡ slice_set C.left_dm m false
  pub modes : D.modes ≡ slice_set C.modes m (mode_of D m)
  pub mode : (mode_of D m ≡ Ac) ↔ (((mode_of C m ≡ Sc)
      × IsInRegion module_info.safer.boxes (point_of C module_info.plant))
      ⊎ ((mode_of C m ≡ Ac) × Keeps p jitter module_info (point_of C module_info.plant)))
  pub rest : D ≡ record C { left_dm = D.left_dm; modes = D.modes }

-- one step of the semantics; what a case does not name stays
abbrev pub Step : Tables → ℕ → Configuration → Event → Configuration → Type 0
Step p jitter C (Input topic value) D = Inputs p topic value C D
Step p jitter C (Code n) D = CodeFires p n C D
Step p jitter C (Guest n draft) D = GuestFires p n draft C D
Step p jitter C (Decide m) D = Decides p jitter m C D
Step p jitter C (Tick noise) D = Ticks p jitter noise C D
