-- The invariant implies that each plant is in its safe region, and that nothing traps.
use Rattle.std.proofs.Common.{◌≡◌, ℕ, ◌+◌, ℤ, ⊎_elim, List, Ok, Err, refl, sym, subst, arith}
use Rattle.sot_box.specs.Sides.{Side}
use Rattle.sot_lang.specs.declared.act.Act.{Act}
use Rattle.sot_lang.specs.declared.tables.PlantInfo.{PlantInfo}
use Rattle.sot_lang.specs.declared.tables.NodeInfo.{NodeInfo}
use Rattle.sot_lang.specs.declared.tables.ModuleInfo.{ModuleInfo}
use Rattle.sot_lang.specs.Tables.{Tables}
use Rattle.sot_lists.specs.Places.{At}
use Rattle.sot_box.specs.Boxes.{IsWithin}
use Rattle.sot_box.specs.Regions.{IsInRegion}
use Rattle.sot_lang.specs.SafeRegions.{safe_of, AreSafe, AllSafe}
use Rattle.sot_lang.specs.Values.{Outcome}
use Rattle.sot_lang.specs.Bodies.{Fired, execution}
use Rattle.sot_lang.specs.Ticks.{next_state, joined}
use Rattle.sot_lang.specs.Reach.{Reach, AllInside}
use Rattle.sot_lang.specs.Ranges.{input_ranges, bounds, local_ranges, write_ranges, scalar_ranges}
use Rattle.sot_world.specs.Configurations.{Configuration, is_left, is_left_dm, mode_of, locals_of, point_of, commands, seen_points}
use Rattle.sot_lang.specs.Readings.{reading}
use Rattle.sot_world.specs.Steps.{MayTick}
use Rattle.sot_lang.specs.TableRules.{IsCoded, IsTyped}
use Rattle.sot_tube.specs.WellFormed.{IsWellFormed, MayMeet}
use Rattle.sot_world.specs.Invariant.{KeepsInvariant}
use Rattle.sot_calendar.proofs.Clock.{until_later, until_exists}
use Rattle.sot_box.proofs.Ranges.{within_picked}
use Rattle.sot_lang.proofs.SafeRegions.{safe_of_is, are_safe}
use Rattle.sot_lang.proofs.Reaches.{inside_here, inside_fewer, inside_no_trap}
use Rattle.sot_world.specs.Headline.{IsSafeNow}
use Rattle.sot_world.proofs.Modes.{cases_mode}

module _ (p : Tables) (j : ℕ) (typed : IsTyped p) (well : IsWellFormed p j) where
  -- the plant of each module is in its safe region
  pub in_safe : (C : Configuration) → KeepsInvariant p j C → (m : ℕ) (a : ModuleInfo) (plant : PlantInfo) → At p.modules m a → At p.plants a.plant plant
      → IsInRegion a.safe.boxes (point_of C a.plant)
  in_safe C h m a plant at_m at_p =
      ⊎_elim
      (λ ac.
      let r = until_exists j (is_left_dm C m) a.period a.offset C.time (typed.module_times m a at_m) (h.due_dm m a at_m) in
      inside_here p plant (IsWithin (input_ranges p plant)) _ _ a.safe.boxes (h.ac m a plant r.0 at_m at_p ac r.1))
      (λ sc.
      let n = typed.sc_is m a at_m in
      let q = until_exists j (is_left C a.sc) n.0.period n.0.offset C.time (typed.node_times a.sc n.0 n.2) (h.due a.sc n.0 n.2) in
      inside_here p plant (λ d. d ≡ commands plant C) _ _ a.safe.boxes (h.sc m a plant n.0 q.0 at_m at_p n.2 sc q.1))
      (cases_mode (mode_of C m))

  pub all_safe : (C : Configuration) → KeepsInvariant p j C → AllSafe p C.points
  all_safe C h k plant at =
      let n = typed.named k plant at in
      let m = n.0 in
      let a = n.1 in
      let at_p : At p.plants a.plant plant = rw n.3 at in
      let here = in_safe C h m a plant n.2 at_p in
      let e : safe_of p.modules a.plant ≡ a.safe.boxes = safe_of_is p.modules m a n.2 (λ i b at_b same. well.composed.own_plant i m b a at_b n.2 same) in
      let there : IsInRegion (safe_of p.modules a.plant) (point_of C a.plant) = rw e here in
      subst (λ i. IsInRegion (safe_of p.modules i) (point_of C i)) n.3 there

  -- what a node meets in a configuration that satisfies the invariant
  pub meets : (C : Configuration) (n : ℕ) (node : NodeInfo) → KeepsInvariant p j C → At p.nodes n node → MayMeet p node C.scalars C.points (locals_of C n)
  meets C n node h at = record {
    scalars_in = h.scalars;
    plants_in = λ k v has. let other = typed.reads_are n node k v at has in all_safe C h k other.0 other.1;
    locals_in = h.locals n node at;
  }

  -- no coded node that is left, enabled or not, traps
  pub code_runs : (C : Configuration) (n : ℕ) (node : NodeInfo) (acts : List Act) → KeepsInvariant p j C → At p.nodes n node → IsCoded node acts
      → (fired : Fired) × (execution acts (local_ranges node) (write_ranges p node) (reading node C.scalars C.points) (locals_of C n) ≡ Ok fired)
  code_runs C n node acts h at coded = well.no_trap n node acts at coded C.scalars C.points (locals_of C n) (meets C n node h at)

  -- no tick traps either
  pub tick_runs : (C : Configuration) → KeepsInvariant p j C → MayTick p j C → (k : ℕ) (plant : PlantInfo) (w : List ℤ) → At p.plants k plant
      → IsWithin (bounds plant) w → (s : List ℤ) × (next_state plant (point_of C k) (commands plant C) (joined (seen_points plant C)) w ≡ Ok s)
  tick_runs C h may k plant w at within =
      let n = typed.named k plant at in
      let m = n.0 in
      let a = n.1 in
      let at_p : At p.plants a.plant plant = subst (λ i. At p.plants i plant) (sym n.3) at in
      let seen = are_safe p.modules (point_of C) plant.sees.items (λ i has. let o = typed.sees_are k plant i at has in all_safe C h i o.0 o.1) in
      let in_types = within_picked (scalar_ranges p) C.scalars plant.inputs.items h.scalars in
      subst (λ i. (s : List ℤ) × (next_state plant (point_of C i) (commands plant C) (joined (seen_points plant C)) w ≡ Ok s)) n.3
      (⊎_elim
      (λ ac.
      let r = until_exists j (is_left_dm C m) a.period a.offset C.time (typed.module_times m a n.2) (h.due_dm m a n.2) in
      let later = until_later j (is_left_dm C m) a.period a.offset C.time r.0 (h.due_dm m a n.2) (λ d l last. may.modules m a d n.2 l last) r.1 in
      ends plant (IsWithin (input_ranges p plant)) (point_of C a.plant) (commands plant C) (seen_points plant C) w a.safe.boxes in_types seen within
      (inside_fewer p plant (IsWithin (input_ranges p plant)) (point_of C a.plant) 1 (r.0 + a.period + j) a.safe.boxes (omega arith)
      (h.ac m a plant r.0 n.2 at_p ac r.1))
      (next_state plant (point_of C a.plant) (commands plant C) (joined (seen_points plant C)) w) refl)
      (λ sc.
      let t = typed.sc_is m a n.2 in
      let q = until_exists j (is_left C a.sc) t.0.period t.0.offset C.time (typed.node_times a.sc t.0 t.2) (h.due a.sc t.0 t.2) in
      let later = until_later j (is_left C a.sc) t.0.period t.0.offset C.time q.0 (h.due a.sc t.0 t.2) (λ d l last. may.nodes a.sc t.0 d t.2 l last) q.1 in
      ends plant (λ d. d ≡ commands plant C) (point_of C a.plant) (commands plant C) (seen_points plant C) w a.safe.boxes refl seen within
      (inside_fewer p plant (λ d. d ≡ commands plant C) (point_of C a.plant) 1 q.0 a.safe.boxes (omega arith) (h.sc m a plant t.0 q.0 n.2 at_p t.2 sc q.1))
      (next_state plant (point_of C a.plant) (commands plant C) (joined (seen_points plant C)) w) refl)
      (cases_mode (mode_of C m)))
    where
      ends : (plant : PlantInfo) (Allowed : List ℤ → Type 0) (s c : List ℤ) (seen : List (List ℤ)) (w : List ℤ) (region : List (List Side)) → Allowed c
          → AreSafe p.modules plant.sees.items seen → IsWithin (bounds plant) w → AllInside (Reach p plant Allowed s 1) region → (o : Outcome (List ℤ))
          → o ≡ next_state plant s c (joined seen) w → (s' : List ℤ) × (next_state plant s c (joined seen) w ≡ Ok s')
      ends plant Allowed s c seen w region allowed safe bounded inside (Ok s') e = (s', sym e)
      ends plant Allowed s c seen w region allowed safe bounded inside (Err t) e =
          absurd (inside_no_trap p plant Allowed s t 0 region (record { c = c; seen = seen; w = w; allowed = allowed; safe = safe; bounded = bounded; is = e })
          inside)

  pub safe_now : (C : Configuration) → KeepsInvariant p j C → IsSafeNow p j C
  safe_now C h = record {
    modules = λ m a at. let plant = typed.plant_is m a at in in_safe C h m a plant.0 at plant.1;
    bodies = λ n node acts at coded. code_runs C n node acts h at coded;
    ticks = λ may k plant w at within. tick_runs C h may k plant w at within;
  }
