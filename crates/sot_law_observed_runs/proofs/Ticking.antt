-- Tubes are kept over a tick that was observed.
use Rattle.std.proofs.Common.{◌≡◌, ℕ, suc, ◌+◌, true, ◌⊎◌, ◌↔◌, ⊎_elim, List, [], sym, ap, ◌∙◌, subst, arith}
use Rattle.std.specs.Prelude.{slice_index_or}
use Rattle.sot_lists.specs.Places.{At}
use Rattle.sot_box.specs.Sides.{Side}
use Rattle.sot_box.specs.Boxes.{IsWithin, point_box}
use Rattle.sot_box.proofs.Ranges.{within_picked}
use Rattle.sot_calendar.specs.Due.{IsDue, IsUntil, IsStillDue}
use Rattle.sot_calendar.proofs.Clock.{until_tick, until_exists, until_later, still_due_tick}
use Rattle.sot_lang.specs.declared.tables.PlantInfo.{PlantInfo}
use Rattle.sot_lang.specs.declared.tables.NodeInfo.{NodeInfo}
use Rattle.sot_lang.specs.declared.tables.ModuleInfo.{ModuleInfo}
use Rattle.sot_lang.specs.Tables.{Tables}
use Rattle.sot_lang.specs.TableRules.{IsTyped, MeetsTableRules}
use Rattle.sot_lang.specs.Ranges.{input_ranges, local_ranges, scalar_ranges}
use Rattle.sot_lang.specs.SafeRegions.{AreSafe}
use Rattle.sot_lang.proofs.SafeRegions.{are_safe}
use Rattle.sot_tube.specs.Tubes.{TubeInside, AnyTubeInside}
use Rattle.sot_tube.specs.WellFormed.{IsWellFormed}
use Rattle.sot_tube.proofs.Tubes.{tube_inside, within_box_of}
use Rattle.sot_world.specs.declared.mode.Mode.TheVariants.{Ac, Sc}
use Rattle.sot_world.specs.Configurations.{Configuration, is_left, is_left_dm, mode_of, point_of, commands, seen_points}
use Rattle.sot_world.specs.Steps.{MayTick}
use Rattle.sot_world.specs.Invariant.{KeepsInvariant}
use Rattle.sot_world.proofs.Safety.{all_safe}
use Rattle.sot_world.proofs.Modes.{cases_mode}
use Rattle.sot_law_observed_runs.specs.Observed.{ObservedTick, HasNextBoxes, IsBoxFrom}
use Rattle.sot_law_observed_runs.specs.Tubes.{KeepsTubes}
use Rattle.sot_law_observed_runs.proofs.Follows.{tube_fewer, has_next, tube_next}

module _ (p : Tables) (j : ℕ) (rules : MeetsTableRules p) (well : IsWellFormed p j) where
  typed : IsTyped p
  typed = rules.typed

  -- what a plant meets: commands in their types, and seen plants in their safe regions
  in_types : (C : Configuration) (plant : PlantInfo) → KeepsInvariant p j C → IsWithin (input_ranges p plant) (commands plant C)
  in_types C plant h = within_picked (scalar_ranges p) C.scalars plant.inputs.items h.scalars

  seen_safe : (C : Configuration) (k : ℕ) (plant : PlantInfo) → KeepsInvariant p j C → At p.plants k plant
      → AreSafe p.modules plant.sees.items (seen_points plant C)
  seen_safe C k plant h at =
      are_safe p.modules (point_of C) plant.sees.items (λ i has. let o = typed.sees_are k plant i at has in all_safe p j typed well C h i o.0 o.1)

  -- a module's tube has a tick before its deadline
  next_box : (C : Configuration) (m : ℕ) (a : ModuleInfo) (plant : PlantInfo) → KeepsTubes p j C → MayTick p j C → At p.modules m a
      → At p.plants a.plant plant → (box : List Side) × IsBoxFrom C a.plant plant box
  next_box C m a plant h may at_m at_p =
      let k = h.keeps in
      let safe = seen_safe C a.plant plant k at_p in
      ⊎_elim
      (λ (mode : mode_of C m ≡ Ac).
      let r = until_exists j (is_left_dm C m) a.period a.offset C.time (typed.module_times m a at_m) (k.due_dm m a at_m) in
      let later = until_later j (is_left_dm C m) a.period a.offset C.time r.0 (k.due_dm m a at_m) (λ d l last. may.modules m a d at_m l last) r.1 in
      let tube = tube_fewer p plant (input_ranges p plant) a.safe.boxes (point_box (point_of C a.plant)) 1 (r.0 + a.period + j) (omega (arith, later))
      (h.ac m a plant r.0 at_m at_p mode r.1) in
      has_next p rules a.plant plant at_p (input_ranges p plant) a.safe.boxes (point_of C a.plant) (commands plant C) (seen_points plant C) 0
      (in_types C plant k) safe tube)
      (λ (mode : mode_of C m ≡ Sc).
      let t = typed.sc_is m a at_m in
      let q = until_exists j (is_left C a.sc) t.0.period t.0.offset C.time (typed.node_times a.sc t.0 t.2) (k.due a.sc t.0 t.2) in
      let later = until_later j (is_left C a.sc) t.0.period t.0.offset C.time q.0 (k.due a.sc t.0 t.2) (λ d l last. may.nodes a.sc t.0 d t.2 l last) q.1 in
      let tube = tube_fewer p plant (point_box (commands plant C)) a.safe.boxes (point_box (point_of C a.plant)) 1 q.0 (omega (arith, later))
      (h.sc m a plant t.0 q.0 at_m at_p t.2 mode q.1) in
      has_next p rules a.plant plant at_p (point_box (commands plant C)) a.safe.boxes (point_of C a.plant) (commands plant C) (seen_points plant C) 0
      (within_box_of (commands plant C)) safe tube)
      (cases_mode (mode_of C m))

  pub next_boxes : (C : Configuration) → KeepsTubes p j C → HasNextBoxes p j C
  next_boxes C h may k plant at =
      let n = typed.named k plant at in
      let at_p : At p.plants n.1.plant plant = subst (λ i. At p.plants i plant) (sym n.3) at in
      subst (λ i. (box : List Side) × IsBoxFrom C i plant box) n.3 (next_box C n.0 n.1 plant h may n.2 at_p)

  module _ (C D : Configuration) (h : KeepsTubes p j C) (s : ObservedTick p j C D) where
    scalars : D.scalars ≡ C.scalars
    scalars = ap (λ x. x.scalars) s.rest

    modes : (m : ℕ) → mode_of D m ≡ mode_of C m
    modes m = ap (λ x. mode_of x m) s.rest

    left_iff : (n : ℕ) (node : NodeInfo) → At p.nodes n node → (is_left D n ≡ true) ↔ ((is_left C n ≡ true) ⊎ IsDue node.period node.offset (suc C.time))
    left_iff n node at = subst (λ t. (is_left D n ≡ true) ↔ ((is_left C n ≡ true) ⊎ IsDue node.period node.offset t)) s.time (s.left n node at)

    left_dm_iff : (m : ℕ) (a : ModuleInfo) → At p.modules m a → (is_left_dm D m ≡ true) ↔ ((is_left_dm C m ≡ true) ⊎ IsDue a.period a.offset (suc C.time))
    left_dm_iff m a at = subst (λ t. (is_left_dm D m ≡ true) ↔ ((is_left_dm C m ≡ true) ⊎ IsDue a.period a.offset t)) s.time (s.left_dm m a at)

    ac_tube : (m : ℕ) (a : ModuleInfo) (plant : PlantInfo) (r : ℕ) → At p.modules m a → At p.plants a.plant plant → mode_of D m ≡ Ac
        → IsUntil j (is_left_dm D m) a.period a.offset D.time r
        → AnyTubeInside p plant a.safe.boxes (point_box (point_of D a.plant)) (r + a.period + j)
    ac_tube m a plant r at_m at_p mode u =
        let before : IsUntil j (is_left_dm C m) a.period a.offset C.time (suc r) =
        until_tick j (is_left_dm C m) (is_left_dm D m) a.period a.offset C.time r (typed.module_times m a at_m) (well.module_jitter m a at_m)
        (h.keeps.due_dm m a at_m) (λ d l last. s.may.modules m a d at_m l last) (left_dm_iff m a at_m)
        (subst (λ t. IsUntil j (is_left_dm D m) a.period a.offset t r) s.time u) in
        let tube = tube_fewer p plant (input_ranges p plant) a.safe.boxes (point_box (point_of C a.plant)) (suc (r + a.period + j)) (suc r + a.period + j)
        (omega arith) (h.ac m a plant (suc r) at_m at_p (sym (modes m) ∙ mode) before) in
        let box = s.allowed a.plant plant at_p in
        tube_next p rules a.plant plant at_p (input_ranges p plant) a.safe.boxes (point_of C a.plant) (commands plant C) (seen_points plant C)
        (r + a.period + j)
        (in_types C plant h.keeps) (seen_safe C a.plant plant h.keeps at_p) tube box.0 (point_of D a.plant) box.1 box.2

    sc_tube : (m : ℕ) (a : ModuleInfo) (plant : PlantInfo) (sc : NodeInfo) (q : ℕ) → At p.modules m a → At p.plants a.plant plant → At p.nodes a.sc sc
        → mode_of D m ≡ Sc → IsUntil j (is_left D a.sc) sc.period sc.offset D.time q
        → TubeInside p plant (point_box (commands plant D)) a.safe.boxes (point_box (point_of D a.plant)) q
    sc_tube m a plant sc q at_m at_p at_s mode u =
        let before : IsUntil j (is_left C a.sc) sc.period sc.offset C.time (suc q) =
        until_tick j (is_left C a.sc) (is_left D a.sc) sc.period sc.offset C.time q (typed.node_times a.sc sc at_s) (well.node_jitter a.sc sc at_s)
        (h.keeps.due a.sc sc at_s) (λ d l last. s.may.nodes a.sc sc d at_s l last) (left_iff a.sc sc at_s)
        (subst (λ t. IsUntil j (is_left D a.sc) sc.period sc.offset t q) s.time u) in
        let tube = h.sc m a plant sc (suc q) at_m at_p at_s (sym (modes m) ∙ mode) before in
        let box = s.allowed a.plant plant at_p in
        let held : commands plant C ≡ commands plant D = ap (λ x. commands plant x) (sym s.rest) in
        subst (λ c. TubeInside p plant (point_box c) a.safe.boxes (point_box (point_of D a.plant)) q) held
        (tube_next p rules a.plant plant at_p (point_box (commands plant C)) a.safe.boxes (point_of C a.plant) (commands plant C) (seen_points plant C) q
        (within_box_of (commands plant C)) (seen_safe C a.plant plant h.keeps at_p) tube box.0 (point_of D a.plant) box.1 box.2)

    keeps : KeepsInvariant p j D
    keeps = record {
      scalars = subst (IsWithin (scalar_ranges p)) (sym scalars) h.keeps.scalars;
      locals =
          λ n node at. subst (λ l. IsWithin (local_ranges node) (slice_index_or l n [])) (sym (ap (λ x. x.locals) s.rest)) (h.keeps.locals n node at);
      sizes = s.sizes;
      due = λ n node at is. subst (λ t. IsStillDue j node.period node.offset t) (sym s.time)
          (still_due_tick j (is_left C n) (is_left D n) node.period node.offset C.time (h.keeps.due n node at) (λ d l last. s.may.nodes n node d at l last)
          (left_iff n node at) is);
      due_dm = λ m a at is. subst (λ t. IsStillDue j a.period a.offset t) (sym s.time)
          (still_due_tick j (is_left_dm C m) (is_left_dm D m) a.period a.offset C.time (h.keeps.due_dm m a at)
          (λ d l last. s.may.modules m a d at l last)
          (left_dm_iff m a at) is);
      ac = λ m a plant r at_m at_p mode u.
          tube_inside p plant (IsWithin (input_ranges p plant)) (input_ranges p plant) a.safe.boxes (point_box (point_of D a.plant)) (r + a.period + j)
          (point_of D a.plant) (λ c w. w) (within_box_of (point_of D a.plant)) (ac_tube m a plant r at_m at_p mode u);
      sc = λ m a plant sc q at_m at_p at_s mode u.
          tube_inside p plant (λ d. d ≡ commands plant D) (point_box (commands plant D)) a.safe.boxes (point_box (point_of D a.plant)) q (point_of D a.plant)
          (λ d is. subst (IsWithin (point_box (commands plant D))) (sym is) (within_box_of (commands plant D))) (within_box_of (point_of D a.plant))
          (sc_tube m a plant sc q at_m at_p at_s mode u);
    }

    pub tick_keeps : KeepsTubes p j D
    tick_keeps = record { keeps = keeps; ac = ac_tube; sc = sc_tube }
