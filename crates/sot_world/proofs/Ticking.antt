-- The invariant holds after a tick.
use Rattle.std.proofs.Common.{◌≡◌, ℕ, suc, ◌+◌, ℤ, pos, true, ◌⊎◌, ◌↔◌, List, [], Ok, map, refl, sym, ap, ◌∙◌, subst, arith}
use Rattle.std.specs.Prelude.{slice_index_or}
use Rattle.sot_lang.specs.declared.tables.PlantInfo.{PlantInfo}
use Rattle.sot_lang.specs.declared.tables.NodeInfo.{NodeInfo}
use Rattle.sot_lang.specs.declared.tables.ModuleInfo.{ModuleInfo}
use Rattle.sot_lang.specs.Tables.{Tables}
use Rattle.sot_lists.specs.Places.{At}
use Rattle.sot_box.specs.Boxes.{IsWithin}
use Rattle.sot_lang.specs.Reach.{TicksTo, HeldReach, AllInside}
use Rattle.sot_lang.specs.Ranges.{input_ranges, local_ranges, scalar_ranges}
use Rattle.sot_calendar.specs.Due.{IsDue, IsUntil, IsStillDue}
use Rattle.sot_world.specs.Configurations.{Configuration, is_left, is_left_dm, mode_of, point_of, commands, seen_points}
use Rattle.sot_world.specs.Steps.{Ticks}
use Rattle.sot_lang.specs.TableRules.{IsTyped}
use Rattle.sot_tube.specs.WellFormed.{IsWellFormed}
use Rattle.sot_world.specs.Invariant.{KeepsInvariant}
use Rattle.sot_calendar.proofs.Clock.{until_tick, still_due_tick}
use Rattle.sot_box.proofs.Ranges.{within_picked}
use Rattle.sot_lang.proofs.SafeRegions.{are_safe}
use Rattle.sot_lang.proofs.Reaches.{inside_fewer, inside_next}
use Rattle.sot_world.proofs.Safety.{all_safe}

module _ (p : Tables) (j : ℕ) (typed : IsTyped p) (well : IsWellFormed p j) where
  -- a tick
  pub ticks_hold : (C D : Configuration) (noise : List (List ℤ)) → KeepsInvariant p j C → Ticks p j noise C D → KeepsInvariant p j D
  ticks_hold C D noise h s = record {
    scalars = subst (IsWithin (scalar_ranges p)) (sym scalars) h.scalars;
    locals = λ n node at. subst (λ l. IsWithin (local_ranges node) (slice_index_or l n [])) (sym (ap (λ x. x.locals) s.rest)) (h.locals n node at);
    sizes = s.sizes;
    due = λ n node at is. subst (λ t. IsStillDue j node.period node.offset t) (sym s.time)
        (still_due_tick j (is_left C n) (is_left D n) node.period node.offset C.time (h.due n node at) (λ d l last. s.may.nodes n node d at l last)
        (left_iff n node at) is);
    due_dm = λ m a at is. subst (λ t. IsStillDue j a.period a.offset t) (sym s.time)
        (still_due_tick j (is_left_dm C m) (is_left_dm D m) a.period a.offset C.time (h.due_dm m a at) (λ d l last. s.may.modules m a d at l last)
        (left_dm_iff m a at) is);
    ac = λ m a plant r at_m at_p mode u.
        let u' : IsUntil j (is_left_dm C m) a.period a.offset C.time (suc r) =
        until_tick j (is_left_dm C m) (is_left_dm D m) a.period a.offset C.time r (typed.module_times m a at_m) (well.module_jitter m a at_m)
        (h.due_dm m a at_m) (λ d l last. s.may.modules m a d at_m l last) (left_dm_iff m a at_m)
        (subst (λ t. IsUntil j (is_left_dm D m) a.period a.offset t r) s.time u) in
        let before = h.ac m a plant (suc r) at_m at_p (ap (λ x. mode_of x m) (sym s.rest) ∙ mode) u' in
        inside_next p plant (IsWithin (input_ranges p plant)) (point_of C a.plant) (point_of D a.plant) (r + a.period + j) a.safe.boxes
        (ticks_to a.plant plant at_p (IsWithin (input_ranges p plant)) (within_picked (scalar_ranges p) C.scalars plant.inputs.items h.scalars))
        (inside_fewer p plant (IsWithin (input_ranges p plant)) (point_of C a.plant) (suc (r + a.period + j)) (suc r + a.period + j) a.safe.boxes (omega arith)
        before);
    sc = λ m a plant sc q at_m at_p at_s mode u.
        let u' : IsUntil j (is_left C a.sc) sc.period sc.offset C.time (suc q) =
        until_tick j (is_left C a.sc) (is_left D a.sc) sc.period sc.offset C.time q (typed.node_times a.sc sc at_s) (well.node_jitter a.sc sc at_s)
        (h.due a.sc sc at_s) (λ d l last. s.may.nodes a.sc sc d at_s l last) (left_iff a.sc sc at_s)
        (subst (λ t. IsUntil j (is_left D a.sc) sc.period sc.offset t q) s.time u) in
        let before = h.sc m a plant sc (suc q) at_m at_p at_s (ap (λ x. mode_of x m) (sym s.rest) ∙ mode) u' in
        subst (λ xs. AllInside (HeldReach p plant (point_of D a.plant) (map (λ k. slice_index_or xs k (pos 0)) plant.inputs.items) q) a.safe.boxes)
        (sym scalars)
        (inside_next p plant (λ d. d ≡ commands plant C) (point_of C a.plant) (point_of D a.plant) q a.safe.boxes
        (ticks_to a.plant plant at_p (λ d. d ≡ commands plant C) refl) before);
  }
    where
      scalars : D.scalars ≡ C.scalars
      scalars = ap (λ x. x.scalars) s.rest

      left_iff : (n : ℕ) (node : NodeInfo) → At p.nodes n node → (is_left D n ≡ true) ↔ ((is_left C n ≡ true) ⊎ IsDue node.period node.offset (suc C.time))
      left_iff n node at = subst (λ t. (is_left D n ≡ true) ↔ ((is_left C n ≡ true) ⊎ IsDue node.period node.offset t)) s.time (s.left n node at)

      left_dm_iff : (m : ℕ) (a : ModuleInfo) → At p.modules m a → (is_left_dm D m ≡ true) ↔ ((is_left_dm C m ≡ true) ⊎ IsDue a.period a.offset (suc C.time))
      left_dm_iff m a at = subst (λ t. (is_left_dm D m ≡ true) ↔ ((is_left_dm C m ≡ true) ⊎ IsDue a.period a.offset t)) s.time (s.left_dm m a at)

      ticks_to : (k : ℕ) (plant : PlantInfo) → At p.plants k plant → (Allowed : List ℤ → Type 0) → Allowed (commands plant C)
          → TicksTo p plant Allowed (point_of C k) (Ok (point_of D k))
      ticks_to k plant at Allowed allowed = record {
        c = commands plant C;
        seen = seen_points plant C;
        w = slice_index_or noise k [];
        allowed = allowed;
        safe = are_safe p.modules (point_of C) plant.sees.items (λ i has. let o = typed.sees_are k plant i at has in all_safe p j typed well C h i o.0 o.1);
        bounded = s.bounded k plant at;
        is = sym (s.moves k plant at);
      }
