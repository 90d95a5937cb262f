-- The invariant holds after a decision.
use Rattle.std.proofs.Common.{◌≡◌, ℕ, ◌+◌, ◌*◌, ◌≤◌, pos, false, inr, ⊎_elim, [], map, length, sym, ap, ◌∙◌, subst, arith}
use Rattle.std.specs.Prelude.{slice_index_or, slice_set}
use Rattle.std.proofs.lemmas.Bool.{cases_eq, false≢true}
use Rattle.std.proofs.lemmas.List.{get_or-set_other, length-set}
use Rattle.sot_lang.specs.Tables.{Tables}
use Rattle.sot_box.specs.Boxes.{IsWithin}
use Rattle.sot_box.specs.Regions.{IsInRegion}
use Rattle.sot_lang.specs.Reach.{AnyReach, HeldReach, AllInside}
use Rattle.sot_lang.specs.Ranges.{input_ranges, local_ranges, scalar_ranges}
use Rattle.sot_calendar.specs.Due.{IsUntil, IsStillDue}
use Rattle.sot_tube.specs.Tubes.{Keeps}
use Rattle.sot_world.specs.Configurations.{Configuration, Ac, Sc, is_left, is_left_dm, mode_of, point_of, commands}
use Rattle.sot_world.specs.Steps.{Decides}
use Rattle.sot_lang.specs.TableRules.{IsTyped}
use Rattle.sot_tube.specs.WellFormed.{IsWellFormed}
use Rattle.sot_world.specs.Invariant.{KeepsInvariant}
use Rattle.sot_calendar.proofs.Clock.{until_exists, until_bound}
use Rattle.sot_box.proofs.Ranges.{within_picked}
use Rattle.sot_lang.proofs.Reaches.{inside_fewer, inside_held}
use Rattle.sot_tube.proofs.Tubes.{keeps_inside}
use Rattle.sot_world.proofs.Modes.{cases_mode, same_module, left_same, left_none}

module _ (p : Tables) (j : ℕ) (typed : IsTyped p) (well : IsWellFormed p j) where
  -- a decision
  pub decides_hold : (C D : Configuration) (m : ℕ) → KeepsInvariant p j C → Decides p j m C D → KeepsInvariant p j D
  decides_hold C D m h s = record {
    scalars = subst (IsWithin (scalar_ranges p)) (sym scalars) h.scalars;
    locals = λ n node at. subst (λ l. IsWithin (local_ranges node) (slice_index_or l n [])) (sym (ap (λ x. x.locals) s.rest)) (h.locals n node at);
    sizes = record {
      left = ap (λ x. length x.left) s.rest ∙ h.sizes.left;
      left_dm = ap length s.left_dm ∙ length-set C.left_dm m false ∙ h.sizes.left_dm;
      modes = ap length s.modes ∙ length-set C.modes m (mode_of D m) ∙ h.sizes.modes;
      scalars = ap (λ x. length x.scalars) s.rest ∙ h.sizes.scalars;
      locals = ap (λ x. length x.locals) s.rest ∙ h.sizes.locals;
      points = ap (λ x. length x.points) s.rest ∙ h.sizes.points;
    };
    due = λ n node at is. subst (λ t. IsStillDue j node.period node.offset t) (sym time) (h.due n node at (ap (λ x. is_left x n) (sym s.rest) ∙ is));
    due_dm = λ i a at is. ⊎_elim
        (λ e. absurd (false≢true (sym (dm_now i e) ∙ is)))
        (λ ne. subst (λ t. IsStillDue j a.period a.offset t) (sym time) (h.due_dm i a at (sym (dm_other i ne) ∙ is)))
        (cases_eq i m);
    ac = λ i a plant r at_m at_p mode u.
        let u1 : IsUntil j (is_left_dm D i) a.period a.offset C.time r = subst (λ t. IsUntil j (is_left_dm D i) a.period a.offset t r) time u in
        subst (λ ps. AllInside (AnyReach p plant (slice_index_or ps a.plant []) (r + a.period + j)) a.safe.boxes) (sym points) (⊎_elim
        (λ (e : i ≡ m).
        let bound : r ≤ a.period + j = until_bound j (is_left_dm D i) a.period a.offset C.time r (typed.module_times i a at_m) u1 in
        let same : s.module_info ≡ a = same_module p.modules m i s.module_info a (sym e) s.is at_m in
        inside_fewer p plant (IsWithin (input_ranges p plant)) (point_of C a.plant) (r + a.period + j) (2 * (a.period + j)) a.safe.boxes (omega arith) (⊎_elim
        (λ safer. well.safer_holds i a plant at_m at_p (point_of C a.plant) (subst (λ b. IsInRegion b.safer.boxes (point_of C b.plant)) same safer.1))
        (λ keeps. keeps_inside p j a plant (point_of C a.plant) at_p (subst (λ b. Keeps p j b (point_of C b.plant)) same keeps.1))
        (s.mode.0 (ap (λ k. mode_of D k) (sym e) ∙ mode))))
        (λ (ne : i ≡ m → ⊥).
        h.ac i a plant r at_m at_p (sym (mode_other i ne) ∙ mode) (subst (λ b. IsUntil j b a.period a.offset C.time r) (dm_other i ne) u1))
        (cases_eq i m));
    sc = λ i a plant sc q at_m at_p at_s mode u.
        let u1 : IsUntil j (is_left C a.sc) sc.period sc.offset C.time q =
        subst (λ x. IsUntil j (is_left x a.sc) sc.period sc.offset C.time q) s.rest (subst (λ t. IsUntil j (is_left D a.sc) sc.period sc.offset t q) time u)
        in
        let here : AllInside (HeldReach p plant (point_of C a.plant) (commands plant C) q) a.safe.boxes = ⊎_elim
        (λ (was : mode_of C i ≡ Ac).
        let r = until_exists j (is_left_dm C i) a.period a.offset C.time (typed.module_times i a at_m) (h.due_dm i a at_m) in
        let any = h.ac i a plant r.0 at_m at_p was r.1 in
        let bound : q ≤ sc.period + j = until_bound j (is_left C a.sc) sc.period sc.offset C.time q (typed.node_times a.sc sc at_s) u1 in
        let per : sc.period ≤ a.period = well.periods i a at_m sc (inr at_s) in
        inside_held p plant (point_of C a.plant) (commands plant C) q a.safe.boxes (within_picked (scalar_ranges p) C.scalars plant.inputs.items h.scalars)
        (inside_fewer p plant (IsWithin (input_ranges p plant)) (point_of C a.plant) q (r.0 + a.period + j) a.safe.boxes (omega arith) any))
        (λ (was : mode_of C i ≡ Sc). h.sc i a plant sc q at_m at_p at_s was u1)
        (cases_mode (mode_of C i)) in
        subst (λ xs. AllInside (HeldReach p plant (point_of D a.plant) (map (λ k. slice_index_or xs k (pos 0)) plant.inputs.items) q) a.safe.boxes)
        (sym scalars)
        (subst (λ ps. AllInside (HeldReach p plant (slice_index_or ps a.plant []) (commands plant C) q) a.safe.boxes) (sym points) here);
  }
    where
      time : D.time ≡ C.time
      time = ap (λ x. x.time) s.rest

      points : D.points ≡ C.points
      points = ap (λ x. x.points) s.rest

      scalars : D.scalars ≡ C.scalars
      scalars = ap (λ x. x.scalars) s.rest

      dm_other : (i : ℕ) → (i ≡ m → ⊥) → is_left_dm D i ≡ is_left_dm C i
      dm_other i ne = ap (λ l. slice_index_or l i false) s.left_dm ∙ left_same C.left_dm m i ne

      dm_now : (i : ℕ) → i ≡ m → is_left_dm D i ≡ false
      dm_now i e = ap (λ l. slice_index_or l i false) s.left_dm ∙ ap (λ k. slice_index_or (slice_set C.left_dm m false) k false) e ∙ left_none C.left_dm m

      mode_other : (i : ℕ) → (i ≡ m → ⊥) → mode_of D i ≡ mode_of C i
      mode_other i ne = ap (λ l. slice_index_or l i Sc) s.modes ∙ get_or-set_other C.modes m i (mode_of D m) Sc ne
