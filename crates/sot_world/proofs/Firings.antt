-- The invariant holds after a firing.
use Rattle.std.proofs.Common.{◌≡◌, ℕ, ◌+◌, ◌<◌, ◌≤◌, ℤ, pos, Bool, true, false, inl, inr, ⊎_elim, List, [], Option, Some, length, refl, sym, ap, ◌∙◌, subst}
use Rattle.std.proofs.Common.{arith}
use Rattle.std.specs.Prelude.{slice_index_or, slice_set}
use Rattle.std.proofs.lemmas.Bool.{cases_Bool, cases_eq, false≢true}
use Rattle.std.proofs.lemmas.List.{get_or-set_same, get_or-set_other, length-set}
use Rattle.std.proofs.lemmas.Option.{slice_get_within, none-some}
use Rattle.sot_lang.specs.declared.tables.PlantInfo.{PlantInfo}
use Rattle.sot_lang.specs.declared.tables.NodeInfo.{NodeInfo}
use Rattle.sot_lang.specs.declared.tables.ModuleInfo.{ModuleInfo}
use Rattle.sot_lang.specs.Tables.{Tables}
use Rattle.sot_lists.specs.Places.{At, Has}
use Rattle.sot_box.specs.Boxes.{IsWithin}
use Rattle.sot_lang.specs.Reach.{AnyReach, HeldReach, AllInside}
use Rattle.sot_lang.specs.Ranges.{input_ranges, range_of, local_ranges, write_ranges, scalar_ranges}
use Rattle.sot_calendar.specs.Due.{IsUntil, IsStillDue}
use Rattle.sot_world.specs.Configurations.{Configuration, Ac, Sc, is_left, is_left_dm, mode_of, number_of, locals_of, point_of, commands}
use Rattle.sot_lang.specs.Readings.{reading}
use Rattle.sot_world.specs.Steps.{is_enabled, published, Fires, CodeFires, GuestFires}
use Rattle.sot_box.specs.Sides.{IsIn}
use Rattle.sot_lang.specs.TableRules.{IsTyped}
use Rattle.sot_tube.specs.WellFormed.{IsWellFormed}
use Rattle.sot_world.specs.Invariant.{KeepsInvariant}
use Rattle.sot_calendar.proofs.Clock.{until_bound}
use Rattle.sot_lists.proofs.Places.{at_same, at_map, has_cases, map_same}
use Rattle.sot_box.proofs.Ranges.{within_picked}
use Rattle.sot_lang.proofs.Reaches.{inside_fewer}
use Rattle.sot_world.proofs.Publishes.{publish_within, publish_other, publish_set}
use Rattle.sot_lang.proofs.Executes.{exec_locals, exec_draft}
use Rattle.sot_world.proofs.Enables.{allowed_true, allowed_false, allows_ac, allows_not}
use Rattle.sot_world.proofs.Modes.{same_module, left_same, left_none, scalars_length}
use Rattle.sot_world.proofs.Safety.{in_safe, meets}
use Rattle.sot_tube.proofs.ByScalars.{composed_by_scalars}

published_within : (p : Tables) (b : Bool) (ws : List ℕ) (draft : List (Option ℤ)) (xs : List ℤ) → IsWithin (scalar_ranges p) xs
    → IsWithin (scalar_ranges p) (published b p ws draft xs)
published_within p true ws draft xs w = publish_within p ws draft xs w
published_within p false ws draft xs w = w

module _ (p : Tables) (j : ℕ) (typed : IsTyped p) (well : IsWellFormed p j) where
  -- a plant takes none of its inputs from an enabled node other than its module's safe node, in mode Sc
  pub other_inputs : (C : Configuration) (n : ℕ) (node : NodeInfo) (draft : List (Option ℤ)) (m : ℕ) (a : ModuleInfo) (plant : PlantInfo) (sc : NodeInfo)
      → At p.nodes n node → At p.modules m a → At p.plants a.plant plant → At p.nodes a.sc sc → mode_of C m ≡ Sc → (a.sc ≡ n → ⊥) → (b : Bool)
      → is_enabled p C n ≡ b → (k : ℕ) → Has plant.inputs.items k → slice_index_or (published b p node.writes.items draft C.scalars) k (pos 0) ≡ number_of C k
  other_inputs C n node draft m a plant sc at_n at_m at_p at_s mode ne false e k has = refl
  other_inputs C n node draft m a plant sc at_n at_m at_p at_s mode ne true e k has =
      ⊎_elim
      (λ writes.
      let by_scalars = composed_by_scalars p typed well.composed in
      let writes' = by_scalars.own_inputs m a plant sc has.0 k at_m at_p at_s has.1 in
      let o = by_scalars.own_output n a.sc node sc k at_n at_s writes writes' (λ same. ne (sym same)) in
      ⊎_elim
      (λ first.
      let same = well.composed.own_node m o.0 a o.1 a.sc at_m o.2 (inr refl) (inr first.1) in
      let ab : a ≡ o.1 = same_module p.modules m o.0 a o.1 same at_m o.2 in
      let ac : a.ac ≡ n = ap (λ x. x.ac) ab ∙ first.0 in
      let is_ac = allows_ac a (mode_of C m) n (allowed_true p.modules C.modes n m a e at_m) ac in
      cc)
      (λ second.
      let same = well.composed.own_node m o.0 a o.1 a.sc at_m o.2 (inr refl) (inl second.1) in
      let ab : a ≡ o.1 = same_module p.modules m o.0 a o.1 same at_m o.2 in
      absurd (typed.apart m a at_m (ap (λ x. x.ac) ab ∙ second.1)))
      o.3)
      (λ no'. publish_other p node.writes.items draft C.scalars k no')
      (has_cases node.writes.items k)

  -- a firing that keeps the new locals in their ranges, and whose draft is safe where it is that of a module's safe node in mode Sc
  fires_hold :
      (C D : Configuration) → KeepsInvariant p j C → (n : ℕ) (node : NodeInfo) (locals : List ℤ) (draft : List (Option ℤ)) →
      At p.nodes n node → Fires p n node locals draft C D → IsWithin (local_ranges node) locals →
      ((m : ℕ) (a : ModuleInfo) (plant : PlantInfo) → At p.modules m a → At p.plants a.plant plant → a.sc ≡ n → mode_of C m ≡ Sc → is_enabled p C n ≡ true
      → IsWithin (scalar_ranges p) D.scalars → AllInside (HeldReach p plant (point_of C a.plant) (commands plant D) (node.period + j)) a.safe.boxes) →
      KeepsInvariant p j D
  fires_hold C D h n node locals draft at_n f within safe = record {
    scalars = scalars_in;
    locals = locals_in;
    sizes = record {
      left = ap length f.left ∙ length-set C.left n false ∙ h.sizes.left;
      left_dm = ap length f.left_dm ∙ h.sizes.left_dm;
      modes = ap length f.modes ∙ h.sizes.modes;
      scalars = scalars_length p D.scalars scalars_in;
      locals = ap length f.locals_set ∙ length-set C.locals n locals ∙ h.sizes.locals;
      points = ap length f.points ∙ h.sizes.points;
    };
    due = λ i other at is. ⊎_elim
        (λ e. absurd (false≢true (sym (left_now i e) ∙ is)))
        (λ ne. subst (λ t. IsStillDue j other.period other.offset t) (sym f.time) (h.due i other at (sym (left_other i ne) ∙ is)))
        (cases_eq i n);
    due_dm =
        λ m a at is. subst (λ t. IsStillDue j a.period a.offset t) (sym f.time) (h.due_dm m a at (ap (λ l. slice_index_or l m false) (sym f.left_dm) ∙ is));
    ac = λ m a plant r at_m at_p mode u.
        let u' : IsUntil j (is_left_dm C m) a.period a.offset C.time r =
        subst (λ l. IsUntil j (slice_index_or l m false) a.period a.offset C.time r) f.left_dm
        (subst (λ t. IsUntil j (is_left_dm D m) a.period a.offset t r) f.time u) in
        let r' = h.ac m a plant r at_m at_p (ap (λ l. slice_index_or l m Sc) (sym f.modes) ∙ mode) u' in
        subst (λ ps. AllInside (AnyReach p plant (slice_index_or ps a.plant []) (r + a.period + j)) a.safe.boxes) (sym f.points) r';
    sc = λ m a plant sc q at_m at_p at_s mode u.
        let mode' : mode_of C m ≡ Sc = ap (λ l. slice_index_or l m Sc) (sym f.modes) ∙ mode in
        let u1 : IsUntil j (is_left D a.sc) sc.period sc.offset C.time q = subst (λ t. IsUntil j (is_left D a.sc) sc.period sc.offset t q) f.time u in
        let there : AllInside (HeldReach p plant (point_of C a.plant) (commands plant D) q) a.safe.boxes = ⊎_elim
        (λ (e : a.sc ≡ n). mine m a plant sc q at_m at_p at_s mode' u1 e)
        (λ (ne : a.sc ≡ n → ⊥).
        let u2 : IsUntil j (is_left C a.sc) sc.period sc.offset C.time q = subst (λ b. IsUntil j b sc.period sc.offset C.time q) (left_other a.sc ne) u1 in
        let same : commands plant C ≡ commands plant D = map_same (number_of C) (number_of D) plant.inputs.items (λ k has.
        sym (ap (λ xs. slice_index_or xs k (pos 0)) f.scalars ∙ other_inputs C n node draft m a plant sc at_n at_m at_p at_s mode' ne (is_enabled p C n) refl k
        has)) in
        subst (λ c. AllInside (HeldReach p plant (point_of C a.plant) c q) a.safe.boxes) same (h.sc m a plant sc q at_m at_p at_s mode' u2))
        (cases_eq a.sc n) in
        subst (λ ps. AllInside (HeldReach p plant (slice_index_or ps a.plant []) (commands plant D) q) a.safe.boxes) (sym f.points) there;
  }
    where
      scalars_in : IsWithin (scalar_ranges p) D.scalars
      scalars_in = subst (IsWithin (scalar_ranges p)) (sym f.scalars) (published_within p (is_enabled p C n) node.writes.items draft C.scalars h.scalars)

      left_other : (i : ℕ) → (i ≡ n → ⊥) → is_left D i ≡ is_left C i
      left_other i ne = ap (λ l. slice_index_or l i false) f.left ∙ left_same C.left n i ne

      left_now : (i : ℕ) → i ≡ n → is_left D i ≡ false
      left_now i e = ap (λ l. slice_index_or l i false) f.left ∙ ap (λ k. slice_index_or (slice_set C.left n false) k false) e ∙ left_none C.left n

      locals_in : (i : ℕ) (other : NodeInfo) → At p.nodes i other → IsWithin (local_ranges other) (locals_of D i)
      locals_in i other at =
          subst (λ l. IsWithin (local_ranges other) (slice_index_or l i [])) (sym f.locals_set) (⊎_elim
          (λ (e : i ≡ n).
          let same : other ≡ node = at_same p.nodes n other node (subst (λ k. At p.nodes k other) e at) at_n in
          let lt : n < length C.locals = omega (arith, slice_get_within p.nodes n node at_n, h.sizes.locals) in
          let new : slice_index_or (slice_set C.locals n locals) i [] ≡ locals = ap (λ k. slice_index_or (slice_set C.locals n locals) k []) e
          ∙ get_or-set_same C.locals n locals [] lt in
          subst (λ o. IsWithin (local_ranges o) (slice_index_or (slice_set C.locals n locals) i [])) (sym same)
          (subst (IsWithin (local_ranges node)) (sym new) within))
          (λ (ne : i ≡ n → ⊥). subst (IsWithin (local_ranges other)) (sym (get_or-set_other C.locals n i locals [] ne)) (h.locals i other at))
          (cases_eq i n))

      mine : (m : ℕ) (a : ModuleInfo) (plant : PlantInfo) (sc : NodeInfo) (q : ℕ) → At p.modules m a → At p.plants a.plant plant → At p.nodes a.sc sc
          → mode_of C m ≡ Sc → IsUntil j (is_left D a.sc) sc.period sc.offset C.time q → a.sc ≡ n
          → AllInside (HeldReach p plant (point_of C a.plant) (commands plant D) q) a.safe.boxes
      mine m a plant sc q at_m at_p at_s mode u e =
          let same : sc ≡ node = at_same p.nodes n sc node (subst (λ k. At p.nodes k sc) e at_s) at_n in
          let bound : q ≤ sc.period + j = until_bound j (is_left D a.sc) sc.period sc.offset C.time q (typed.node_times a.sc sc at_s) u in
          let per : sc.period ≡ node.period = ap (λ x. x.period) same in
          ⊎_elim
          (λ on.
          inside_fewer p plant (λ d. d ≡ commands plant D) (point_of C a.plant) q (node.period + j) a.safe.boxes (omega (arith, bound, per))
          (safe m a plant at_m at_p e mode on scalars_in))
          (λ off.
          let o = allowed_false p.modules C.modes n off in
          ⊎_elim
          (λ first.
          let mm = well.composed.own_node m o.0 a o.1 n at_m o.2 (inr e) (inl first.0) in
          let ab : a ≡ o.1 = same_module p.modules m o.0 a o.1 mm at_m o.2 in
          absurd (typed.apart m a at_m (ap (λ x. x.ac) ab ∙ first.0 ∙ sym e)))
          (λ second.
          let mm = well.composed.own_node m o.0 a o.1 n at_m o.2 (inr e) (inr second.0) in
          let clash : Sc ≡ Ac = sym mode ∙ ap (λ k. slice_index_or C.modes k Sc) mm ∙ second.1 in
          cc)
          (allows_not o.1 (slice_index_or C.modes o.0 Sc) n o.3))
          (cases_Bool (is_enabled p C n))

  -- a coded node's firing
  pub code_holds : (C D : Configuration) (n : ℕ) → KeepsInvariant p j C → CodeFires p n C D → KeepsInvariant p j D
  code_holds C D n h s =
      let within : IsWithin (local_ranges s.node) s.fired.locals =
      exec_locals s.acts (local_ranges s.node) (write_ranges p s.node) (reading s.node C.scalars C.points) (locals_of C n) s.fired (h.locals n s.node s.is)
      s.runs in
      fires_hold C D h n s.node s.fired.locals s.fired.draft s.is s.fires within (λ m a plant at_m at_p e mode on scalars_in.
      let at_s : At p.nodes a.sc s.node = subst (λ k. At p.nodes k s.node) (sym e) s.is in
      let c_in : IsWithin (input_ranges p plant) (commands plant D) = within_picked (scalar_ranges p) D.scalars plant.inputs.items scalars_in in
      let agrees : (i k l : ℕ) (z : ℤ) → At s.node.writes.items i l → At plant.inputs.items k l → At s.fired.draft i (Some z)
      → At (commands plant D) k z = λ i k l z at_w at_i at_d.
      let r = exec_draft s.acts (local_ranges s.node) (write_ranges p s.node) (reading s.node C.scalars C.points) (locals_of C n) s.fired
      (h.locals n s.node s.is) s.runs i z at_d in
      let range_is : r.0 ≡ range_of p.scalars l = at_same (write_ranges p s.node) i r.0 (range_of p.scalars l) r.1
      (at_map (range_of p.scalars) s.node.writes.items i l at_w) in
      let z_in : IsIn (range_of p.scalars l) z = subst (λ x. IsIn x z) range_is r.2 in
      let lt : l < length C.scalars = omega (arith, typed.inside n s.node l s.is (i, at_w), h.sizes.scalars) in
      let set : number_of D l ≡ z =
      ap (λ xs. slice_index_or xs l (pos 0)) s.fires.scalars
      ∙ ap (λ b. slice_index_or (published b p s.node.writes.items s.fired.draft C.scalars) l (pos 0)) on
      ∙ publish_set p s.node.writes.items s.fired.draft C.scalars i l z (λ x y w at_x at_y. typed.once n s.node x y w s.is at_x at_y) at_w at_d z_in lt in
      at_map (number_of D) plant.inputs.items k l at_i ∙ ap Some set in
      well.safe_holds m a plant s.node s.acts at_m at_p at_s s.coded (point_of C a.plant) C.scalars C.points (locals_of C n) s.fired (commands plant D)
      (in_safe p j typed well C h m a plant at_m at_p) refl (meets p j typed well C n s.node h s.is) s.runs c_in agrees)

  -- an external node's firing
  pub guest_holds : (C D : Configuration) (n : ℕ) (draft : List (Option ℤ)) → KeepsInvariant p j C → GuestFires p n draft C D → KeepsInvariant p j D
  guest_holds C D n draft h s =
      fires_hold C D h n s.node (locals_of C n) draft s.is s.fires (h.locals n s.node s.is) (λ m a plant at_m at_p e mode on scalars_in.
      let t = typed.sc_is m a at_m in
      let same : t.0 ≡ s.node = at_same p.nodes n t.0 s.node (subst (λ k. At p.nodes k t.0) e t.2) s.is in
      let body : s.node.body ≡ Some t.3.0 = ap (λ x. x.body) (sym same) ∙ t.3.1 in
      absurd (none-some t.3.0 (sym s.external ∙ body)))
