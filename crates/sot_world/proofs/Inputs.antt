-- The invariant holds after an input.
use Rattle.std.proofs.Common.{◌≡◌, ℕ, ◌+◌, ℤ, pos, List, [], length, sym, ap, ◌∙◌, subst, arith}
use Rattle.std.specs.Prelude.{slice_index_or}
use Rattle.sot_lang.specs.Tables.{Tables}
use Rattle.sot_box.specs.Boxes.{IsWithin}
use Rattle.sot_lang.specs.Reach.{AnyReach, HeldReach, AllInside}
use Rattle.sot_calendar.specs.Due.{IsUntil, IsStillDue}
use Rattle.sot_world.specs.Configurations.{Configuration, is_left, is_left_dm, mode_of, number_of, point_of, commands}
use Rattle.sot_lang.specs.Ranges.{local_ranges, scalar_ranges}
use Rattle.sot_world.specs.Steps.{Inputs}
use Rattle.sot_lang.specs.TableRules.{IsTyped}
use Rattle.sot_tube.specs.WellFormed.{IsWellFormed}
use Rattle.sot_world.specs.Invariant.{KeepsInvariant}
use Rattle.sot_lists.proofs.Places.{map_same}
use Rattle.sot_tube.proofs.ByScalars.{composed_by_scalars}
use Rattle.sot_world.proofs.Writes.{write_within, write_other, write_length}

module _ (p : Tables) (j : ℕ) (typed : IsTyped p) (well : IsWellFormed p j) where
  -- an input
  pub inputs_hold : (C D : Configuration) (topic : ℕ) (value : List ℤ) → KeepsInvariant p j C → Inputs p topic value C D → KeepsInvariant p j D
  inputs_hold C D topic value h s = record {
    scalars = subst (IsWithin (scalar_ranges p)) (sym s.scalars) (write_within (scalar_ranges p) s.info.first value C.scalars h.scalars s.typed);
    locals = λ n node at. subst (λ l. IsWithin (local_ranges node) (slice_index_or l n [])) (sym (ap (λ x. x.locals) s.rest)) (h.locals n node at);
    sizes = record {
      left = ap (λ x. length x.left) s.rest ∙ h.sizes.left;
      left_dm = ap (λ x. length x.left_dm) s.rest ∙ h.sizes.left_dm;
      modes = ap (λ x. length x.modes) s.rest ∙ h.sizes.modes;
      scalars = ap length s.scalars ∙ write_length s.info.first value C.scalars ∙ h.sizes.scalars;
      locals = ap (λ x. length x.locals) s.rest ∙ h.sizes.locals;
      points = ap (λ x. length x.points) s.rest ∙ h.sizes.points;
    };
    due = λ n node at is. subst (λ t. IsStillDue j node.period node.offset t) (sym time) (h.due n node at (ap (λ x. is_left x n) (sym s.rest) ∙ is));
    due_dm = λ m a at is. subst (λ t. IsStillDue j a.period a.offset t) (sym time) (h.due_dm m a at (ap (λ x. is_left_dm x m) (sym s.rest) ∙ is));
    ac = λ m a plant r at_m at_p mode u.
        let u' : IsUntil j (is_left_dm C m) a.period a.offset C.time r = subst (λ x. IsUntil j (is_left_dm x m) a.period a.offset x.time r) s.rest u in
        subst (λ ps. AllInside (AnyReach p plant (slice_index_or ps a.plant []) (r + a.period + j)) a.safe.boxes) (sym points)
        (h.ac m a plant r at_m at_p (ap (λ x. mode_of x m) (sym s.rest) ∙ mode) u');
    sc = λ m a plant sc q at_m at_p at_s mode u.
        let u' : IsUntil j (is_left C a.sc) sc.period sc.offset C.time q = subst (λ x. IsUntil j (is_left x a.sc) sc.period sc.offset x.time q) s.rest u in
        let same : commands plant C ≡ commands plant D = map_same (number_of C) (number_of D) plant.inputs.items (λ k has.
        sym (ap (λ xs. slice_index_or xs k (pos 0)) s.scalars
        ∙ write_other s.info.first value C.scalars k (λ i lt e.
        typed.outside a.sc sc topic i s.info at_s s.is s.outside (omega (arith, s.size))
        (rw (← e) ((composed_by_scalars p typed well.composed).own_inputs m a plant sc has.0 k at_m at_p at_s has.1))))) in
        subst (λ c. AllInside (HeldReach p plant (point_of D a.plant) c q) a.safe.boxes) same
        (subst (λ ps. AllInside (HeldReach p plant (slice_index_or ps a.plant []) (commands plant C) q) a.safe.boxes) (sym points)
        (h.sc m a plant sc q at_m at_p at_s (ap (λ x. mode_of x m) (sym s.rest) ∙ mode) u'));
  }
    where
      time : D.time ≡ C.time
      time = ap (λ x. x.time) s.rest

      points : D.points ≡ C.points
      points = ap (λ x. x.points) s.rest
