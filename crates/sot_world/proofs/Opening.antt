-- The invariant holds in a safer opening.
use Rattle.std.proofs.Common.{◌≡◌, ℕ, ◌+◌, ◌*◌, ◌≤◌, ℤ, inr, List, [], map, sym, ap, ◌∙◌, subst, arith}
use Rattle.std.specs.Prelude.{slice_index_or}
use Rattle.std.proofs.lemmas.Option.{get_or_from_slice_get}
use Rattle.sot_lang.specs.Tables.{Tables}
use Rattle.sot_box.specs.Boxes.{IsWithin}
use Rattle.sot_lang.specs.Ranges.{input_ranges, local_ranges, scalar_ranges}
use Rattle.sot_world.specs.Configurations.{Configuration, Ac, Sc, is_left, mode_of, point_of, commands, IsOpening, IsSafer}
use Rattle.sot_lang.specs.TableRules.{IsTyped}
use Rattle.sot_tube.specs.WellFormed.{IsWellFormed}
use Rattle.sot_world.specs.Invariant.{KeepsInvariant}
use Rattle.sot_calendar.specs.Due.{IsStillDue}
use Rattle.sot_calendar.proofs.Clock.{until_bound, last_now}
use Rattle.sot_lists.proofs.Places.{at_map}
use Rattle.sot_box.proofs.Ranges.{within_picked}
use Rattle.sot_lang.proofs.Reaches.{inside_fewer, inside_held}
use Rattle.sot_world.proofs.Modes.{every_sc}

module _ (p : Tables) (j : ℕ) (typed : IsTyped p) (well : IsWellFormed p j) where
  -- a safer opening
  pub opening_holds : (start : List (List ℤ)) (C : Configuration) → IsOpening p start C → IsSafer p C → KeepsInvariant p j C
  opening_holds start C o safer = record {
    scalars = subst (IsWithin (scalar_ranges p)) (sym o.scalars) typed.inits;
    locals = λ n node at. subst (λ l. IsWithin (local_ranges node) (slice_index_or l n [])) (sym o.locals)
        (subst (IsWithin (local_ranges node)) (sym (get_or_from_slice_get (map (λ k. map (λ l. l.init) k.locals.items) p.nodes) n _ []
        (at_map (λ k. map (λ l. l.init) k.locals.items) p.nodes n node at))) (typed.local_inits n node at));
    sizes = o.sizes;
    due =
        λ n node at is. subst (λ t. IsStillDue j node.period node.offset t) (sym o.time)
        (0, last_now node.period node.offset 0 ((o.left n node at).0 is), omega arith);
    due_dm = λ m a at is. subst (λ t. IsStillDue j a.period a.offset t) (sym o.time) (0, last_now a.period a.offset 0 ((o.left_dm m a at).0 is), omega arith);
    ac = λ m a plant r at_m at_p mode u. (let clash : Sc ≡ Ac = sym (all_sc m) ∙ mode in cc);
    sc = λ m a plant sc q at_m at_p at_s mode u.
        let bound : q ≤ sc.period + j = until_bound j (is_left C a.sc) sc.period sc.offset C.time q (typed.node_times a.sc sc at_s) u in
        let per : sc.period ≤ a.period = well.periods m a at_m sc (inr at_s) in
        let scalars_in : IsWithin (scalar_ranges p) C.scalars = subst (IsWithin (scalar_ranges p)) (sym o.scalars) typed.inits in
        inside_held p plant (point_of C a.plant) (commands plant C) q a.safe.boxes (within_picked (scalar_ranges p) C.scalars plant.inputs.items scalars_in)
        (inside_fewer p plant (IsWithin (input_ranges p plant)) (point_of C a.plant) q (2 * (a.period + j)) a.safe.boxes (omega arith)
        (well.safer_holds m a plant at_m at_p (point_of C a.plant) (safer m a at_m)));
  }
    where
      all_sc : (m : ℕ) → mode_of C m ≡ Sc
      all_sc m = ap (λ l. slice_index_or l m Sc) o.modes ∙ every_sc p.modules m
