-- What a guard keeps, and what follows from it.
use Rattle.std.proofs.Common.{◌≡◌, ℕ, ◌<◌, ◌≤◌, ℤ, Bool, true, false, ⊎_elim, List, [], Option, length, sym, ap, ◌∙◌, subst, arith}
use Rattle.std.specs.Prelude.{slice_index_or, slice_set}
use Rattle.std.proofs.lemmas.Bool.{cases_eq, false≢true}
use Rattle.std.proofs.lemmas.List.{get_or-set_same, get_or-set_other, length-set, length-map}
use Rattle.std.proofs.lemmas.Option.{slice_get_within}
use Rattle.sot_lists.specs.Places.{At, Has}
use Rattle.sot_lists.proofs.Places.{at_same}
use Rattle.sot_box.specs.Sides.{Side}
use Rattle.sot_box.specs.Boxes.{IsWithin, point_box}
use Rattle.sot_box.proofs.Ranges.{within_length}
use Rattle.sot_lang.specs.declared.act.Act.{Act}
use Rattle.sot_lang.specs.declared.tables.Slot.{Slot}
use Rattle.sot_lang.specs.declared.tables.Slot.TheVariants.{Scalar, State}
use Rattle.sot_lang.specs.declared.tables.NodeInfo.{NodeInfo}
use Rattle.sot_lang.specs.declared.tables.ModuleInfo.{ModuleInfo}
use Rattle.sot_lang.specs.Tables.{Tables}
use Rattle.sot_lang.specs.TableRules.{MeetsTableRules, IsCoded}
use Rattle.sot_lang.specs.OwnerNames.{width_of}
use Rattle.sot_lang.specs.Ranges.{local_ranges, scalar_ranges}
use Rattle.sot_lang.proofs.Owners.{width_at}
use Rattle.sot_tube.specs.Admitted.{Admitted}
use Rattle.sot_tube.specs.Calls.{MayFollow}
use Rattle.sot_tube.specs.Certified.{IsWellCertified}
use Rattle.sot_tube.specs.WellFormed.{IsWellFormed}
use Rattle.sot_tube.proofs.Certificate.{certified_well}
use Rattle.sot_world.specs.declared.mode.Mode.TheVariants.{Sc}
use Rattle.sot_world.specs.Configurations.{Configuration, mode_of, locals_of, point_of}
use Rattle.sot_world.specs.Steps.{Inputs, Fires, published, is_enabled}
use Rattle.sot_world.specs.Calendar.{NothingLeft}
use Rattle.sot_world.specs.Changes.{IsThere, AreThere, ArePoints}
use Rattle.sot_world.proofs.Modes.{scalars_length}
use Rattle.sot_world.proofs.Publishes.{publish_within}
use Rattle.sot_world.proofs.Writes.{write_within}
use Rattle.sot_law_observed_runs.specs.Tubes.{KeepsTubes}
use Rattle.sot_law_observed_runs.proofs.Ticking.{next_boxes}
use Rattle.sot_guard.specs.Guarding.{IsGuarding, last_time}
use Rattle.sot_guard.specs.Outside.{HaveBoxes}
use Rattle.sot_guard.specs.Running.{MayRunOn}
use Rattle.sot_guard.specs.Resuming.{AreHeldSafe}
use Rattle.sot_guard.specs.Beginning.{IsOpeningAt}
use Rattle.sot_guard.proofs.Holding.{held_starts_keep_tubes}

published_within : (p : Tables) (b : Bool) (ws : List ℕ) (draft : List (Option ℤ)) (xs : List ℤ) → IsWithin (scalar_ranges p) xs
    → IsWithin (scalar_ranges p) (published b p ws draft xs)
published_within p true ws draft xs w = publish_within p ws draft xs w
published_within p false ws draft xs w = w

module _ (a : Admitted) (t : Bool) (C : Configuration) (g : IsGuarding a t C) where
  pub well : IsWellFormed a.program a.cert.jitter
  well = certified_well a.program a.cert.jitter a.cert g.rules.typed g.certified

  -- there is a number in each slot that a node reads
  reads_there : (n : ℕ) (node : NodeInfo) → At a.program.nodes n node → AreThere C.scalars C.points node.reads.items
  reads_there n node at i slot at_slot = there slot (i, at_slot)
    where
      there : (slot : Slot) → Has node.reads.items slot → IsThere C.scalars C.points slot
      there (Scalar k) has = omega (arith, (g.rules.nodes n node at).reads_scalars k has, g.sizes.scalars)
      there (State k v) has =
          let other = g.rules.typed.reads_are n node k v at has in
          let below = (g.rules.nodes n node at).reads_states k v has in
          let wide = g.points.widths k other.0 other.1 in (
            omega (arith, slice_get_within a.program.plants k other.0 other.1, g.sizes.points),
            omega (arith, below, wide, width_at a.program.plants k other.0 other.1),
          )

  -- a coded node can be run
  pub may_run : (n : ℕ) (node : NodeInfo) (acts : List Act) → At a.program.nodes n node → IsCoded node acts
      → MayRunOn a.program n C.scalars C.points (locals_of C n)
  may_run n node acts at coded = record {
    node = node;
    acts = acts;
    is = at;
    coded = coded;
    there = reads_there n node at;
    locals_are =
        within_length (local_ranges node) (locals_of C n) (g.locals n node at)
        ∙ length-map node.locals.items (λ l. let r : Side = record { lo = l.lo; hi = l.hi } in r);
  }

  -- a decision's tube can be followed from the plant's point
  pub may_follow : (m : ℕ) (info : ModuleInfo) → At a.program.modules m info → MayFollow a.program m (point_box (point_of C info.plant))
  may_follow m info at = record {
    boxes = λ i b at_b. (g.certified.boxes i b at_b).0;
    exists' = slice_get_within a.program.modules m info at;
    width = λ b at_b.
        let same : info ≡ b = at_same a.program.modules m info b at at_b in
        let plant = g.rules.typed.plant_is m info at in
        let wide = g.points.widths info.plant plant.0 plant.1 ∙ sym (width_at a.program.plants info.plant plant.0 plant.1) in
        length-map (point_of C info.plant) (λ x. let r : Side = record { lo = x; hi = x } in r) ∙ wide ∙ ap (λ x. width_of a.program.plants x.plant) same;
  }

  pub jitter_below : (m : ℕ) (info : ModuleInfo) → At a.program.modules m info → a.cert.jitter < 1000
  jitter_below m info at = (let below = g.certified.module_jitter m info at in let few = (g.rules.modules m info at).period in omega (arith, below, few))

  -- where nothing is left each plant has a next box
  pub have_boxes : NothingLeft a.program C → t ≡ true → HaveBoxes a.program C.scalars C.points
  have_boxes none on = next_boxes a.program a.cert.jitter g.rules well C (g.tubes on) (record {
    nodes = λ n node d at left last. absurd (false≢true (sym (none.nodes n node at) ∙ left));
    modules = λ m info d at left last. absurd (false≢true (sym (none.modules m info at) ∙ left));
  })

  -- what is kept after an input
  pub input_guards : (D : Configuration) (topic : ℕ) (value : List ℤ) → Inputs a.program topic value C D
      → (t ≡ true → KeepsTubes a.program a.cert.jitter D) → IsGuarding a t D
  input_guards D topic value s tubes =
      let scalars : IsWithin (scalar_ranges a.program) D.scalars =
      subst (IsWithin (scalar_ranges a.program)) (sym s.scalars) (write_within (scalar_ranges a.program) s.info.first value C.scalars g.scalars s.typed) in
      record {
        rules = g.rules;
        certified = g.certified;
        time = subst (λ x. x ≤ last_time) (ap (λ x. x.time) (sym s.rest)) g.time;
        scalars = scalars;
        locals = λ n node at. subst (λ l. IsWithin (local_ranges node) (slice_index_or l n [])) (ap (λ x. x.locals) (sym s.rest)) (g.locals n node at);
        sizes = record {
          left = ap (λ x. length x.left) s.rest ∙ g.sizes.left;
          left_dm = ap (λ x. length x.left_dm) s.rest ∙ g.sizes.left_dm;
          modes = ap (λ x. length x.modes) s.rest ∙ g.sizes.modes;
          scalars = scalars_length a.program D.scalars scalars;
          locals = ap (λ x. length x.locals) s.rest ∙ g.sizes.locals;
          points = ap (λ x. length x.points) s.rest ∙ g.sizes.points;
        };
        points = subst (ArePoints a.program) (ap (λ x. x.points) (sym s.rest)) g.points;
        tubes = tubes;
        safe = λ off m. ap (λ x. mode_of x m) s.rest ∙ g.safe off m;
      }

  -- .. after a firing with these locals and this draft
  pub fires_guards : (D : Configuration) (n : ℕ) (node : NodeInfo) (locals : List ℤ) (draft : List (Option ℤ)) → At a.program.nodes n node
      → Fires a.program n node locals draft C D → IsWithin (local_ranges node) locals → (t ≡ true → KeepsTubes a.program a.cert.jitter D)
      → IsGuarding a t D
  fires_guards D n node locals draft at f within tubes =
      let scalars : IsWithin (scalar_ranges a.program) D.scalars = subst (IsWithin (scalar_ranges a.program)) (sym f.scalars)
      (published_within a.program (is_enabled a.program C n) node.writes.items draft C.scalars g.scalars) in
      record {
        rules = g.rules;
        certified = g.certified;
        time = subst (λ x. x ≤ last_time) (sym f.time) g.time;
        scalars = scalars;
        locals = locals_in;
        sizes = record {
          left = ap length f.left ∙ length-set C.left n false ∙ g.sizes.left;
          left_dm = ap length f.left_dm ∙ g.sizes.left_dm;
          modes = ap length f.modes ∙ g.sizes.modes;
          scalars = scalars_length a.program D.scalars scalars;
          locals = ap length f.locals_set ∙ length-set C.locals n locals ∙ g.sizes.locals;
          points = ap length f.points ∙ g.sizes.points;
        };
        points = subst (ArePoints a.program) (sym f.points) g.points;
        tubes = tubes;
        safe = λ off m. ap (λ l. slice_index_or l m Sc) f.modes ∙ g.safe off m;
      }
    where
      locals_in : (i : ℕ) (other : NodeInfo) → At a.program.nodes i other → IsWithin (local_ranges other) (locals_of D i)
      locals_in i other at_i =
          subst (λ l. IsWithin (local_ranges other) (slice_index_or l i [])) (sym f.locals_set) (⊎_elim
          (λ (e : i ≡ n).
          let same : other ≡ node = at_same a.program.nodes n other node (subst (λ k. At a.program.nodes k other) e at_i) at in
          let lt : n < length C.locals = omega (arith, slice_get_within a.program.nodes n node at, g.sizes.locals) in
          let new : slice_index_or (slice_set C.locals n locals) i [] ≡ locals = ap (λ k. slice_index_or (slice_set C.locals n locals) k []) e
          ∙ get_or-set_same C.locals n locals [] lt in
          subst (λ o. IsWithin (local_ranges o) (slice_index_or (slice_set C.locals n locals) i [])) (sym same)
          (subst (IsWithin (local_ranges node)) (sym new) within))
          (λ (ne : i ≡ n → ⊥). subst (IsWithin (local_ranges other)) (sym (get_or-set_other C.locals n i locals [] ne)) (g.locals i other at_i))
          (cases_eq i n))

-- what is kept at an opening that is held safe
pub opened_guards : (a : Admitted) (t : ℕ) (start : List (List ℤ)) (C : Configuration) → t ≤ last_time → MeetsTableRules a.program
    → IsWellCertified a.program a.cert.jitter a.cert → IsOpeningAt a.program t start C → AreHeldSafe a.program a.cert.jitter C → IsGuarding a true C
opened_guards a t start C within rules certified o held =
    let h = held_starts_keep_tubes a.program a.cert t start C rules certified o held in
    record {
      rules = rules;
      certified = certified;
      time = omega (arith, o.time_is, within);
      scalars = h.keeps.scalars;
      locals = h.keeps.locals;
      sizes = o.sizes;
      points = record { each = o.sizes.points; widths = o.widths };
      tubes = λ on. h;
      safe = λ off. absurd (false≢true (sym off));
    }
