-- A certificate's boxes show that the modules are well formed, point by point.
use Rattle.std.proofs.Common.{◌≡◌, ℕ, suc, ◌+◌, ◌*◌, ◌<◌, ℤ, ⊎_elim, List, [], ◌∷◌, Option, Some, None, map, length, refl, sym, ap, ◌∙◌, subst, arith, eqb}
use Rattle.std.specs.Prelude.{slice_index_or, slice_set}
use Rattle.std.proofs.lemmas.Bool.{cases_eq, eq-eqb, ne_eqb, cond-true, cond-false}
use Rattle.std.proofs.lemmas.List.{get_or-set_same, get_or-set_other, length-map}
use Rattle.std.proofs.lemmas.Option.{slice_get_within, same_Some}
use Rattle.sot_box.specs.Sides.{Side, IsIn}
use Rattle.sot_lang.specs.declared.tables.Slot.{Slot}
use Rattle.sot_lang.specs.declared.tables.Slot.TheVariants.{Scalar, State}
use Rattle.sot_lang.specs.declared.act.Act.{Act}
use Rattle.sot_lang.specs.declared.tables.PlantInfo.{PlantInfo}
use Rattle.sot_lang.specs.declared.tables.NodeInfo.{NodeInfo}
use Rattle.sot_lang.specs.declared.tables.ModuleInfo.{ModuleInfo}
use Rattle.sot_lang.specs.declared.cert.Cert.{Cert}
use Rattle.sot_lang.specs.Tables.{Tables}
use Rattle.sot_lists.specs.Places.{At, Has}
use Rattle.sot_box.specs.Boxes.{IsWithin}
use Rattle.sot_box.specs.Regions.{IsInRegion}
use Rattle.sot_lang.specs.Ranges.{range_of, input_ranges, local_ranges, write_ranges, scalar_ranges}
use Rattle.sot_lang.specs.Readings.{number_at, reading}
use Rattle.sot_iv.specs.declared.drafted.Drafted.{Drafted}
use Rattle.sot_iv.specs.declared.drafted.Drafted.TheVariants.{Absent, Maybe, Sure}
use Rattle.sot_lang.specs.SafeRegions.{AllHulls}
use Rattle.sot_lang.specs.TableRules.{IsCoded, IsTyped}
use Rattle.sot_tube.specs.WellFormed.{MayMeet, NeverTraps, HoldsForAPeriod, HoldsForTwoPeriods, IsWellFormed}
use Rattle.sot_iv.specs.NodeIntervals.{interval_at, reading_intervals}
use Rattle.sot_tube.specs.Certified.{sure_interval, command_interval, command_intervals, IsWellCertified}
use Rattle.sot_lists.proofs.Places.{at_map}
use Rattle.sot_box.proofs.Ranges.{within_read, within_length, within_at}
use Rattle.sot_tube.proofs.Tubes.{tube_inside}
use Rattle.sot_iv.proofs.BodySound.{IsDrafted, AreDrafted, exec_sound}

pub in_some_box : (bs : List (List Side)) (s : List ℤ) → IsInRegion bs s → (i : ℕ) × (b : List Side) × At bs i b × IsWithin b s
in_some_box [] s h = absurd h
in_some_box (b ∷ bs) s h = ⊎_elim (λ w. (0, b, refl, w)) (λ more. let r = in_some_box bs s more in (suc r.0, r.1, r.2, r.3)) h

within_map : {A : Type 0} (f : A → Side) (g : A → ℤ) (xs : List A) → ((x : A) → Has xs x → IsIn (f x) (g x)) → IsWithin (map f xs) (map g xs)
within_map f g [] h = tt
within_map f g (x ∷ xs) h = (let i = h x (0, refl) in (i.0, i.1, within_map f g xs (λ y has. h y (suc has.0, has.1))))

pub within_by : (f : ℕ → Side) (ks : List ℕ) (c : List ℤ) → length c ≡ length ks
    → ((i k : ℕ) (x : ℤ) → At ks i k → At c i x → IsIn (f k) x) → IsWithin (map f ks) c
within_by f [] [] e h = tt
within_by f (k ∷ ks) (x ∷ c) e h = (let i = h 0 k x refl refl in (i.0, i.1, within_by f ks c (omega arith) (λ n l y a b. h (suc n) l y a b)))
within_by f [] (x ∷ c) e h = absurd (omega arith)
within_by f (k ∷ ks) [] e h = absurd (omega arith)

-- a command that agrees with what is drafted lies in its interval
pub command_lies : (p : Tables) (ws : List ℕ) (ds : List Drafted) (os : List (Option ℤ)) (k : ℕ) (x : ℤ) → AreDrafted ds os → IsIn (range_of p.scalars k) x
    → ((i : ℕ) (z : ℤ) → At ws i k → At os i (Some z) → x ≡ z) → IsIn (command_interval p ws ds k) x
command_lies p [] ds os k x d i h = i
command_lies p (w ∷ ws) [] os k x d i h = i
command_lies p (w ∷ ws) (r ∷ ds) [] k x d i h = absurd d
command_lies p (w ∷ ws) (r ∷ ds) (o ∷ os) k x d i h =
    ⊎_elim
    (λ e. subst (λ q. IsIn q x) (sym (cond-true (eqb w k) (sure_interval (range_of p.scalars k) r) (command_interval p ws ds k) (eq-eqb w k e)))
    (sure_lies (range_of p.scalars k) r o x d.0 i (λ z at. h 0 z (ap Some e) (ap Some at))))
    (λ ne. subst (λ q. IsIn q x) (sym (cond-false (eqb w k) (sure_interval (range_of p.scalars k) r) (command_interval p ws ds k) (ne_eqb w k ne)))
    (command_lies p ws ds os k x d.1 i (λ n z a b. h (suc n) z a b)))
    (cases_eq w k)
  where
    sure_lies : (whole : Side) (r : Drafted) (o : Option ℤ) (x : ℤ) → IsDrafted r o → IsIn whole x → ((z : ℤ) → o ≡ Some z → x ≡ z)
        → IsIn (sure_interval whole r) x
    sure_lies whole Absent o x d i h = i
    sure_lies whole (Maybe r) o x d i h = i
    sure_lies whole (Sure r) (Some z) x d i h = subst (IsIn r) (sym (h z refl)) d
    sure_lies whole (Sure r) None x d i h = absurd d

-- what a node reads lies in its ranges
pub reading_within : (p : Tables) (node : NodeInfo) (boxes : List (List Side)) (scalars : List ℤ) (points : List (List ℤ)) → IsWithin (scalar_ranges p) scalars
    → ((k v : ℕ) → Has node.reads.items (State k v) → IsWithin (slice_index_or boxes k []) (slice_index_or points k []))
    → IsWithin (reading_intervals p node boxes) (reading node scalars points)
reading_within p node boxes scalars points w h = within_map (interval_at p boxes) (number_at scalars points) node.reads.items each
  where
    each : (s : Slot) → Has node.reads.items s → IsIn (interval_at p boxes s) (number_at scalars points s)
    each (Scalar k) has = within_read (scalar_ranges p) scalars k w
    each (State k v) has = within_read (slice_index_or boxes k []) (slice_index_or points k []) v (h k v has)

module _ (p : Tables) (j : ℕ) (cert : Cert) (typed : IsTyped p) (c : IsWellCertified p j cert) where
  never_traps : (n : ℕ) (node : NodeInfo) (acts : List Act) → At p.nodes n node → IsCoded node acts → NeverTraps p node acts
  never_traps n node acts at coded scalars points locals meets =
      let free = c.trap_free n node acts at coded in
      let reads = reading_within p node free.0 scalars points meets.scalars_in (λ k v has.
      let other = typed.reads_are n node k v at has in
      (free.1.1 k other.0 other.1).holds (slice_index_or points k []) (meets.plants_in k v has)) in
      let e = exec_sound acts (local_ranges node) (write_ranges p node) (reading_intervals p node free.0) (local_ranges node) (reading node scalars points)
      locals free.2.0 reads meets.locals_in free.2.1 in
      (e.0, e.1)

  -- what the safe node meets with its plant in a cell lies in what the cell's evaluation reads
  cell_reading : (m : ℕ) (a : ModuleInfo) (plant : PlantInfo) (sc : NodeInfo) (hulls : List (List Side)) (cell : List Side) (scalars : List ℤ)
      (points : List (List ℤ)) (locals : List ℤ) → At p.plants a.plant plant → At p.nodes a.sc sc → AllHulls p hulls
      → IsWithin cell (slice_index_or points a.plant []) → MayMeet p sc scalars points locals
      → IsWithin (reading_intervals p sc (slice_set hulls a.plant cell)) (reading sc scalars points)
  cell_reading m a plant sc hulls cell scalars points locals at_p at_s are in_cell meets =
      let lt : a.plant < length hulls = omega (arith, slice_get_within p.plants a.plant plant at_p, are.0) in
      reading_within p sc (slice_set hulls a.plant cell) scalars points meets.scalars_in (λ k v has.
      ⊎_elim
      (λ (same : k ≡ a.plant). subst (λ q. IsWithin (slice_index_or (slice_set hulls a.plant cell) q []) (slice_index_or points q [])) (sym same)
      (subst (λ q. IsWithin q (slice_index_or points a.plant [])) (sym (get_or-set_same hulls a.plant cell [] lt)) in_cell))
      (λ (ne : k ≡ a.plant → ⊥). let other = typed.reads_are a.sc sc k v at_s has in
      subst (λ q. IsWithin q (slice_index_or points k [])) (sym (get_or-set_other hulls a.plant k cell [] ne))
      ((are.1 k other.0 other.1).holds (slice_index_or points k []) (meets.plants_in k v has)))
      (cases_eq k a.plant))

  holds_for_a_period : (m : ℕ) (a : ModuleInfo) (plant : PlantInfo) (sc : NodeInfo) (acts : List Act) → At p.modules m a → At p.plants a.plant plant
      → At p.nodes a.sc sc → IsCoded sc acts → HoldsForAPeriod p j a plant sc acts
  holds_for_a_period m a plant sc acts at_m at_p at_s coded s scalars points locals fired cs in_safe is_at meets runs in_types agrees =
      let e = c.entries m a at_m in
      let box = in_some_box e.0.closed.boxes s (c.closed_cover m a e.0 at_m e.1 s in_safe) in
      let b = box.1 in
      let cell = c.closed_cells m a plant sc acts e.0 box.0 b at_m at_p at_s coded e.1 box.2 in
      let reads = cell_reading m a plant sc cell.drafts.hulls b scalars points locals at_p at_s cell.drafts.are (subst (IsWithin b) (sym is_at) box.3) meets in
      let x = exec_sound acts (local_ranges sc) (write_ranges p sc) (reading_intervals p sc (slice_set cell.drafts.hulls a.plant b)) (local_ranges sc)
      (reading sc scalars points) locals cell.fired reads meets.locals_in cell.drafts.runs in
      let same : x.0 ≡ fired = cc in
      let drafted : AreDrafted cell.fired.draft fired.draft = subst (λ q. AreDrafted cell.fired.draft q.draft) same x.2.draft in
      let lies : IsWithin (command_intervals p plant sc cell.fired.draft) cs =
      within_by (command_interval p sc.writes.items cell.fired.draft) plant.inputs.items cs
      (within_length (input_ranges p plant) cs in_types ∙ length-map plant.inputs.items (range_of p.scalars))
      (λ i k y at_i at_c. command_lies p sc.writes.items cell.fired.draft fired.draft k y drafted
      (within_at (input_ranges p plant) cs i (range_of p.scalars k) y in_types (at_map (range_of p.scalars) plant.inputs.items i k at_i) at_c)
      (λ l z at_w at_d. same_Some y z (sym at_c ∙ agrees l i k z at_w at_i at_d))) in
      tube_inside p plant (λ d. d ≡ cs) (command_intervals p plant sc cell.fired.draft) a.safe.boxes b (sc.period + j) s
      (λ d is. subst (IsWithin (command_intervals p plant sc cell.fired.draft)) (sym is) lies) box.3 cell.stays

  holds_for_two_periods : (m : ℕ) (a : ModuleInfo) (plant : PlantInfo) → At p.modules m a → At p.plants a.plant plant → HoldsForTwoPeriods p j a plant
  holds_for_two_periods m a plant at_m at_p s safer =
      let e = c.entries m a at_m in
      let box = in_some_box e.0.reach.boxes s (c.reach_cover m a e.0 at_m e.1 s safer) in
      tube_inside p plant (IsWithin (input_ranges p plant)) (input_ranges p plant) a.safe.boxes box.1 (2 * (a.period + j)) s (λ d w. w) box.3
      (c.reach_cells m a plant e.0 box.0 box.1 at_m at_p e.1 box.2)

  pub certified_well : IsWellFormed p j
  certified_well = record {
    node_jitter = c.node_jitter;
    module_jitter = c.module_jitter;
    composed = record { own_node = c.own_node; own_output = c.own_output; own_plant = c.own_plant; own_inputs = c.own_inputs };
    periods = c.periods;
    outputs = c.outputs;
    no_trap = never_traps;
    safe_holds = holds_for_a_period;
    safer_holds = holds_for_two_periods;
  }
