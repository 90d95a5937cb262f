-- From a box that its module's safe region covers, a safe node without traps has least intervals of its drafts.
use Rattle.std.proofs.Common.{◌≡◌, ℕ, zero, suc, ◌<◌, Bool, true, false, ⊎_elim, Ok, List, [], ◌∷◌, map, length, replicate, refl, sym, subst, arith}
use Rattle.std.specs.Prelude.{slice_index_or, slice_set, if◌then◌else◌, ◌==◌}
use Rattle.std.proofs.lemmas.Int.{ints}
use Rattle.std.proofs.lemmas.Bool.{cases_eq}
use Rattle.std.proofs.lemmas.List.{get_or-set_same, get_or-set_other}
use Rattle.std.proofs.lemmas.Option.{slice_get_within}
use Rattle.sot_box.specs.Sides.{Side, AreOrdered, nought}
use Rattle.sot_box.specs.Boxes.{lows}
use Rattle.sot_box.specs.Regions.{Covers}
use Rattle.sot_box.proofs.Ranges.{lows_within, within_in_order}
use Rattle.sot_lists.specs.Places.{At, Has}
use Rattle.sot_lang.specs.declared.act.Act.{Act}
use Rattle.sot_lang.specs.declared.tables.Slot.{Slot}
use Rattle.sot_lang.specs.declared.tables.Slot.TheVariants.{Scalar, State}
use Rattle.sot_lang.specs.declared.tables.PlantInfo.{PlantInfo}
use Rattle.sot_lang.specs.declared.tables.NodeInfo.{NodeInfo}
use Rattle.sot_lang.specs.declared.tables.ModuleInfo.{ModuleInfo}
use Rattle.sot_lang.specs.Tables.{Tables}
use Rattle.sot_lang.specs.OwnerNames.{node_truths}
use Rattle.sot_lang.specs.Ranges.{range_of, scalar_ranges, local_ranges, write_ranges, input_ranges}
use Rattle.sot_lang.specs.SafeRegions.{AllHulls}
use Rattle.sot_lang.specs.TableRules.{MeetsTableRules, IsCoded}
use Rattle.sot_iv.specs.declared.drafted.Drafted.{Drafted}
use Rattle.sot_iv.specs.declared.drafted.Drafted.TheVariants.{Absent, Maybe, Sure}
use Rattle.sot_iv.specs.TermIntervals.{OrMayTrap}
use Rattle.sot_iv.specs.BodyIntervals.{Intervals}
use Rattle.sot_iv.specs.NodeIntervals.{interval_at, reading_intervals, IsNodeExecution}
use Rattle.sot_iv.specs.TrapFree.{IsTrapFree}
use Rattle.sot_iv.specs.Evaluation.{body_intervals}
use Rattle.sot_iv.specs.Monotony.{IsNarrowerDraft, AreNarrowerDrafts}
use Rattle.sot_iv.proofs.Least.{IsOrdered}
use Rattle.sot_iv.proofs.NarrowBoxes.{ordered_narrower}
use Rattle.sot_iv.proofs.Bodies.{execution_is}
use Rattle.sot_iv.proofs.BodyNarrow.{execution_narrow}
use Rattle.sot_tube.specs.Composition.{NoSharedPlant}
use Rattle.sot_tube.specs.Certified.{DraftsFrom, sure_interval, command_interval, command_intervals}
use Rattle.sot_tube.proofs.CellsNarrow.{cell_never_traps}

ordered_read : (rs : List Side) (k : ℕ) → AreOrdered rs → IsOrdered (slice_index_or rs k nought)
ordered_read [] k o = omega (arith, ints)
ordered_read (r ∷ rs) zero o = o.0
ordered_read (r ∷ rs) (suc k) o = ordered_read rs k o.1

ordered_map : {A : Type 0} (f : A → Side) (xs : List A) → ((x : A) → Has xs x → IsOrdered (f x)) → AreOrdered (map f xs)
ordered_map f [] h = tt
ordered_map f (x ∷ xs) h = (h x (0, refl), ordered_map f xs (λ y has. h y (suc has.0, has.1)))

-- a command's interval has a number in it, where those of the drafts have
sure_ordered : (whole : Side) (d e : Drafted) → IsOrdered whole → IsNarrowerDraft d e → IsOrdered (sure_interval whole d)
sure_ordered whole Absent e o n = o
sure_ordered whole (Maybe r) e o n = o
sure_ordered whole (Sure r) (Maybe s) o n = n.1
sure_ordered whole (Sure r) (Sure s) o n = n.1
sure_ordered whole (Sure r) Absent o n = absurd n

either_ordered : (t : Bool) (x y : Side) → IsOrdered x → IsOrdered y → IsOrdered (if t then x else y)
either_ordered true x y a b = a
either_ordered false x y a b = b

command_ordered : (p : Tables) (ws : List ℕ) (ds es : List Drafted) (k : ℕ) → AreOrdered (scalar_ranges p) → AreNarrowerDrafts ds es
    → IsOrdered (command_interval p ws ds k)
command_ordered p [] ds es k o n = ordered_read (scalar_ranges p) k o
command_ordered p (w ∷ ws) [] es k o n = ordered_read (scalar_ranges p) k o
command_ordered p (w ∷ ws) (d ∷ ds) (e ∷ es) k o n =
    either_ordered (w == k) (sure_interval (range_of p.scalars k) d) (command_interval p ws ds k)
    (sure_ordered (range_of p.scalars k) d e (ordered_read (scalar_ranges p) k o) n.0)
    (command_ordered p ws ds es k o n.1)
command_ordered p (w ∷ ws) (d ∷ ds) [] k o n = absurd n

module _ (p : Tables) (rules : MeetsTableRules p) (a : ModuleInfo) (plant : PlantInfo) (sc : NodeInfo)
    (plant_at : At p.plants a.plant plant) (sc_at : At p.nodes a.sc sc) where
  scalars_ordered : AreOrdered (scalar_ranges p)
  scalars_ordered = within_in_order (scalar_ranges p) (map (λ i. i.init) p.scalars) rules.typed.inits

  locals_ordered : AreOrdered (local_ranges sc)
  locals_ordered = within_in_order (local_ranges sc) (map (λ l. l.init) sc.locals.items) (rules.typed.local_inits a.sc sc sc_at)

  -- what the node reads, with its plant in a box
  readings_ordered : (hulls : List (List Side)) (cell : List Side) → AllHulls p hulls → AreOrdered cell
      → AreOrdered (reading_intervals p sc (slice_set hulls a.plant cell))
  readings_ordered hulls cell are ordered = ordered_map (interval_at p (slice_set hulls a.plant cell)) sc.reads.items each
    where
      lt : a.plant < length hulls
      lt = omega (arith, slice_get_within p.plants a.plant plant plant_at, are.0)

      boxes : (k v : ℕ) → Has sc.reads.items (State k v) → AreOrdered (slice_index_or (slice_set hulls a.plant cell) k [])
      boxes k v has =
          ⊎_elim
          (λ (same : k ≡ a.plant). subst (λ q. AreOrdered (slice_index_or (slice_set hulls a.plant cell) q [])) (sym same)
          (subst AreOrdered (sym (get_or-set_same hulls a.plant cell [] lt)) ordered))
          (λ (ne : k ≡ a.plant → ⊥). let other = rules.typed.reads_are a.sc sc k v sc_at has in
          let hull = are.1 k other.0 other.1 in
          subst AreOrdered (sym (get_or-set_other hulls a.plant k cell [] ne))
          (within_in_order (slice_index_or hulls k []) hull.has_point.0 (hull.holds hull.has_point.0 hull.has_point.1)))
          (cases_eq k a.plant)

      each : (x : Slot) → Has sc.reads.items x → IsOrdered (interval_at p (slice_set hulls a.plant cell) x)
      each (Scalar k) has = ordered_read (scalar_ranges p) k scalars_ordered
      each (State k v) has = ordered_read (slice_index_or (slice_set hulls a.plant cell) k []) v (boxes k v has)

  -- its evaluation gives intervals, or a first trap
  outcome : (acts : List Act) (hulls : List (List Side)) (cell : List Side) → IsCoded sc acts → AllHulls p hulls → AreOrdered cell
      → (o : OrMayTrap Intervals) × IsNodeExecution p sc acts (slice_set hulls a.plant cell) o
  outcome acts hulls cell coded are ordered =
      let seen = reading_intervals p sc (slice_set hulls a.plant cell) in (
        body_intervals seen (local_ranges sc) (write_ranges p sc) acts
            (record { locals = local_ranges sc; draft = replicate (length (write_ranges p sc)) Absent }),
        execution_is (node_truths p sc) (length sc.locals.items) (length sc.writes.items) seen (local_ranges sc) (write_ranges p sc)
            (readings_ordered hulls cell are ordered)
            acts (local_ranges sc) ((rules.nodes a.sc sc sc_at).body acts coded) locals_ordered,
      )

  -- and no trap, since it has none from all of the hull
  pub drafts_from : (m : ℕ) (acts : List Act) (cell : List Side) → At p.modules m a → NoSharedPlant p → IsCoded sc acts → IsTrapFree p sc acts → AreOrdered cell
      → Covers a.safe.boxes cell → (fired : Intervals) × DraftsFrom p a sc acts cell fired
  drafts_from m acts cell at one coded free ordered covers =
      let o = outcome acts free.0 cell coded free.1 ordered in
      let f = cell_never_traps p rules.typed one m a plant sc acts free.0 cell (lows cell) o.0 at plant_at sc_at free free.1 (lows_within cell ordered) covers
      o.1 in
      (f.0, record { hulls = free.0; are = free.1; runs = subst (λ q. IsNodeExecution p sc acts (slice_set free.0 a.plant cell) q) f.1 o.1 })

  -- the intervals of the commands have a number in each
  pub commands_ordered : (acts : List Act) (cell : List Side) (fired : Intervals) → AreOrdered cell → DraftsFrom p a sc acts cell fired
      → AreOrdered (command_intervals p plant sc fired.draft)
  commands_ordered acts cell fired ordered from =
      let seen = reading_intervals p sc (slice_set from.hulls a.plant cell) in
      let n = execution_narrow acts (local_ranges sc) (write_ranges p sc) seen (local_ranges sc) seen (local_ranges sc) fired (Ok fired)
      (ordered_narrower seen (readings_ordered from.hulls cell from.are ordered)) (ordered_narrower (local_ranges sc) locals_ordered) from.runs from.runs in
      let same : n.0 ≡ fired = (let e = n.1 in cc) in
      let drafts = subst (λ (f : Intervals). AreNarrowerDrafts f.draft fired.draft) same n.2.draft in
      ordered_map (command_interval p sc.writes.items fired.draft) plant.inputs.items
      (λ k has. command_ordered p sc.writes.items fired.draft fired.draft k scalars_ordered drafts)

  pub inputs_ordered : AreOrdered (input_ranges p plant)
  inputs_ordered = ordered_map (range_of p.scalars) plant.inputs.items (λ k has. ordered_read (scalar_ranges p) k scalars_ordered)
