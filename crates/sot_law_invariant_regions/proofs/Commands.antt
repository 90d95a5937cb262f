-- From a narrower box of its plant a safe node drafts what is narrower, and holds narrower commands.
use Rattle.std.proofs.Common.{◌≡◌, ℕ, zero, suc, ◌+◌, ◌<◌, ⊎_elim, List, [], ◌∷◌, Ok, map, length, refl, sym, ◌∙◌, subst, arith, eqb}
use Rattle.std.specs.Prelude.{slice_index_or, slice_set}
use Rattle.std.proofs.lemmas.Int.{ints}
use Rattle.std.proofs.lemmas.Bool.{cases_eq, eq-eqb, ne_eqb, cond-true, cond-false}
use Rattle.std.proofs.lemmas.List.{get_or-set_same, get_or-set_other}
use Rattle.std.proofs.lemmas.Option.{slice_get_within}
use Rattle.sot_box.specs.Sides.{Side, AreOrdered}
use Rattle.sot_lists.specs.Places.{At, Has}
use Rattle.sot_lang.specs.declared.act.Act.{Act}
use Rattle.sot_lang.specs.declared.tables.Slot.{Slot}
use Rattle.sot_lang.specs.declared.tables.Slot.TheVariants.{Scalar, State}
use Rattle.sot_lang.specs.declared.tables.PlantInfo.{PlantInfo}
use Rattle.sot_lang.specs.declared.tables.NodeInfo.{NodeInfo}
use Rattle.sot_lang.specs.declared.tables.ModuleInfo.{ModuleInfo}
use Rattle.sot_lang.specs.Tables.{Tables}
use Rattle.sot_lang.specs.OwnerNames.{node_truths}
use Rattle.sot_lang.specs.Ranges.{range_of, scalar_ranges, local_ranges, write_ranges}
use Rattle.sot_lang.specs.SafeRegions.{AllHulls}
use Rattle.sot_lang.specs.TableRules.{IsTyped, MeetsTableRules, IsCoded}
use Rattle.sot_iv.specs.declared.drafted.Drafted.{Drafted}
use Rattle.sot_iv.specs.declared.drafted.Drafted.TheVariants.{Absent, Maybe, Sure}
use Rattle.sot_iv.specs.BodyIntervals.{Intervals, IsExecutionIntervals}
use Rattle.sot_iv.specs.NodeIntervals.{interval_at, reading_intervals}
use Rattle.sot_iv.specs.Monotony.{IsNarrower, AreNarrower, IsNarrowerDraft, AreNarrowerDrafts, IsNarrowerEnd}
use Rattle.sot_iv.proofs.Narrow.{narrow_read}
use Rattle.sot_iv.proofs.NarrowBoxes.{narrower_ordered}
use Rattle.sot_iv.proofs.BodyNarrow.{execution_narrow}
use Rattle.sot_iv.proofs.Bodies.{execution_is}
use Rattle.sot_iv.proofs.Plants.{narrow_self}
use Rattle.sot_tube.specs.Certified.{sure_interval, command_interval, command_intervals, DraftsFrom}
use Rattle.sot_tube.proofs.Leaving.{all_hulls_same}
use Rattle.sot_law_invariant_regions.proofs.DraftsWithin.{DraftLies, DraftsLie, execution_lies}

-- the interval of one command
sure_narrow : (whole : Side) (d e : Drafted) → IsNarrower whole whole → IsNarrowerDraft d e → DraftLies e whole
    → IsNarrower (sure_interval whole d) (sure_interval whole e)
sure_narrow whole Absent Absent w n l = w
sure_narrow whole Absent (Maybe s) w n l = w
sure_narrow whole (Maybe r) (Maybe s) w n l = w
sure_narrow whole (Sure r) (Maybe s) w n l =
    let lo = l r.lo (n.0, omega (arith, ints, n.1, n.2)) in
    let hi = l r.hi (omega (arith, ints, n.0, n.1), n.2) in
    (lo.0, n.1, hi.1)
sure_narrow whole (Sure r) (Sure s) w n l = n
sure_narrow whole Absent (Sure s) w n l = absurd n
sure_narrow whole (Maybe r) Absent w n l = absurd n
sure_narrow whole (Maybe r) (Sure s) w n l = absurd n
sure_narrow whole (Sure r) Absent w n l = absurd n

command_narrow : (p : Tables) (ws : List ℕ) (ds es : List Drafted) (k : ℕ) → IsNarrower (range_of p.scalars k) (range_of p.scalars k)
    → AreNarrowerDrafts ds es → DraftsLie es (map (range_of p.scalars) ws) → IsNarrower (command_interval p ws ds k) (command_interval p ws es k)
command_narrow p [] [] [] k w n l = w
command_narrow p [] (d ∷ ds) (e ∷ es) k w n l = w
command_narrow p [] [] (e ∷ es) k w n l = absurd n
command_narrow p [] (d ∷ ds) [] k w n l = absurd n
command_narrow p (v ∷ ws) [] [] k w n l = w
command_narrow p (v ∷ ws) [] (e ∷ es) k w n l = absurd n
command_narrow p (v ∷ ws) (d ∷ ds) [] k w n l = absurd n
command_narrow p (v ∷ ws) (d ∷ ds) (e ∷ es) k w n l =
    let whole = range_of p.scalars k in
    ⊎_elim
    (λ (same : v ≡ k). let t = eq-eqb v k same in
    subst (λ q. IsNarrower q (command_interval p (v ∷ ws) (e ∷ es) k)) (sym (cond-true (eqb v k) (sure_interval whole d) (command_interval p ws ds k) t))
    (subst (λ q. IsNarrower (sure_interval whole d) q) (sym (cond-true (eqb v k) (sure_interval whole e) (command_interval p ws es k) t))
    (sure_narrow whole d e w n.0 (subst (λ m. DraftLies e (range_of p.scalars m)) same l.0))))
    (λ (ne : v ≡ k → ⊥). let t = ne_eqb v k ne in
    subst (λ q. IsNarrower q (command_interval p (v ∷ ws) (e ∷ es) k)) (sym (cond-false (eqb v k) (sure_interval whole d) (command_interval p ws ds k) t))
    (subst (λ q. IsNarrower (command_interval p ws ds k) q) (sym (cond-false (eqb v k) (sure_interval whole e) (command_interval p ws es k) t))
    (command_narrow p ws ds es k w n.1 l.1)))
    (cases_eq v k)

map_narrow : (f g : ℕ → Side) (ks : List ℕ) → ((k : ℕ) → IsNarrower (f k) (g k)) → AreNarrower (map f ks) (map g ks)
map_narrow f g [] h = tt
map_narrow f g (k ∷ ks) h = (h k, map_narrow f g ks h)

narrow_slots : (f g : Slot → Side) (xs : List Slot) → ((x : Slot) → Has xs x → IsNarrower (f x) (g x)) → AreNarrower (map f xs) (map g xs)
narrow_slots f g [] h = tt
narrow_slots f g (x ∷ xs) h = (h x (0, refl), narrow_slots f g xs (λ y has. h y (suc has.0, has.1)))

module _ (p : Tables) (rules : MeetsTableRules p) where
  typed : IsTyped p
  typed = rules.typed

  scalars_narrow : AreNarrower (scalar_ranges p) (scalar_ranges p)
  scalars_narrow = narrow_self (scalar_ranges p) (map (λ i. i.init) p.scalars) typed.inits

  range_narrow : (k : ℕ) → IsNarrower (range_of p.scalars k) (range_of p.scalars k)
  range_narrow k = narrow_read (scalar_ranges p) (scalar_ranges p) k scalars_narrow

  pub types_ordered : (ks : List ℕ) → AreOrdered (map (range_of p.scalars) ks)
  types_ordered ks = narrower_ordered _ _ (map_narrow (range_of p.scalars) (range_of p.scalars) ks range_narrow)

  module _ (a : ModuleInfo) (plant : PlantInfo) (plant_at : At p.plants a.plant plant) (sc : NodeInfo) (sc_at : At p.nodes a.sc sc) (acts : List Act)
      (coded : IsCoded sc acts) (hulls : List (List Side)) (are : AllHulls p hulls) where
    -- what the node reads, with its plant in a narrower box
    reading_narrow : (b c : List Side) → AreNarrower b c
        → AreNarrower (reading_intervals p sc (slice_set hulls a.plant b)) (reading_intervals p sc (slice_set hulls a.plant c))
    reading_narrow b c narrow = narrow_slots (interval_at p (slice_set hulls a.plant b)) (interval_at p (slice_set hulls a.plant c)) sc.reads.items each
      where
        lt : a.plant < length hulls
        lt = omega (arith, slice_get_within p.plants a.plant plant plant_at, are.0)

        boxes : (k v : ℕ) → Has sc.reads.items (State k v)
            → AreNarrower (slice_index_or (slice_set hulls a.plant b) k []) (slice_index_or (slice_set hulls a.plant c) k [])
        boxes k v has =
            ⊎_elim
            (λ (same : k ≡ a.plant).
            subst (λ n. AreNarrower (slice_index_or (slice_set hulls a.plant b) n []) (slice_index_or (slice_set hulls a.plant c) n [])) (sym same)
            (subst (λ q. AreNarrower q (slice_index_or (slice_set hulls a.plant c) a.plant [])) (sym (get_or-set_same hulls a.plant b [] lt))
            (subst (λ q. AreNarrower b q) (sym (get_or-set_same hulls a.plant c [] lt)) narrow)))
            (λ (ne : k ≡ a.plant → ⊥). let other = typed.reads_are a.sc sc k v sc_at has in
            let hull = are.1 k other.0 other.1 in
            subst (λ q. AreNarrower q (slice_index_or (slice_set hulls a.plant c) k [])) (sym (get_or-set_other hulls a.plant k b [] ne))
            (subst (λ q. AreNarrower (slice_index_or hulls k []) q) (sym (get_or-set_other hulls a.plant k c [] ne))
            (narrow_self (slice_index_or hulls k []) hull.has_point.0 (hull.holds hull.has_point.0 hull.has_point.1))))
            (cases_eq k a.plant)

        each : (x : Slot) → Has sc.reads.items x → IsNarrower (interval_at p (slice_set hulls a.plant b) x) (interval_at p (slice_set hulls a.plant c) x)
        each (Scalar k) has = range_narrow k
        each (State k v) has =
            narrow_read (slice_index_or (slice_set hulls a.plant b) k []) (slice_index_or (slice_set hulls a.plant c) k []) v (boxes k v has)

    locals_narrow : AreNarrower (local_ranges sc) (local_ranges sc)
    locals_narrow = narrow_self (local_ranges sc) (map (λ l. l.init) sc.locals.items) (typed.local_inits a.sc sc sc_at)

    -- it drafts what is narrower, without a trap
    pub drafts_narrow : (b c : List Side) (g : Intervals) → AreNarrower b c → DraftsFrom p a sc acts c g
        → (f : Intervals) × DraftsFrom p a sc acts b f × IsNarrowerEnd f g
    drafts_narrow b c g narrow drafts =
        let same = all_hulls_same p drafts.hulls hulls drafts.are are in
        let wide = subst (λ q. IsExecutionIntervals acts (local_ranges sc) (write_ranges p sc) (reading_intervals p sc (slice_set q a.plant c))
        (local_ranges sc)
        (Ok g)) same drafts.runs in
        let n = reading_narrow b c narrow in
        let seen = reading_intervals p sc (slice_set hulls a.plant b) in
        let runs = execution_is (node_truths p sc) (length sc.locals.items) (length sc.writes.items) seen (local_ranges sc) (write_ranges p sc)
        (narrower_ordered seen _ n) acts (local_ranges sc) ((rules.nodes a.sc sc sc_at).body acts coded) (narrower_ordered _ _ locals_narrow) in
        let end = execution_narrow acts (local_ranges sc) (write_ranges p sc) seen (local_ranges sc) (reading_intervals p sc (slice_set hulls a.plant c))
        (local_ranges sc) g _ n locals_narrow wide runs in
        let is = subst (λ o. IsExecutionIntervals acts (local_ranges sc) (write_ranges p sc) seen (local_ranges sc) o) end.1 runs in
        (end.0, record { hulls = hulls; are = are; runs = is }, end.2)

    -- and the commands that are held are narrower
    pub commands_narrow : (c : List Side) (f g : Intervals) → IsNarrowerEnd f g → DraftsFrom p a sc acts c g
        → AreNarrower (command_intervals p plant sc f.draft) (command_intervals p plant sc g.draft)
    commands_narrow c f g narrow drafts =
        let lie = execution_lies acts (local_ranges sc) (write_ranges p sc) (reading_intervals p sc (slice_set drafts.hulls a.plant c)) (local_ranges sc) g
        drafts.runs in
        map_narrow (command_interval p sc.writes.items f.draft) (command_interval p sc.writes.items g.draft) plant.inputs.items
        (λ k. command_narrow p sc.writes.items f.draft g.draft k (range_narrow k) narrow.draft lie)
