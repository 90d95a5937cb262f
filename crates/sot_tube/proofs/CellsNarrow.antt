-- A safe node that is free of traps from the hulls of the safe regions meets none in a cell that the safe region covers.
use Rattle.std.proofs.Common.{◌≡◌, ℕ, suc, ◌<◌, ℤ, ⊎_elim, List, [], ◌∷◌, Ok, map, length, refl, sym, subst, arith}
use Rattle.std.specs.Prelude.{slice_index_or, slice_set}
use Rattle.std.proofs.lemmas.Int.{ints}
use Rattle.std.proofs.lemmas.Bool.{cases_eq}
use Rattle.std.proofs.lemmas.List.{get_or-set_same, get_or-set_other}
use Rattle.std.proofs.lemmas.Option.{slice_get_within}
use Rattle.sot_box.specs.Sides.{Side}
use Rattle.sot_lists.specs.Places.{At, Has}
use Rattle.sot_box.specs.Boxes.{IsWithin, lows, highs}
use Rattle.sot_box.specs.Regions.{Covers, IsHull}
use Rattle.sot_lang.specs.declared.act.Act.{Act}
use Rattle.sot_lang.specs.declared.tables.Slot.{Slot}
use Rattle.sot_lang.specs.declared.tables.Slot.TheVariants.{Scalar, State}
use Rattle.sot_lang.specs.declared.tables.PlantInfo.{PlantInfo}
use Rattle.sot_lang.specs.declared.tables.NodeInfo.{NodeInfo}
use Rattle.sot_lang.specs.declared.tables.ModuleInfo.{ModuleInfo}
use Rattle.sot_lang.specs.Tables.{Tables}
use Rattle.sot_lang.specs.Ranges.{scalar_ranges, local_ranges, write_ranges}
use Rattle.sot_lang.specs.SafeRegions.{safe_of, AllHulls}
use Rattle.sot_lang.specs.TableRules.{IsTyped}
use Rattle.sot_lang.proofs.SafeRegions.{safe_of_is}
use Rattle.sot_iv.specs.TermIntervals.{OrMayTrap}
use Rattle.sot_iv.specs.BodyIntervals.{Intervals}
use Rattle.sot_iv.specs.NodeIntervals.{interval_at, reading_intervals, IsNodeExecution}
use Rattle.sot_iv.specs.TrapFree.{IsTrapFree}
use Rattle.sot_iv.specs.Monotony.{IsNarrower, AreNarrower}
use Rattle.sot_iv.proofs.Narrow.{le_refl_ℤ, narrow_read}
use Rattle.sot_iv.proofs.BodyNarrow.{execution_narrow}
use Rattle.sot_iv.proofs.Plants.{narrow_self}
use Rattle.sot_tube.specs.Composition.{NoSharedPlant}
use Rattle.sot_tube.proofs.Leaving.{all_hulls_same}

lows_within : (b : List Side) (s : List ℤ) → IsWithin b s → IsWithin b (lows b)
lows_within [] [] w = tt
lows_within (r ∷ rs) (z ∷ zs) w = (le_refl_ℤ r.lo, omega (arith, ints, w.0, w.1), lows_within rs zs w.2)
lows_within [] (z ∷ zs) w = absurd w
lows_within (r ∷ rs) [] w = absurd w

highs_within : (b : List Side) (s : List ℤ) → IsWithin b s → IsWithin b (highs b)
highs_within [] [] w = tt
highs_within (r ∷ rs) (z ∷ zs) w = (omega (arith, ints, w.0, w.1), le_refl_ℤ r.hi, highs_within rs zs w.2)
highs_within [] (z ∷ zs) w = absurd w
highs_within (r ∷ rs) [] w = absurd w

corners_narrow : (b h : List Side) (s : List ℤ) → IsWithin b s → IsWithin h (lows b) → IsWithin h (highs b) → AreNarrower b h
corners_narrow [] [] [] w l u = tt
corners_narrow (r ∷ rs) (q ∷ qs) (z ∷ zs) w l u = ((l.0, omega (arith, ints, w.0, w.1), u.1), corners_narrow rs qs zs w.2 l.2 u.2)
corners_narrow [] h (z ∷ zs) w l u = absurd w
corners_narrow (r ∷ rs) h [] w l u = absurd w
corners_narrow [] (q ∷ qs) [] w l u = absurd l
corners_narrow (r ∷ rs) [] (z ∷ zs) w l u = absurd l

-- a box that a region covers is inside the region's hull
covered_narrow : (region : List (List Side)) (b h : List Side) (s : List ℤ) → IsWithin b s → Covers region b → IsHull region h → AreNarrower b h
covered_narrow region b h s w covers hull =
    corners_narrow b h s w (hull.holds (lows b) (covers (lows b) (lows_within b s w))) (hull.holds (highs b) (covers (highs b) (highs_within b s w)))

narrow_map : {A : Type 0} (f g : A → Side) (xs : List A) → ((x : A) → Has xs x → IsNarrower (f x) (g x)) → AreNarrower (map f xs) (map g xs)
narrow_map f g [] h = tt
narrow_map f g (x ∷ xs) h = (h x (0, refl), narrow_map f g xs (λ y has. h y (suc has.0, has.1)))

module _ (p : Tables) (typed : IsTyped p) (one : NoSharedPlant p) where
  reading_narrow : (m : ℕ) (a : ModuleInfo) (plant : PlantInfo) (sc : NodeInfo) (hulls : List (List Side)) (cell : List Side) (s : List ℤ) → At p.modules m a
      → At p.plants a.plant plant → At p.nodes a.sc sc → AllHulls p hulls → IsWithin cell s → Covers a.safe.boxes cell
      → AreNarrower (reading_intervals p sc (slice_set hulls a.plant cell)) (reading_intervals p sc hulls)
  reading_narrow m a plant sc hulls cell s at_m at_p at_s are w covers =
      narrow_map (interval_at p (slice_set hulls a.plant cell)) (interval_at p hulls) sc.reads.items each
    where
      lt : a.plant < length hulls
      lt = omega (arith, slice_get_within p.plants a.plant plant at_p, are.0)

      own : AreNarrower cell (slice_index_or hulls a.plant [])
      own =
          let e : safe_of p.modules a.plant ≡ a.safe.boxes = safe_of_is p.modules m a at_m (λ i b at_b same. one i m b a at_b at_m same) in
          covered_narrow a.safe.boxes cell (slice_index_or hulls a.plant []) s w covers
          (subst (λ q. IsHull q (slice_index_or hulls a.plant [])) e (are.1 a.plant plant at_p))

      boxes : (k v : ℕ) → Has sc.reads.items (State k v) → AreNarrower (slice_index_or (slice_set hulls a.plant cell) k []) (slice_index_or hulls k [])
      boxes k v has =
          ⊎_elim
          (λ (same : k ≡ a.plant). subst (λ q. AreNarrower (slice_index_or (slice_set hulls a.plant cell) q []) (slice_index_or hulls q [])) (sym same)
          (subst (λ q. AreNarrower q (slice_index_or hulls a.plant [])) (sym (get_or-set_same hulls a.plant cell [] lt)) own))
          (λ (ne : k ≡ a.plant → ⊥). let other = typed.reads_are a.sc sc k v at_s has in
          let hull = are.1 k other.0 other.1 in
          subst (λ q. AreNarrower q (slice_index_or hulls k [])) (sym (get_or-set_other hulls a.plant k cell [] ne))
          (narrow_self (slice_index_or hulls k []) hull.has_point.0 (hull.holds hull.has_point.0 hull.has_point.1)))
          (cases_eq k a.plant)

      each : (x : Slot) → Has sc.reads.items x → IsNarrower (interval_at p (slice_set hulls a.plant cell) x) (interval_at p hulls x)
      each (Scalar k) has = narrow_read (scalar_ranges p) (scalar_ranges p) k (narrow_self (scalar_ranges p) (map (λ i. i.init) p.scalars) typed.inits)
      each (State k v) has = narrow_read (slice_index_or (slice_set hulls a.plant cell) k []) (slice_index_or hulls k []) v (boxes k v has)

  pub cell_never_traps : (m : ℕ) (a : ModuleInfo) (plant : PlantInfo) (sc : NodeInfo) (acts : List Act) (hulls : List (List Side)) (cell : List Side)
      (s : List ℤ) (o : OrMayTrap Intervals) → At p.modules m a → At p.plants a.plant plant → At p.nodes a.sc sc → IsTrapFree p sc acts → AllHulls p hulls
      → IsWithin cell s → Covers a.safe.boxes cell → IsNodeExecution p sc acts (slice_set hulls a.plant cell) o → (f : Intervals) × (o ≡ Ok f)
  cell_never_traps m a plant sc acts hulls cell s o at_m at_p at_s free are w covers runs =
      let same = all_hulls_same p free.0 hulls free.1 are in
      let wide = subst (λ q. IsNodeExecution p sc acts q (Ok free.2.0)) same free.2.1 in
      let n = execution_narrow acts (local_ranges sc) (write_ranges p sc) (reading_intervals p sc (slice_set hulls a.plant cell)) (local_ranges sc)
      (reading_intervals p sc hulls) (local_ranges sc) free.2.0 o
      (reading_narrow m a plant sc hulls cell s at_m at_p at_s are w covers)
      (narrow_self (local_ranges sc) (map (λ l. l.init) sc.locals.items) (typed.local_inits a.sc sc at_s)) wide runs in
      (n.0, n.1)
