-- A tube stays inside a region, or leaves it in some way.
use Rattle.std.proofs.Common.{ℕ, zero, suc, ◌⊎◌, ⊎_elim, inl, inr, List, [], ◌∷◌, ◌++◌, Ok, Err, map, length, refl}
use Rattle.std.specs.Prelude.{slice_index_or}
use Rattle.sot_box.specs.Sides.{Side, AreOrdered}
use Rattle.sot_box.specs.Boxes.{lows}
use Rattle.sot_box.specs.Regions.{Covers}
use Rattle.sot_box.proofs.Ranges.{lows_within, within_in_order}
use Rattle.sot_box.proofs.Ordered.{append_ordered}
use Rattle.sot_lists.specs.Places.{At, Has}
use Rattle.sot_lang.specs.declared.tables.PlantInfo.{PlantInfo}
use Rattle.sot_lang.specs.Tables.{Tables}
use Rattle.sot_lang.specs.TableRules.{MeetsTableRules}
use Rattle.sot_lang.specs.TermPlaces.{HavePlaces}
use Rattle.sot_lang.specs.OwnerNames.{plant_truths}
use Rattle.sot_lang.specs.Ranges.{bounds}
use Rattle.sot_lang.specs.SafeRegions.{AllHulls, AreHulls, joined_boxes}
use Rattle.sot_lang.proofs.Places.{HavePlaces-TermsFit}
use Rattle.sot_lang.proofs.Owners.{noise_ordered}
use Rattle.sot_lang.proofs.SafeRegions.{hulls_ordered}
use Rattle.sot_iv.specs.TermIntervals.{OrMayTrap}
use Rattle.sot_iv.specs.Evaluation.{term_intervals}
use Rattle.sot_iv.proofs.Terms.{terms_are}
use Rattle.sot_iv.proofs.Plants.{terms_sound}
use Rattle.sot_tube.specs.Tubes.{StaysInside, IsNextBox, TubeInside}
use Rattle.sot_tube.specs.Leaves.{Leaves, TubeLeaves}
use Rattle.sot_tube.specs.declared.leave.Leave.{Leave}
use Rattle.sot_tube.specs.declared.leave.Leave.TheVariants.{Out, Trap}
use Rattle.sot_certify.proofs.Gaps.{covers_or_gap}

module _ (plant : PlantInfo) (commands seen : List Side) (region : List (List Side)) (n : ℕ) (places : HavePlaces n plant.next.items)
    (ordered_commands : AreOrdered commands) (ordered_seen : AreOrdered seen) (ordered_bounds : AreOrdered (bounds plant)) where
  names_ordered : (box : List Side) → AreOrdered box → AreOrdered (box ++ commands ++ seen ++ bounds plant)
  names_ordered box ordered =
      append_ordered (box ++ commands ++ seen) (bounds plant)
      (append_ordered (box ++ commands) seen (append_ordered box commands ordered ordered_commands) ordered_seen) ordered_bounds

  next_ordered : (box next : List Side) → AreOrdered box → IsNextBox plant box commands seen (Ok next) → AreOrdered next
  next_ordered box next ordered is =
      let names = box ++ commands ++ seen ++ bounds plant in
      let at = terms_sound plant.next.items names (lows names) next (lows_within names (names_ordered box ordered)) is in
      within_in_order next at.0 at.2

  stays_or_leaves : (k tick : ℕ) (box : List Side) → AreOrdered box
      → StaysInside plant commands seen region box k ⊎ ((leave : Leave) × Leaves plant commands seen region box tick k leave)
  stays_or_leaves zero tick box ordered =
      ⊎_elim (λ covers. inl covers) (λ gap. inr (Out tick box gap.0, (gap.0, gap.1, refl))) (covers_or_gap region box)
  stays_or_leaves (suc k) tick box ordered =
      ⊎_elim
      (λ covers. by_tick covers (λ next later. stays_or_leaves k (suc tick) next later)
      (term_intervals plant.next.items (box ++ commands ++ seen ++ bounds plant))
      (terms_are n plant.next.items (box ++ commands ++ seen ++ bounds plant) (names_ordered box ordered) places))
      (λ gap. inr (Out tick box gap.0, inl (gap.0, gap.1, refl)))
      (covers_or_gap region box)
    where
      Ends : Type 0
      Ends = StaysInside plant commands seen region box (suc k) ⊎ ((leave : Leave) × Leaves plant commands seen region box tick (suc k) leave)

      by_tick : Covers region box
          → ((next : List Side) → AreOrdered next → StaysInside plant commands seen region next k
          ⊎ ((leave : Leave) × Leaves plant commands seen region next (suc tick) k leave))
          → (o : OrMayTrap (List Side)) → IsNextBox plant box commands seen o → Ends
      by_tick covers later (Err t) is = inr (Trap tick t.at, inr (inl (covers, t, is, refl)))
      by_tick covers later (Ok next) is =
          ⊎_elim
          (λ stays. inl (covers, (next, is, stays)))
          (λ way. inr (way.0, inr (inr (covers, next, is, way.1))))
          (later next (next_ordered box next ordered is))

-- the hulls of some plants, of the hulls of all
picked_hulls : (p : Tables) (all : List (List Side)) → AllHulls p all → (ks : List ℕ) → ((k : ℕ) → Has ks k → (plant : PlantInfo) × At p.plants k plant)
    → AreHulls p.modules ks (map (λ k. slice_index_or all k []) ks)
picked_hulls p all are [] there = tt
picked_hulls p all are (k ∷ ks) there =
    let plant = there k (0, refl) in
    (are.1 k plant.0 plant.1, picked_hulls p all are ks (λ j has. there j (suc has.0, has.1)))

-- with commands in intervals in order, from a box of sides in order
pub inside_or_leaves : (p : Tables) (k : ℕ) (plant : PlantInfo) (all : List (List Side)) (commands : List Side) (region : List (List Side)) (box : List Side)
    (ticks : ℕ)
    → MeetsTableRules p → At p.plants k plant → AllHulls p all → AreOrdered commands → AreOrdered box
    → TubeInside p plant commands region box ticks ⊎ ((leave : Leave) × TubeLeaves p plant commands region box ticks leave)
inside_or_leaves p k plant all commands region box ticks rules at are ordered_commands ordered =
    let r = rules.plants k plant at in
    let hulls = map (λ i. slice_index_or all i []) plant.sees.items in
    let hulls_are = picked_hulls p all are plant.sees.items (λ i has. rules.typed.sees_are k plant i at has) in
    ⊎_elim
    (λ stays. inl (record { hulls = hulls; are = hulls_are; stays = stays }))
    (λ way. inr (way.0, record { hulls = hulls; are = hulls_are; leaves = way.1 }))
    (stays_or_leaves plant commands (joined_boxes hulls) region (length (plant_truths p plant))
    (HavePlaces-TermsFit (plant_truths p plant) plant.next.items r.next)
    ordered_commands (hulls_ordered p.modules plant.sees.items hulls hulls_are) (noise_ordered plant.noise.items (λ i d at_d. (r.noise_ranges i d at_d).1.0))
    ticks 0 box ordered)
