-- Narrower boxes have narrower tubes, so a point of a reach cell is kept as its cell is.
use Rattle.std.proofs.Common.{ℕ, zero, suc, ◌+◌, ◌*◌, ℤ, ◌⊎◌, ⊎_elim, List, [], ◌∷◌, ◌++◌, length, map, refl, subst, arith}
use Rattle.sot_lists.specs.Places.{At}
use Rattle.sot_box.specs.Sides.{Side, AreOrdered}
use Rattle.sot_box.specs.Boxes.{IsWithin, point_box, lows}
use Rattle.sot_box.specs.Regions.{IsInRegion}
use Rattle.sot_box.proofs.Ranges.{lows_within, within_in_order, within_picked}
use Rattle.sot_box.proofs.Ordered.{append_ordered}
use Rattle.sot_lang.specs.declared.cert.Cert.{Cert}
use Rattle.sot_lang.specs.declared.tables.PlantInfo.{PlantInfo}
use Rattle.sot_lang.specs.declared.tables.ModuleInfo.{ModuleInfo}
use Rattle.sot_lang.specs.Tables.{Tables}
use Rattle.sot_lang.specs.TableRules.{MeetsTableRules}
use Rattle.sot_lang.specs.TermPlaces.{HavePlaces}
use Rattle.sot_lang.specs.OwnerNames.{plant_truths}
use Rattle.sot_lang.specs.Ranges.{bounds, input_ranges, scalar_ranges}
use Rattle.sot_lang.specs.SafeRegions.{joined_boxes}
use Rattle.sot_lang.proofs.Places.{HavePlaces-TermsFit}
use Rattle.sot_lang.proofs.Owners.{noise_ordered}
use Rattle.sot_lang.proofs.SafeRegions.{hulls_ordered}
use Rattle.sot_iv.specs.Monotony.{AreNarrower}
use Rattle.sot_iv.specs.Evaluation.{term_intervals}
use Rattle.sot_iv.proofs.Narrow.{within_narrow}
use Rattle.sot_iv.proofs.NarrowBoxes.{ordered_narrower, narrower_ordered, point_narrower}
use Rattle.sot_iv.proofs.Terms.{terms_are}
use Rattle.sot_iv.proofs.Plants.{plant_narrow}
use Rattle.sot_tube.specs.Tubes.{StaysInside, IsNextBox, Keeps}
use Rattle.sot_tube.specs.Certified.{IsWellCertified}

module _ (plant : PlantInfo) (commands seen : List Side) (region : List (List Side)) (n : ℕ) (places : HavePlaces n plant.next.items)
    (ordered_commands : AreOrdered commands) (ordered_seen : AreOrdered seen) (ordered_bounds : AreOrdered (bounds plant)) where
  -- the tube from a narrower box stays inside too
  stays_narrower : (k : ℕ) (b c : List Side) → AreNarrower b c → StaysInside plant commands seen region c k → StaysInside plant commands seen region b k
  stays_narrower zero b c narrow h = λ s w. h s (within_narrow b c s narrow w)
  stays_narrower (suc k) b c narrow h =
      let names = b ++ commands ++ seen ++ bounds plant in
      let ordered =
      append_ordered (b ++ commands ++ seen) (bounds plant)
      (append_ordered (b ++ commands) seen (append_ordered b commands (narrower_ordered b c narrow) ordered_commands) ordered_seen) ordered_bounds in
      let are = terms_are n plant.next.items names ordered places in
      let next = plant_narrow plant b commands seen c commands seen h.1.0 (lows (bounds plant)) (term_intervals plant.next.items names)
      narrow (ordered_narrower commands ordered_commands) (ordered_narrower seen ordered_seen) (lows_within (bounds plant) ordered_bounds) h.1.1 are in (
        (λ s w. h.0 s (within_narrow b c s narrow w)),
        (next.0, subst (IsNextBox plant b commands seen) next.1 are, stays_narrower k next.0 h.1.0 next.2 h.1.2),
      )

-- the box of a region that has a point
box_with : (boxes : List (List Side)) (s : List ℤ) → IsInRegion boxes s → (i : ℕ) × (b : List Side) × At boxes i b × IsWithin b s
box_with [] s here = absurd here
box_with (b ∷ bs) s here =
    ⊎_elim
    (λ within. (0, b, refl, within))
    (λ later. let found = box_with bs s later in (suc found.0, found.1, found.2, found.3))
    here

module _ (p : Tables) (jitter : ℕ) (cert : Cert) (rules : MeetsTableRules p) (certified : IsWellCertified p jitter cert) where
  pub safer_is_kept : (m : ℕ) (a : ModuleInfo) (s : List ℤ) → At p.modules m a → IsInRegion a.safer.boxes s → Keeps p jitter a s
  safer_is_kept m a s at safer = by_plant (rules.typed.plant_is m a at)
    where
      by_plant : (plant : PlantInfo) × At p.plants a.plant plant → Keeps p jitter a s
      by_plant (plant, at_p) =
          let r = rules.plants a.plant plant at_p in
          let cells = certified.entries m a at in
          let cell = box_with cells.0.reach.boxes s (certified.reach_cover m a cells.0 at cells.1 s safer) in
          let reach = certified.reach_cells m a plant cells.0 cell.0 cell.1 at at_p cells.1 cell.2 in
          let inputs = within_in_order (input_ranges p plant) _
          (within_picked (scalar_ranges p) (map (λ i. i.init) p.scalars) plant.inputs.items rules.typed.inits) in
          record {
            plant = plant;
            is = at_p;
            inside = record {
              hulls = reach.hulls;
              are = reach.are;
              stays =
                  stays_narrower plant (input_ranges p plant) (joined_boxes reach.hulls) a.safe.boxes (length (plant_truths p plant))
                  (HavePlaces-TermsFit (plant_truths p plant) plant.next.items r.next)
                  inputs (hulls_ordered p.modules plant.sees.items reach.hulls reach.are)
                  (noise_ordered plant.noise.items (λ i d at_d. (r.noise_ranges i d at_d).1.0))
                  (2 * (a.period + jitter)) (point_box s) cell.1 (point_narrower cell.1 s cell.3) reach.stays;
            };
          }
