-- Tubes from narrower boxes, of fewer ticks, and after a tick that was observed.
use Rattle.std.proofs.Common.{◌≡◌, ℕ, zero, suc, ◌≤◌, ℤ, List, ◌++◌, Ok, length, subst, arith}
use Rattle.sot_lists.specs.Places.{At}
use Rattle.sot_box.specs.Sides.{Side, AreOrdered}
use Rattle.sot_box.specs.Boxes.{IsWithin, point_box, lows}
use Rattle.sot_box.specs.Regions.{IsInRegion}
use Rattle.sot_box.proofs.Ranges.{lows_within, within_in_order}
use Rattle.sot_box.proofs.Ordered.{append_ordered, point_ordered}
use Rattle.sot_lang.specs.declared.tables.PlantInfo.{PlantInfo}
use Rattle.sot_lang.specs.Tables.{Tables}
use Rattle.sot_lang.specs.TableRules.{MeetsTableRules}
use Rattle.sot_lang.specs.TermPlaces.{HavePlaces}
use Rattle.sot_lang.specs.OwnerNames.{plant_truths}
use Rattle.sot_lang.specs.Ranges.{bounds}
use Rattle.sot_lang.specs.SafeRegions.{AreSafe, joined_boxes}
use Rattle.sot_lang.specs.Ticks.{joined}
use Rattle.sot_lang.proofs.Places.{HavePlaces-TermsFit}
use Rattle.sot_lang.proofs.Owners.{noise_ordered}
use Rattle.sot_lang.proofs.SafeRegions.{hulls_ordered}
use Rattle.sot_iv.specs.Monotony.{AreNarrower}
use Rattle.sot_iv.specs.PlantIntervals.{IsNextBox}
use Rattle.sot_iv.specs.Evaluation.{term_intervals}
use Rattle.sot_iv.proofs.Terms.{terms_are}
use Rattle.sot_iv.proofs.Plants.{plant_narrow}
use Rattle.sot_tube.specs.Tubes.{StaysInside, TubeInside}
use Rattle.sot_tube.proofs.Tubes.{within_hulls}
use Rattle.sot_law_invariant_regions.specs.Following.{StaysAmong}
use Rattle.sot_iv.proofs.Narrow.{within_narrow}
use Rattle.sot_iv.proofs.NarrowBoxes.{ordered_narrower, point_narrower}
use Rattle.sot_law_invariant_regions.proofs.HeldRegions.{stays_narrower}

-- staying among the points of a region is staying inside it
among_inside : (plant : PlantInfo) (commands seen : List Side) (region : List (List Side)) (b : List Side) (k : ℕ)
    → StaysAmong (IsInRegion region) plant commands seen b k → StaysInside plant commands seen region b k
among_inside plant commands seen region b zero h = h
among_inside plant commands seen region b (suc k) h = (h.0, (h.1.0, h.1.1, among_inside plant commands seen region h.1.0 k h.1.2))

stays_fewer : (plant : PlantInfo) (commands seen : List Side) (region : List (List Side)) (b : List Side) (j k : ℕ) → j ≤ k
    → StaysInside plant commands seen region b k → StaysInside plant commands seen region b j
stays_fewer plant commands seen region b zero zero le h = h
stays_fewer plant commands seen region b zero (suc k) le h = h.0
stays_fewer plant commands seen region b (suc j) zero le h = absurd (omega (arith, le))
stays_fewer plant commands seen region b (suc j) (suc k) le h =
    (h.0, (h.1.0, h.1.1, stays_fewer plant commands seen region h.1.0 j k (omega (arith, le)) h.1.2))

pub tube_fewer : (p : Tables) (plant : PlantInfo) (commands : List Side) (region : List (List Side)) (b : List Side) (j k : ℕ) → j ≤ k
    → TubeInside p plant commands region b k → TubeInside p plant commands region b j
tube_fewer p plant commands region b j k le t =
    record { hulls = t.hulls; are = t.are; stays = stays_fewer plant commands (joined_boxes t.hulls) region b j k le t.stays }

module _ (p : Tables) (rules : MeetsTableRules p) (k : ℕ) (plant : PlantInfo) (at : At p.plants k plant) where
  places : HavePlaces (length (plant_truths p plant)) plant.next.items
  places = HavePlaces-TermsFit (plant_truths p plant) plant.next.items (rules.plants k plant at).next

  noise_in_order : AreOrdered (bounds plant)
  noise_in_order = noise_ordered plant.noise.items (λ i d at_d. ((rules.plants k plant at).noise_ranges i d at_d).1.0)

  -- the tube from a narrower box with narrower commands
  pub tube_narrower : (held wide : List Side) (region : List (List Side)) (b c : List Side) (n : ℕ) → AreNarrower held wide → AreNarrower b c
      → TubeInside p plant wide region c n → TubeInside p plant held region b n
  tube_narrower held wide region b c n commands narrow t =
      let seen = hulls_ordered p.modules plant.sees.items t.hulls t.are in
      record {
        hulls = t.hulls;
        are = t.are;
        stays =
            among_inside plant held (joined_boxes t.hulls) region b n
            (stays_narrower plant held wide (joined_boxes t.hulls) region (length (plant_truths p plant)) places commands seen noise_in_order n b c narrow
            t.stays);
      }

  module _ (wide : List Side) (region : List (List Side)) (s c : List ℤ) (seen : List (List ℤ)) (n : ℕ) (types : IsWithin wide c)
      (safe : AreSafe p.modules plant.sees.items seen) (t : TubeInside p plant wide region (point_box s) (suc n)) where
    seen_narrow : AreNarrower (point_box (joined seen)) (joined_boxes t.hulls)
    seen_narrow = point_narrower (joined_boxes t.hulls) (joined seen) (within_hulls p.modules plant.sees.items seen t.hulls safe t.are)

    -- from a point with these commands and seen plants there is a next box, inside that of the tube
    next_box : (box : List Side) × IsNextBox plant (point_box s) (point_box c) (point_box (joined seen)) (Ok box) × AreNarrower box t.stays.1.0
    next_box =
        let names = point_box s ++ point_box c ++ point_box (joined seen) ++ bounds plant in
        let ordered =
        append_ordered (point_box s ++ point_box c ++ point_box (joined seen)) (bounds plant)
        (append_ordered (point_box s ++ point_box c) (point_box (joined seen)) (append_ordered (point_box s) (point_box c) (point_ordered s) (point_ordered c))
        (point_ordered (joined seen)))
        noise_in_order in
        let are = terms_are (length (plant_truths p plant)) plant.next.items names ordered places in
        let next = plant_narrow plant (point_box s) (point_box c) (point_box (joined seen)) (point_box s) wide (joined_boxes t.hulls) t.stays.1.0
        (lows (bounds plant)) (term_intervals plant.next.items names) (ordered_narrower (point_box s) (point_ordered s)) (point_narrower wide c types)
        seen_narrow (lows_within (bounds plant) noise_in_order) t.stays.1.1 are in
        (next.0, subst (IsNextBox plant (point_box s) (point_box c) (point_box (joined seen))) next.1 are, next.2)

    pub has_next : (box : List Side) × IsNextBox plant (point_box s) (point_box c) (point_box (joined seen)) (Ok box)
    has_next = (next_box.0, next_box.1)

    -- each point of that box has the rest of the tube
    pub tube_next : (box : List Side) (u : List ℤ) → IsNextBox plant (point_box s) (point_box c) (point_box (joined seen)) (Ok box) → IsWithin box u
        → TubeInside p plant wide region (point_box u) n
    tube_next box u is within =
        let next = plant_narrow plant (point_box s) (point_box c) (point_box (joined seen)) (point_box s) wide (joined_boxes t.hulls) t.stays.1.0
        (lows (bounds plant)) (Ok box) (ordered_narrower (point_box s) (point_ordered s)) (point_narrower wide c types) seen_narrow
        (lows_within (bounds plant) noise_in_order) t.stays.1.1 is in
        let same : next.0 ≡ box = (let e = next.1 in cc) in
        let inside : AreNarrower box t.stays.1.0 = subst (λ q. AreNarrower q t.stays.1.0) same next.2 in
        let there : IsWithin t.stays.1.0 u = within_narrow box t.stays.1.0 u inside within in
        let rest : TubeInside p plant wide region t.stays.1.0 n = record { hulls = t.hulls; are = t.are; stays = t.stays.1.2 } in
        tube_narrower wide wide region (point_box u) t.stays.1.0 n wide_self (point_narrower t.stays.1.0 u there) rest
      where
        wide_self : AreNarrower wide wide
        wide_self = ordered_narrower wide (within_in_order wide c types)
