-- Whether a module's tube keeps its plant, settled tick by tick.
use Rattle.std.proofs.Common.{◌≡◌, ◌≢◌, ℕ, zero, suc, ◌+◌, ◌*◌, ℤ, ◌⊎◌, ⊎_elim, inl, inr, List, [], ◌∷◌, ◌++◌, Ok, Err, length, map, refl, subst}
use Rattle.sot_lists.specs.Places.{At}
use Rattle.sot_lists.proofs.Places.{at_same}
use Rattle.sot_box.specs.Sides.{Side, AreOrdered}
use Rattle.sot_box.specs.Boxes.{point_box, lows}
use Rattle.sot_box.specs.Regions.{IsInRegion, Covers}
use Rattle.sot_box.proofs.Ranges.{lows_within, within_in_order, within_picked}
use Rattle.sot_box.proofs.Ordered.{append_ordered, point_ordered}
use Rattle.sot_lang.specs.declared.cert.Cert.{Cert}
use Rattle.sot_lang.specs.declared.tables.PlantInfo.{PlantInfo}
use Rattle.sot_lang.specs.declared.tables.ModuleInfo.{ModuleInfo}
use Rattle.sot_lang.specs.Tables.{Tables}
use Rattle.sot_lang.specs.TableRules.{MeetsTableRules}
use Rattle.sot_lang.specs.TermPlaces.{HavePlaces}
use Rattle.sot_lang.specs.OwnerNames.{plant_truths}
use Rattle.sot_lang.specs.Ranges.{bounds, input_ranges, scalar_ranges}
use Rattle.sot_lang.specs.SafeRegions.{AreHulls, joined_boxes}
use Rattle.sot_lang.proofs.Places.{HavePlaces-TermsFit}
use Rattle.sot_lang.proofs.Owners.{noise_ordered}
use Rattle.sot_lang.proofs.SafeRegions.{hulls_ordered}
use Rattle.sot_iv.specs.TermIntervals.{OrMayTrap}
use Rattle.sot_iv.specs.Evaluation.{term_intervals}
use Rattle.sot_iv.proofs.Terms.{terms_are}
use Rattle.sot_iv.proofs.Plants.{terms_sound, plant_same}
use Rattle.sot_tube.specs.Tubes.{StaysInside, IsNextBox, AnyTubeInside, Keeps}
use Rattle.sot_tube.specs.Certified.{IsWellCertified}
use Rattle.sot_tube.proofs.Leaving.{hulls_same}
use Rattle.sot_law_flights.proofs.Covering.{IsSettled, covers_settled}

-- a region of some box has a point, and a point of a region is in some box
some_point : (boxes : List (List Side)) → boxes ≢ [] → ((i : ℕ) (b : List Side) → At boxes i b → AreOrdered b) → (s : List ℤ) × IsInRegion boxes s
some_point [] some each = absurd (some refl)
some_point (b ∷ bs) some each = (lows b, inl (lows_within b (each 0 b refl)))

some_box : (boxes : List (List Side)) (s : List ℤ) → IsInRegion boxes s → (i : ℕ) × (b : List Side) × At boxes i b
some_box [] s here = absurd here
some_box (b ∷ bs) s here = (0, b, refl)

module _ (plant : PlantInfo) (commands seen : List Side) (region : List (List Side)) (n : ℕ) (places : HavePlaces n plant.next.items)
    (ordered_commands : AreOrdered commands) (ordered_seen : AreOrdered seen) (ordered_bounds : AreOrdered (bounds plant)) where
  ordered_names : (box : List Side) → AreOrdered box → AreOrdered (box ++ commands ++ seen ++ bounds plant)
  ordered_names box ordered =
      append_ordered (box ++ commands ++ seen) (bounds plant)
      (append_ordered (box ++ commands) seen (append_ordered box commands ordered ordered_commands) ordered_seen) ordered_bounds

  -- the next box is one of intervals in order
  ordered_next : (box next : List Side) → AreOrdered box → IsNextBox plant box commands seen (Ok next) → AreOrdered next
  ordered_next box next ordered is =
      let names = box ++ commands ++ seen ++ bounds plant in
      let at = terms_sound plant.next.items names (lows names) next (lows_within names (ordered_names box ordered)) is in
      within_in_order next at.0 at.2

  stays_settled : (k : ℕ) (box : List Side) → AreOrdered box → IsSettled (StaysInside plant commands seen region box k)
  stays_settled zero box ordered = covers_settled region box
  stays_settled (suc k) box ordered =
      ⊎_elim
      (λ covers. goes_on covers (λ next later. stays_settled k next later) (term_intervals plant.next.items (box ++ commands ++ seen ++ bounds plant))
      (terms_are n plant.next.items (box ++ commands ++ seen ++ bounds plant) (ordered_names box ordered) places))
      (λ not. inr (λ stays. not stays.0))
      (covers_settled region box)
    where
      goes_on : Covers region box → ((next : List Side) → AreOrdered next → IsSettled (StaysInside plant commands seen region next k))
          → (o : OrMayTrap (List Side)) → IsNextBox plant box commands seen o → IsSettled (StaysInside plant commands seen region box (suc k))
      goes_on covers later (Err t) is = inr (λ stays. let e = plant_same plant box commands seen (Err t) (Ok stays.1.0) is stays.1.1 in cc)
      goes_on covers later (Ok next) is =
          ⊎_elim
          (λ stays. inl (covers, (next, is, stays)))
          (λ not. inr (λ stays.
          let e = plant_same plant box commands seen (Ok next) (Ok stays.1.0) is stays.1.1 in
          let same : stays.1.0 ≡ next = cc in
          not (subst (λ b. StaysInside plant commands seen region b k) same stays.1.2)))
          (later next (ordered_next box next ordered is))

module _ (p : Tables) (jitter : ℕ) (cert : Cert) (rules : MeetsTableRules p) (certified : IsWellCertified p jitter cert) where
  -- the plants that a module's plant sees have hulls: a reach cell of its certificate tells them
  hulls_of : (m : ℕ) (a : ModuleInfo) (plant : PlantInfo) → At p.modules m a → At p.plants a.plant plant
      → (hulls : List (List Side)) × AreHulls p.modules plant.sees.items hulls
  hulls_of m a plant at at_p =
      let cells = certified.entries m a at in
      let point = some_point a.safer.boxes (certified.boxes m a at).1 (λ i b at_b. ((rules.modules m a at).safer.each i b at_b).1) in
      let cell = some_box cells.0.reach.boxes point.0 (certified.reach_cover m a cells.0 at cells.1 point.0 point.1) in
      let reach = certified.reach_cells m a plant cells.0 cell.0 cell.1 at at_p cells.1 cell.2 in
      (reach.hulls, reach.are)

  pub keeps_settled : (m : ℕ) (a : ModuleInfo) → At p.modules m a → (s : List ℤ) → Keeps p jitter a s ⊎ (Keeps p jitter a s → ⊥)
  keeps_settled m a at s = by_plant (rules.typed.plant_is m a at)
    where
      by_plant : (plant : PlantInfo) × At p.plants a.plant plant → Keeps p jitter a s ⊎ (Keeps p jitter a s → ⊥)
      by_plant (plant, at_p) =
          let hulls = hulls_of m a plant at at_p in
          let r = rules.plants a.plant plant at_p in
          let inputs = within_in_order (input_ranges p plant) _
          (within_picked (scalar_ranges p) (map (λ i. i.init) p.scalars) plant.inputs.items rules.typed.inits) in
          ⊎_elim
          (λ stays. inl (record { plant = plant; is = at_p; inside = record { hulls = hulls.0; are = hulls.1; stays = stays } }))
          (λ not. inr (λ keeps.
          let inside = subst (λ x. AnyTubeInside p x a.safe.boxes (point_box s) (2 * (a.period + jitter)))
          (at_same p.plants a.plant keeps.plant plant keeps.is at_p) keeps.inside in
          not (subst (λ hs. StaysInside plant (input_ranges p plant) (joined_boxes hs) a.safe.boxes (point_box s) (2 * (a.period + jitter)))
          (hulls_same p.modules plant.sees.items inside.hulls hulls.0 inside.are hulls.1) inside.stays)))
          (stays_settled plant (input_ranges p plant) (joined_boxes hulls.0) a.safe.boxes (length (plant_truths p plant))
          (HavePlaces-TermsFit (plant_truths p plant) plant.next.items r.next)
          inputs (hulls_ordered p.modules plant.sees.items hulls.0 hulls.1) (noise_ordered plant.noise.items (λ i d at_d. (r.noise_ranges i d at_d).1.0))
          (2 * (a.period + jitter)) (point_box s) (point_ordered s))
