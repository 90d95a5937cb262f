-- Regions with a certificate are held.
use Rattle.std.proofs.Common.{◌≡◌, ℕ, zero, suc, ◌+◌, List, [], ◌∷◌, ◌++◌, length, subst}
use Rattle.sot_lists.specs.Places.{At}
use Rattle.sot_box.specs.Sides.{Side, AreOrdered}
use Rattle.sot_box.specs.Boxes.{point_box, lows}
use Rattle.sot_box.specs.Regions.{IsInRegion}
use Rattle.sot_box.proofs.Ranges.{lows_within}
use Rattle.sot_box.proofs.Ordered.{append_ordered}
use Rattle.sot_lang.specs.declared.act.Act.{Act}
use Rattle.sot_lang.specs.declared.cert.Cert.{Cert}
use Rattle.sot_lang.specs.declared.tables.PlantInfo.{PlantInfo}
use Rattle.sot_lang.specs.declared.tables.NodeInfo.{NodeInfo}
use Rattle.sot_lang.specs.declared.tables.ModuleInfo.{ModuleInfo}
use Rattle.sot_lang.specs.Tables.{Tables}
use Rattle.sot_lang.specs.TableRules.{MeetsTableRules, IsCoded}
use Rattle.sot_lang.specs.TermPlaces.{HavePlaces}
use Rattle.sot_lang.specs.OwnerNames.{plant_truths}
use Rattle.sot_lang.specs.Ranges.{bounds}
use Rattle.sot_lang.specs.SafeRegions.{joined_boxes}
use Rattle.sot_lang.proofs.Places.{HavePlaces-TermsFit}
use Rattle.sot_lang.proofs.Owners.{noise_ordered}
use Rattle.sot_lang.proofs.SafeRegions.{hulls_ordered}
use Rattle.sot_iv.specs.Monotony.{AreNarrower}
use Rattle.sot_iv.specs.Evaluation.{term_intervals}
use Rattle.sot_iv.proofs.Narrow.{within_narrow}
use Rattle.sot_iv.proofs.NarrowBoxes.{narrower_ordered, ordered_narrower, point_narrower}
use Rattle.sot_iv.proofs.Terms.{terms_are}
use Rattle.sot_iv.proofs.Plants.{plant_narrow}
use Rattle.sot_tube.specs.Tubes.{StaysInside, IsNextBox}
use Rattle.sot_tube.specs.Certified.{IsWellCertified, command_intervals}
use Rattle.sot_tube.proofs.Certificate.{in_some_box}
use Rattle.sot_law_invariant_regions.specs.Shown.{IsShown}
use Rattle.sot_law_invariant_regions.specs.Following.{StaysAmong, HeldStays, IsHeldRegion}
use Rattle.sot_law_invariant_regions.proofs.Commands.{drafts_narrow, commands_narrow}

module _ (plant : PlantInfo) (held wide seen : List Side) (region : List (List Side)) (n : ℕ) (places : HavePlaces n plant.next.items)
    (commands : AreNarrower held wide) (ordered_seen : AreOrdered seen) (ordered_bounds : AreOrdered (bounds plant)) where
  -- the tube from a narrower box with narrower commands stays in the region too
  pub stays_narrower : (k : ℕ) (b c : List Side) → AreNarrower b c → StaysInside plant wide seen region c k
      → StaysAmong (IsInRegion region) plant held seen b k
  stays_narrower zero b c narrow h = λ s w. h s (within_narrow b c s narrow w)
  stays_narrower (suc k) b c narrow h =
      let names = b ++ held ++ seen ++ bounds plant in
      let ordered =
      append_ordered (b ++ held ++ seen) (bounds plant)
      (append_ordered (b ++ held) seen (append_ordered b held (narrower_ordered b c narrow) (narrower_ordered held wide commands)) ordered_seen)
      ordered_bounds in
      let are = terms_are n plant.next.items names ordered places in
      let next = plant_narrow plant b held seen c wide seen h.1.0 (lows (bounds plant)) (term_intervals plant.next.items names) narrow commands
      (ordered_narrower seen ordered_seen) (lows_within (bounds plant) ordered_bounds) h.1.1 are in
      ((λ s w. h.0 s (within_narrow b c s narrow w)), (next.0, subst (IsNextBox plant b held seen) next.1 are, stays_narrower k next.0 h.1.0 next.2 h.1.2))

-- a safe region that cells show is held: with each point it has the tube of the point's cell
module _ (p : Tables) (jitter : ℕ) (cert : Cert) (m : ℕ) (a : ModuleInfo) (rules : MeetsTableRules p) (shown : IsShown p jitter cert m a)
    (at : At p.modules m a) where
  pub shown_is_held : IsHeldRegion p jitter a a.safe.boxes
  shown_is_held s inside = by_plant (rules.typed.plant_is m a at) (rules.typed.sc_is m a at)
    where
      by_plant : (plant : PlantInfo) × At p.plants a.plant plant → (sc : NodeInfo) × (acts : List Act) × At p.nodes a.sc sc × IsCoded sc acts
          → HeldStays (IsInRegion a.safe.boxes) p jitter a (point_box s)
      by_plant (plant, at_p) (sc, acts, at_s, coded) =
          let own = rules.plants a.plant plant at_p in
          let cells = shown.0 in
          let checks = shown.2 plant at_p sc at_s acts coded cells.0 cells.1 in
          let box = in_some_box cells.0.closed.boxes s (checks.0 s inside) in
          let cell = checks.1.0 box.0 box.1 box.2 in
          let narrow = point_narrower box.1 s box.3 in
          let hulls = cell.drafts.hulls in
          let drafts = drafts_narrow p rules a plant at_p sc at_s acts coded hulls cell.drafts.are (point_box s) box.1 cell.fired narrow cell.drafts in
          let commands =
          commands_narrow p rules a plant at_p sc at_s acts coded hulls cell.drafts.are box.1 drafts.0 cell.fired drafts.2 cell.drafts in
          record {
            plant = plant;
            plant_is = at_p;
            sc = sc;
            sc_is = at_s;
            acts = acts;
            coded = coded;
            fired = drafts.0;
            drafts = drafts.1;
            hulls = cell.stays.hulls;
            are = cell.stays.are;
            stays =
                stays_narrower plant (command_intervals p plant sc drafts.0.draft) (command_intervals p plant sc cell.fired.draft)
                (joined_boxes cell.stays.hulls) a.safe.boxes (length (plant_truths p plant))
                (HavePlaces-TermsFit (plant_truths p plant) plant.next.items own.next)
                commands (hulls_ordered p.modules plant.sees.items cell.stays.hulls cell.stays.are)
                (noise_ordered plant.noise.items (λ i q at_q. (own.noise_ranges i q at_q).1.0)) (sc.period + jitter) (point_box s) box.1 narrow
                cell.stays.stays;
          }

-- a certificate shows the regions of each module of a program that it is good for
pub certified_shown : (p : Tables) (jitter : ℕ) (cert : Cert) (m : ℕ) (a : ModuleInfo) → At p.modules m a → IsWellCertified p jitter cert
    → IsShown p jitter cert m a
certified_shown p jitter cert m a at certified = (
  certified.entries m a at,
  certified.boxes m a at,
  λ plant at_p sc at_s acts coded cells has. (
    certified.closed_cover m a cells at has,
    (
      (λ i cell at_c. certified.closed_cells m a plant sc acts cells i cell at at_p at_s coded has at_c),
      (
        certified.reach_cover m a cells at has,
        λ i cell at_c. certified.reach_cells m a plant cells i cell at at_p has at_c,
      ),
    ),
  ),
)

-- so a region with a certificate is held
pub certified_is_held : (p : Tables) (jitter : ℕ) (cert : Cert) (m : ℕ) (a : ModuleInfo) → MeetsTableRules p → IsWellCertified p jitter cert
    → At p.modules m a → IsHeldRegion p jitter a a.safe.boxes
certified_is_held p jitter cert m a rules certified at =
    shown_is_held p jitter cert m a rules (certified_shown p jitter cert m a at certified) at
