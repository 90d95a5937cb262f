-- The tube of a closed cell, by the module, the plant and the node that were found.
use Rattle.std.proofs.Common.{◌≡◌, ℕ, ◌+◌, ◌<◌, ◌≤◌, List, length, sym, ap, ◌∙◌, subst}
use Rattle.std.proofs.lemmas.List.{length-map}
use Rattle.sot_lists.specs.Places.{At, Has}
use Rattle.sot_lists.proofs.Places.{at_same}
use Rattle.sot_box.specs.Sides.{Side, AreOrdered}
use Rattle.sot_box.specs.Regions.{Covers}
use Rattle.sot_lang.specs.declared.cert.Cert.{Cert}
use Rattle.sot_lang.specs.declared.tables.PlantInfo.{PlantInfo}
use Rattle.sot_lang.specs.declared.tables.NodeInfo.{NodeInfo}
use Rattle.sot_lang.specs.declared.tables.ModuleInfo.{ModuleInfo}
use Rattle.sot_lang.specs.Tables.{Tables}
use Rattle.sot_lang.specs.OwnerNames.{width_of, seen_width}
use Rattle.sot_lang.specs.TableRules.{MeetsTableRules}
use Rattle.sot_lang.specs.CertRules.{FitsTables, AreCellsOf}
use Rattle.sot_lang.specs.SafeRegions.{AreHulls, joined_boxes}
use Rattle.sot_lang.proofs.Owners.{width_at}
use Rattle.sot_iv.specs.BodyIntervals.{Intervals}
use Rattle.sot_iv.specs.PlantTicks.{MayTickBox}
use Rattle.sot_iv.specs.SeenHulls.{AreSeenHulls}
use Rattle.sot_tube.specs.Calls.{MayFollow}
use Rattle.sot_tube.specs.Certified.{IsWellCertified, IsClosedCell, DraftsFrom, command_interval, command_intervals}
use Rattle.sot_tube.proofs.VerdictExact.{drafts_same}
use Rattle.sot_tube.proofs.Leaving.{hulls_same}
use Rattle.sot_rta.specs.Cells.{MayHaveCells, AreHeldCommands}
use Rattle.sot_law_runs.specs.TubeBoxes.{IsBoxAfter}
use Rattle.sot_law_runs.proofs.TubeBoxes.{boxes}
use Rattle.sot_law_runs.specs.Holds.{Guarded}
use Rattle.sot_law_runs.proofs.Rows.{guarded_modules}
use Rattle.sot_recover.specs.Tubes.{GoesOn, AreTubeBoxes, IsTubeOf}

-- a closed cell has the width of the module's plant
pub wide_in : (p : Tables) (cert : Cert) (m : ℕ) → FitsTables p cert → (g : Guarded p cert m) (cell : List Side) → Has g.cells.closed.boxes cell
    → length cell ≡ width_of p.plants g.info.plant
wide_in p cert m fits g cell closed = (let fit = fits.closed m g.info g.cells g.info_is g.cells_are in (fit.each closed.0 cell closed.1).0 ∙ fit.width)

module _ (p : Tables) (cert : Cert) (m : ℕ) (rules : MeetsTableRules p) (certified : IsWellCertified p cert.jitter cert) (fits : FitsTables p cert) where
  pub may : MayHaveCells p
  may = record { own_plant = certified.own_plant; boxes = λ i a at. (certified.boxes i a at).0; free = certified.trap_free }

  pub account : m < length p.modules → Guarded p cert m
  account there = guarded_modules p cert m rules.typed certified there

  -- cells of an account have the width of its plant, and are in order
  pub cells_of : (g : Guarded p cert m) → AreCellsOf p g.info.plant g.cells.closed
  cells_of g = fits.closed m g.info g.cells g.info_is g.cells_are

  module _ (there : m < length p.modules) (info : ModuleInfo) (at : At p.modules m info) (cell : List Side)
      (closed : (g : Guarded p cert m) → Has g.cells.closed.boxes cell) where
    abbrev g : Guarded p cert m
    g = account there

    same_info : g.info ≡ info
    same_info = at_same p.modules m g.info info g.info_is at

    is : IsClosedCell p cert.jitter g.info g.plant g.sc g.acts cell
    is = (let c = closed g in certified.closed_cells m g.info g.plant g.sc g.acts g.cells c.0 cell g.info_is g.plant_is g.sc_is g.coded g.cells_are c.1)

    pub width : length cell ≡ width_of p.plants info.plant
    width =
        let c = closed g in
        let fit = cells_of g in
        subst (λ (a : ModuleInfo). length cell ≡ width_of p.plants a.plant) same_info ((fit.each c.0 cell c.1).0 ∙ fit.width)

    pub ordered : AreOrdered cell
    ordered = (let c = closed g in ((cells_of g).each c.0 cell c.1).1)

    pub covered : Covers info.safe.boxes cell
    covered = subst (λ (a : ModuleInfo). Covers a.safe.boxes cell) same_info is.covered

    pub follows : MayFollow p m cell
    follows =
        record {
          boxes = may.boxes;
          exists' = there;
          width = λ a at_a.
              subst (λ (x : ModuleInfo). length cell ≡ width_of p.plants x.plant) (at_same p.modules m info a at at_a) width;
        }

    module _ (plant : PlantInfo) (plant_at : At p.plants info.plant plant) (sc : NodeInfo) (sc_at : At p.nodes info.sc sc) where
      same_plant : g.plant ≡ plant
      same_plant = at_same p.plants info.plant g.plant plant (subst (λ (a : ModuleInfo). At p.plants a.plant g.plant) same_info g.plant_is) plant_at

      same_sc : g.sc ≡ sc
      same_sc = at_same p.nodes info.sc g.sc sc (subst (λ (a : ModuleInfo). At p.nodes a.sc g.sc) same_info g.sc_is) sc_at

      pub may_tick : (held seen : List Side) → length held ≡ length plant.inputs.items → length seen ≡ seen_width p.plants plant.sees.items
          → MayTickBox p info.plant cell held seen
      may_tick held seen inputs wide =
          record { plant = plant; is = plant_at; states = width ∙ width_at p.plants info.plant plant plant_at; inputs = inputs; seen_are = wide }

      module _ (held seen : List Side) (are : AreHeldCommands p info cell held) (hulls : AreSeenHulls p.modules plant.sees.items seen) where
        -- the commands of an account
        commands_of : (h : Guarded p cert m) → (fired : Intervals) × DraftsFrom p h.info h.sc h.acts cell fired
            × (held ≡ command_intervals p h.plant h.sc fired.draft)
        commands_of h =
            let e : info ≡ h.info = at_same p.modules m info h.info at h.info_is in
            let are' : AreHeldCommands p h.info cell held = subst (λ (a : ModuleInfo). AreHeldCommands p a cell held) e are in
            are' h.plant h.sc h.acts h.plant_is h.sc_is h.coded

        -- one for each input
        pub inputs_long : length held ≡ length plant.inputs.items
        inputs_long =
            let k = commands_of g in
            ap length k.2 ∙ length-map g.plant.inputs.items (command_interval p g.sc.writes.items k.0.draft)
            ∙ ap (λ (q : PlantInfo). length q.inputs.items) same_plant

        seen_of : (h : Guarded p cert m) → (hs : List (List Side)) × AreHulls p.modules h.plant.sees.items hs × (seen ≡ joined_boxes hs)
        seen_of h =
            let e : info ≡ h.info = at_same p.modules m info h.info at h.info_is in
            let one : plant ≡ h.plant = at_same p.plants h.info.plant plant h.plant (subst (λ (a : ModuleInfo). At p.plants a.plant plant) e plant_at)
            h.plant_is in
            subst (λ (q : PlantInfo). AreSeenHulls p.modules q.sees.items seen) one hulls

        -- the tube goes on for as long as a firing is held
        pub goes : (i : PlantInfo) → At p.plants info.plant i → GoesOn i held seen cell (sc.period + cert.jitter)
        goes i at_i j le =
            let k = commands_of g in
            let s = seen_of g in
            let fired : is.fired ≡ k.0 = drafts_same p g.info g.sc g.acts cell is.fired k.0 is.drafts k.1 in
            let hs : is.stays.hulls ≡ s.0 = hulls_same p.modules g.plant.sees.items is.stays.hulls s.0 is.stays.are s.1 in
            let ticks : sc.period + cert.jitter ≡ g.sc.period + cert.jitter = ap (λ (n : NodeInfo). n.period + cert.jitter) (sym same_sc) in
            let box = boxes p g.plant (command_intervals p g.plant g.sc is.fired.draft) g.info.safe.boxes cell (g.sc.period + cert.jitter) is.stays j
            (subst (λ n. j ≤ n) ticks le) in
            let one : g.plant ≡ i = at_same p.plants info.plant g.plant i (subst (λ q. At p.plants info.plant q) (sym same_plant) plant_at) at_i in
            let now : IsBoxAfter g.plant held seen cell j box.0 =
            subst (λ q. IsBoxAfter g.plant held q cell j box.0) (sym s.2)
            (subst (λ q. IsBoxAfter g.plant q (joined_boxes s.0) cell j box.0) (sym k.2)
            (subst (λ (q : List (List Side)). IsBoxAfter g.plant (command_intervals p g.plant g.sc k.0.draft) (joined_boxes q) cell j box.0) hs
            (subst (λ (q : Intervals). IsBoxAfter g.plant (command_intervals p g.plant g.sc q.draft) (joined_boxes is.stays.hulls) cell j box.0) fired box.1)))
            in
            (box.0, subst (λ q. IsBoxAfter q held seen cell j box.0) one now)

        -- the boxes that were found are those of the tube, by each account
        pub tube_of : (found : List (List Side)) → ((i : PlantInfo) → At p.plants info.plant i → AreTubeBoxes i held seen cell (sc.period + cert.jitter) found)
            → (h : Guarded p cert m) → IsTubeOf h cell found
        tube_of found told h =
            let k = commands_of h in
            let s = seen_of h in
            let e : info ≡ h.info = at_same p.modules m info h.info at h.info_is in
            let node : sc ≡ h.sc = at_same p.nodes h.info.sc sc h.sc (subst (λ (a : ModuleInfo). At p.nodes a.sc sc) e sc_at) h.sc_is in
            record {
              fired = k.0;
              drafts = k.1;
              hulls = s.0;
              are = s.1;
              boxes_are =
                  subst (λ (n : NodeInfo). AreTubeBoxes h.plant (command_intervals p h.plant h.sc k.0.draft) (joined_boxes s.0) cell (n.period + cert.jitter)
                  found) node
                  (subst (λ q. AreTubeBoxes h.plant q (joined_boxes s.0) cell (sc.period + cert.jitter) found) k.2
                  (subst (λ q. AreTubeBoxes h.plant held q cell (sc.period + cert.jitter) found) s.2
                  (told h.plant (subst (λ (a : ModuleInfo). At p.plants a.plant h.plant) (sym e) h.plant_is))));
            }
