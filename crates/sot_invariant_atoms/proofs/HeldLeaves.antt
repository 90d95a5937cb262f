-- A held tube that stays among some points, as it is followed with the commands that were found.
use Rattle.std.proofs.Common.{◌≡◌, ℕ, ◌+◌, ◌-◌, ℤ, List, ◌++◌, Ok, Err, length, refl, sym, ap, ◌∙◌, subst, replicate}
use Rattle.std.specs.Prelude.{map, slice_set}
use Rattle.std.proofs.lemmas.Option.{same_Some}
use Rattle.sot_box.specs.Sides.{Side}
use Rattle.sot_lists.specs.Places.{At}
use Rattle.sot_lang.specs.declared.act.Act.{Act}
use Rattle.sot_lang.specs.declared.tables.PlantInfo.{PlantInfo}
use Rattle.sot_lang.specs.declared.tables.NodeInfo.{NodeInfo}
use Rattle.sot_lang.specs.declared.tables.ModuleInfo.{ModuleInfo}
use Rattle.sot_lang.specs.Tables.{Tables}
use Rattle.sot_lang.specs.Ranges.{local_ranges, write_ranges}
use Rattle.sot_lang.specs.SafeRegions.{AreHulls, AllHulls, joined_boxes}
use Rattle.sot_lang.specs.TableRules.{MeetsTableRules, IsCoded}
use Rattle.sot_iv.specs.SeenHulls.{AreSeenHulls}
use Rattle.sot_iv.specs.declared.may_trap.MayTrap.{MayTrap}
use Rattle.sot_iv.specs.declared.drafted.Drafted.{Drafted}
use Rattle.sot_iv.specs.declared.drafted.Drafted.TheVariants.{Absent}
use Rattle.sot_iv.specs.TermIntervals.{OrMayTrap}
use Rattle.sot_iv.specs.BodyIntervals.{Intervals}
use Rattle.sot_iv.specs.NodeFirings.{drafts_of}
use Rattle.sot_iv.specs.NodeIntervals.{reading_intervals, IsNodeExecution}
use Rattle.sot_iv.specs.Monotony.{AreNarrower, IsNarrowerEnd}
use Rattle.sot_iv.proofs.BodyUnique.{execution_same}
use Rattle.sot_tube.specs.Certified.{command_interval, command_intervals, DraftsFrom}
use Rattle.sot_tube.proofs.Leaving.{hulls_same, all_hulls_same}
use Rattle.sot_lists.proofs.Places.{map_same}
use Rattle.sot_rta.specs.Drafts.{IsCellDraft}
use Rattle.sot_rta.proofs.CommandSides.{padded}
use Rattle.sot_law_invariant_regions.specs.Following.{StaysAmong, HeldStays}
use Rattle.sot_law_invariant_regions.specs.Walks.{SomeTubeStays}
use Rattle.sot_law_invariant_regions.proofs.Commands.{drafts_narrow, commands_narrow}
use Rattle.sot_law_invariant_regions.proofs.Walking.{stays_more}

same_Ok : {A : Type 0} (x y : A) → (let o : OrMayTrap A = Ok x in o) ≡ Ok y → x ≡ y
same_Ok x y e = cc

-- among more points
pub held_more : (P Q : List ℤ → Type 0) (p : Tables) (jitter : ℕ) (a : ModuleInfo) (box : List Side) → ((s : List ℤ) → P s → Q s) → HeldStays P p jitter a box
    → HeldStays Q p jitter a box
held_more P Q p jitter a box more h = record {
  plant = h.plant;
  plant_is = h.plant_is;
  sc = h.sc;
  sc_is = h.sc_is;
  acts = h.acts;
  coded = h.coded;
  fired = h.fired;
  drafts = h.drafts;
  hulls = h.hulls;
  are = h.are;
  stays = stays_more P h.plant Q more (command_intervals p h.plant h.sc h.fired.draft) (joined_boxes h.hulls) box (h.sc.period + jitter) h.stays;
}

module _ (P : List ℤ → Type 0) (p : Tables) (rules : MeetsTableRules p) (jitter : ℕ) (a : ModuleInfo) (plant : PlantInfo)
    (plant_at : At p.plants a.plant plant) (sc : NodeInfo) (sc_at : At p.nodes a.sc sc) (area : List Side) where
  -- the question's plant and safe node, and those of a tube that stays
  module _ (box : List Side) (h : HeldStays P p jitter a box) where
    same_plant : h.plant ≡ plant
    same_plant = same_Some h.plant plant (sym h.plant_is ∙ plant_at)

    same_sc : h.sc ≡ sc
    same_sc = same_Some h.sc sc (sym h.sc_is ∙ sc_at)

    coded : IsCoded sc h.acts
    coded = subst (λ (x : NodeInfo). IsCoded x h.acts) same_sc h.coded

    drafts : DraftsFrom p a sc h.acts box h.fired
    drafts = subst (λ (x : NodeInfo). DraftsFrom p a x h.acts box h.fired) same_sc h.drafts

    stays : (seen : List Side) → AreSeenHulls p.modules plant.sees.items seen
        → StaysAmong P plant (command_intervals p plant sc h.fired.draft) seen box (sc.period + jitter)
    stays seen are =
        let hulls : AreSeenHulls p.modules plant.sees.items (joined_boxes h.hulls) =
        (h.hulls, subst (λ (x : PlantInfo). AreHulls p.modules x.sees.items h.hulls) same_plant h.are, refl) in
        let e : joined_boxes h.hulls ≡ seen = ap joined_boxes (hulls_same p.modules plant.sees.items h.hulls are.0 hulls.1 are.1) ∙ sym are.2 in
        let s = subst (λ (x : PlantInfo). StaysAmong P x (command_intervals p x h.sc h.fired.draft) (joined_boxes h.hulls) box (h.sc.period + jitter))
        same_plant h.stays in
        let t = subst (λ (x : NodeInfo). StaysAmong P plant (command_intervals p plant x h.fired.draft) (joined_boxes h.hulls) box
        (x.period + jitter)) same_sc s
        in
        subst (λ q. StaysAmong P plant (command_intervals p plant sc h.fired.draft) q box (sc.period + jitter)) e t

  module _ (result : OrMayTrap (List Drafted)) (drafted : IsCellDraft p a.plant area sc result) where
    -- a node that may trap has no held tube
    pub never_drafts : (t : MayTrap) → result ≡ Err t → HeldStays P p jitter a area → ⊥
    never_drafts t is h =
        let d = drafts area h in
        let o = drafted h.acts d.hulls (coded area h) d.are in
        let e = execution_same h.acts (local_ranges sc) (write_ranges p sc) (reading_intervals p sc (slice_set d.hulls a.plant area)) (local_ranges sc) o.0
        (Ok h.fired) o.1 d.runs in
        let f : drafts_of o.0 ≡ drafts_of (Ok h.fired) = ap drafts_of e in
        let g : (let q : OrMayTrap (List Drafted) = Err t in q) ≡ drafts_of (Ok h.fired) = sym is ∙ o.2 ∙ f in
        cc

    module _ (draft : List Drafted) (is : result ≡ Ok draft) (inputs writes : List ℕ) (held : List Side) (inputs_are : inputs ≡ plant.inputs.items)
        (writes_are : writes ≡ sc.writes.items) (held_is : held ≡ map (command_interval p writes draft) inputs) where
      -- what was found is what the node drafts
      found : (acts : List Act) → IsCoded sc acts → (hulls : List (List Side)) → AllHulls p hulls
          → (f : Intervals) × DraftsFrom p a sc acts area f × (held ≡ command_intervals p plant sc f.draft)
      found acts coded' hulls are = from (drafted acts hulls coded' are)
        where
          from : (o : OrMayTrap Intervals) × IsNodeExecution p sc acts (slice_set hulls a.plant area) o × (result ≡ drafts_of o)
              → (f : Intervals) × DraftsFrom p a sc acts area f × (held ≡ command_intervals p plant sc f.draft)
          from (Err t, runs, e) = absurd (let g : (let q : OrMayTrap (List Drafted) = Ok draft in q) ≡ Err t = sym is ∙ e in cc)
          from (Ok f, runs, e) =
              let same : draft ≡ f.draft ++ replicate (8 - length f.draft) Absent = same_Ok draft _ (sym is ∙ e) in (
                f,
                record { hulls = hulls; are = are; runs = runs },
                held_is ∙ ap (map (command_interval p writes draft)) inputs_are ∙ ap (λ l. map (command_interval p l draft) plant.inputs.items) writes_are
                    ∙ ap (λ l. map (command_interval p sc.writes.items l) plant.inputs.items) same
                    ∙ map_same (command_interval p sc.writes.items (f.draft ++ replicate (8 - length f.draft) Absent))
                    (command_interval p sc.writes.items f.draft)
                    plant.inputs.items (λ k has. padded p k sc.writes.items f.draft (8 - length f.draft)),
              )

      -- the held tube of the box, and some tube of a narrower one
      pub tube_of : (seen : List Side) → AreSeenHulls p.modules plant.sees.items seen → HeldStays P p jitter a area
          → StaysAmong P plant held seen area (sc.period + jitter)
      tube_of seen are h =
          let d = drafts area h in
          let f = found h.acts (coded area h) d.hulls d.are in
          let same_hulls = all_hulls_same p f.1.hulls d.hulls f.1.are d.are in
          let runs = subst (λ q. IsNodeExecution p sc h.acts (slice_set q a.plant area) (Ok f.0)) same_hulls f.1.runs in
          let e = execution_same h.acts (local_ranges sc) (write_ranges p sc) (reading_intervals p sc (slice_set d.hulls a.plant area))
          (local_ranges sc) (Ok f.0)
          (Ok h.fired) runs d.runs in
          let same : f.0 ≡ h.fired = same_Ok f.0 h.fired e in
          let commands : command_intervals p plant sc h.fired.draft ≡ held = sym (f.2 ∙ ap (λ (g : Intervals). command_intervals p plant sc g.draft) same) in
          subst (λ q. StaysAmong P plant q seen area (sc.period + jitter)) commands (stays area h seen are)

      pub some_tube_of : (seen : List Side) → AreSeenHulls p.modules plant.sees.items seen → (box : List Side) → AreNarrower box area
          → HeldStays P p jitter a box
          → SomeTubeStays P plant held seen area (sc.period + jitter)
      some_tube_of seen are box narrow h =
          let d = drafts box h in
          let c = coded box h in
          let g = found h.acts c d.hulls d.are in
          let f = drafts_narrow p rules a plant plant_at sc sc_at h.acts c d.hulls d.are box area g.0 narrow g.1 in
          let same_hulls = all_hulls_same p f.1.hulls d.hulls f.1.are d.are in
          let runs = subst (λ q. IsNodeExecution p sc h.acts (slice_set q a.plant box) (Ok f.0)) same_hulls f.1.runs in
          let e = execution_same h.acts (local_ranges sc) (write_ranges p sc) (reading_intervals p sc (slice_set d.hulls a.plant box))
          (local_ranges sc) (Ok f.0)
          (Ok h.fired) runs d.runs in
          let same : f.0 ≡ h.fired = same_Ok f.0 h.fired e in
          let end : IsNarrowerEnd h.fired g.0 = subst (λ q. IsNarrowerEnd q g.0) same f.2 in
          let commands = commands_narrow p rules a plant plant_at sc sc_at h.acts c d.hulls d.are area h.fired g.0 end g.1 in
          record {
            first = box;
            held = command_intervals p plant sc h.fired.draft;
            in_box = narrow;
            in_commands = subst (λ q. AreNarrower (command_intervals p plant sc h.fired.draft) q) (sym g.2) commands;
            stays = stays box h seen are;
          }
