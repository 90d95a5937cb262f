-- The held tube of a cell that the safe region covers.
use Rattle.std.proofs.Common.{◌≡◌, ℕ, ◌+◌, List, [], ◌∷◌, ◌++◌, Ok, length, refl, sym, ap, ◌∙◌, subst, replicate}
use Rattle.std.specs.Prelude.{map, slice_set, Result, MatchResult, IsOk, ◌-◌}
use Rattle.std.proofs.lemmas.Option.{same_Some}
use Rattle.sot_box.specs.Sides.{Side, AreOrdered}
use Rattle.sot_lists.specs.Places.{At}
use Rattle.sot_box.specs.Boxes.{lows}
use Rattle.sot_box.specs.Regions.{Covers}
use Rattle.sot_box.proofs.Ranges.{lows_within}
use Rattle.sot_lang.specs.declared.act.Act.{Act}
use Rattle.sot_lang.specs.declared.tables.PlantInfo.{PlantInfo}
use Rattle.sot_lang.specs.declared.tables.NodeInfo.{NodeInfo}
use Rattle.sot_lang.specs.declared.tables.ModuleInfo.{ModuleInfo}
use Rattle.sot_lang.specs.Tables.{Tables}
use Rattle.sot_lang.specs.TableRules.{MeetsTableRules, IsCoded}
use Rattle.sot_iv.specs.declared.drafted.Drafted.{Drafted}
use Rattle.sot_iv.specs.declared.drafted.Drafted.TheVariants.{Absent}
use Rattle.sot_iv.specs.TermIntervals.{OrMayTrap}
use Rattle.sot_iv.specs.BodyIntervals.{Intervals}
use Rattle.sot_iv.specs.NodeFirings.{drafts_of}
use Rattle.sot_iv.specs.NodeIntervals.{IsNodeExecution}
use Rattle.sot_lang.proofs.Owners.{one_body}
use Rattle.sot_traps.proofs.SafeHulls.{all_hulls}
use Rattle.sot_tube.specs.declared.leave.Leave.{Leave}
use Rattle.sot_tube.specs.Tubes.{TubeInside}
use Rattle.sot_tube.specs.Leaves.{TubeLeaves}
use Rattle.sot_tube.specs.Certified.{command_interval, command_intervals, DraftsFrom}
use Rattle.sot_tube.specs.Calls.{AnswersTube}
use Rattle.sot_tube.proofs.CellsNarrow.{cell_never_traps}
use Rattle.sot_rta.specs.Drafts.{IsCellDraft}
use Rattle.sot_rta.specs.Cells.{MayHaveCells, AreHeldCommands, AnswersHeldTube}
use Rattle.sot_lists.proofs.Places.{map_same}
use Rattle.sot_rta.proofs.CommandSides.{padded}

same_Ok : (x y : List Drafted) → (let o : OrMayTrap (List Drafted) = Ok x in o) ≡ Ok y → x ≡ y
same_Ok x y e = cc

module _ (p : Tables) (rules : MeetsTableRules p) (may : MayHaveCells p) (m : ℕ) (a : ModuleInfo) (at : At p.modules m a) (plant : PlantInfo)
    (plant_at : At p.plants a.plant plant) (sc : NodeInfo) (sc_at : At p.nodes a.sc sc) where
  -- the safe node is coded
  pub is_coded : (acts : List Act) × IsCoded sc acts
  is_coded =
      let n = rules.typed.sc_is m a at in
      (n.1, subst (λ (x : NodeInfo). IsCoded x n.1) (same_Some n.0 sc (sym n.2 ∙ sc_at)) n.3)

  module _ (cell : List Side) (ordered : AreOrdered cell) (covered : Covers a.safe.boxes cell) (result : OrMayTrap (List Drafted))
      (drafts : IsCellDraft p a.plant cell sc result) where
    abbrev Held : PlantInfo → NodeInfo → List Act → List Side → Type 0
    Held plant sc acts held = (fired : Intervals) × DraftsFrom p a sc acts cell fired × (held ≡ command_intervals p plant sc fired.draft)

    -- what it drafts from the cell, without a trap
    pub fires : (fired : Intervals) × DraftsFrom p a sc is_coded.0 cell fired × (result ≡ drafts_of (Ok fired))
    fires =
        let hs = all_hulls p rules may.boxes in
        let o = drafts is_coded.0 hs.0 is_coded.1 hs.1 in
        let f = cell_never_traps p rules.typed may.own_plant m a plant sc is_coded.0 hs.0 cell (lows cell) o.0 at plant_at sc_at
        (may.free a.sc sc is_coded.0 sc_at is_coded.1) hs.1 (lows_within cell ordered) covered o.1 in
        let runs = subst (λ q. IsNodeExecution p sc is_coded.0 (slice_set hs.0 a.plant cell) q) f.1 o.1 in
        (f.0, record { hulls = hs.0; are = hs.1; runs = runs }, o.2 ∙ ap drafts_of f.1)

    pub is_ok : IsOk result
    is_ok = subst IsOk (sym fires.2) refl

    -- the commands that were found
    pub commands : (draft : List Drafted) → result ≡ Ok draft → (inputs writes : List ℕ) (held : List Side) → inputs ≡ plant.inputs.items
        → writes ≡ sc.writes.items → held ≡ map (command_interval p writes draft) inputs → AreHeldCommands p a cell held
    commands draft is inputs writes held inputs_are writes_are held_is plant' sc' acts plant_at' sc_at' coded =
        let same_p : plant ≡ plant' = same_Some plant plant' (sym plant_at ∙ plant_at') in
        let same_s : sc ≡ sc' = same_Some sc sc' (sym sc_at ∙ sc_at') in
        let body : is_coded.0 ≡ acts = one_body sc is_coded.0 acts is_coded.1 (subst (λ (x : NodeInfo). IsCoded x acts) (sym same_s) coded) in
        let f = fires in
        let drafted : draft ≡ f.0.draft ++ replicate (8 - length f.0.draft) Absent = same_Ok draft _ (sym is ∙ f.2) in
        let equal : held ≡ command_intervals p plant sc f.0.draft =
        held_is ∙ ap (map (command_interval p writes draft)) inputs_are ∙ ap (λ l. map (command_interval p l draft) plant.inputs.items) writes_are
        ∙ ap (λ l. map (command_interval p sc.writes.items l) plant.inputs.items) drafted
        ∙ map_same (command_interval p sc.writes.items (f.0.draft ++ replicate (8 - length f.0.draft) Absent)) (command_interval p sc.writes.items f.0.draft)
        plant.inputs.items (λ k has. padded p k sc.writes.items f.0.draft (8 - length f.0.draft)) in
        let found : Held plant sc is_coded.0 held = (f.0, f.1, equal) in
        subst (λ q. Held q sc' acts held) same_p (subst (λ q. Held plant q acts held) same_s (subst (λ q. Held plant sc q held) body found))

  -- the tube's answer, with these commands
  pub answers : (cell : List Side) (jitter : ℕ) (held : List Side) → AreHeldCommands p a cell held → (r : Result (Unit {0}) Leave)
      → AnswersTube p m held cell (sc.period + jitter) r → AnswersHeldTube p jitter a cell r
  answers cell jitter held are r tube plant' sc' acts plant_at' sc_at' coded =
      let same_s : sc ≡ sc' = same_Some sc sc' (sym sc_at ∙ sc_at') in
      let h = are plant' sc' acts plant_at' sc_at' coded in
      let told = subst (λ (x : NodeInfo). MatchResult r (λ _. TubeInside p plant' held a.safe.boxes cell (x.period + jitter))
      (λ leave. TubeLeaves p plant' held a.safe.boxes cell (x.period + jitter) leave)) same_s (tube a plant' at plant_at') in (
        h.0,
        h.1,
        subst (λ l. MatchResult r (λ _. TubeInside p plant' l a.safe.boxes cell (sc'.period + jitter))
            (λ leave. TubeLeaves p plant' l a.safe.boxes cell (sc'.period + jitter) leave)) h.2 told,
      )
