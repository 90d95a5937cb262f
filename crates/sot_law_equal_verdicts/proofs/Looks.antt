-- Plants and nodes that look the same step and draft alike.
use Rattle.std.proofs.Common.{◌≡◌, ℕ, List, Ok, map, sym, ap, ◌∙◌, subst}
use Rattle.std.proofs.lemmas.Option.{same_Some}
use Rattle.sot_lists.specs.Places.{At, Has}
use Rattle.sot_lists.proofs.Places.{at_map}
use Rattle.sot_box.specs.Sides.{Side}
use Rattle.sot_lang.specs.declared.act.Act.{Act}
use Rattle.sot_lang.specs.declared.tables.LocalInfo.{LocalInfo}
use Rattle.sot_lang.specs.declared.tables.Slot.{Slot}
use Rattle.sot_lang.specs.declared.tables.Slot.TheVariants.{State}
use Rattle.sot_lang.specs.declared.tables.PlantInfo.{PlantInfo}
use Rattle.sot_lang.specs.declared.tables.NodeInfo.{NodeInfo}
use Rattle.sot_lang.specs.declared.tables.ModuleInfo.{ModuleInfo}
use Rattle.sot_lang.specs.Tables.{Tables}
use Rattle.sot_lang.specs.Ranges.{local_ranges}
use Rattle.sot_iv.specs.BodyIntervals.{Intervals}
use Rattle.sot_typing.specs.Formulas.{deeds_view}
use Rattle.sot_typing.specs.Resolved.{PlantTable, NodeTable}
use Rattle.sot_typing.proofs.Seen.{of_seen}
use Rattle.sot_law_equal_tables.proofs.Bodies.{IsDeedsExecution, execution_view}
use Rattle.sot_law_equal_tables.proofs.Plants.{along}
use Rattle.sot_law_equal_tables.proofs.PlacelessPlants.{next_alike}
use Rattle.sot_law_equal_tables.proofs.PlacelessSeen.{bare_deeds}
use Rattle.sot_law_equal_tables.proofs.PlacelessBodies.{execution_same}
use Rattle.sot_law_equal_tables.proofs.PlacelessNodes.{coded_alike}
use Rattle.sot_law_invariant_regions.specs.Alone.{IsAlone, MoveAlike, IsRun, DraftAlike, RunAlike}
use Rattle.sot_law_equal_verdicts.specs.ModuleLaws.{plant_look, node_look, LookAlike, HaveOnePlant}

-- what looks the same as what stands at a place of the other list
mapped_back : {A B : Type 0} (f : A → B) (xs ys : List A) (k : ℕ) (x y : A) → map f xs ≡ map f ys → At xs k x → At ys k y → f x ≡ f y
mapped_back {A} {B} f xs ys k x y same ax ay =
    let P : List B → Type 0 = λ l. At l k (f x) in
    same_Some (f x) (f y) (sym (subst P same (at_map f xs k x ax)) ∙ at_map f ys k y ay)

-- plants that look the same step alike
move_alike : (x y : PlantInfo) → plant_look x ≡ plant_look y → MoveAlike x y
move_alike x y same = record {
  inputs = ap (λ (p : PlantTable). p.inputs) same;
  sees = ap (λ (p : PlantTable). p.sees) same;
  steps = λ box commands seen next h. next_alike x y same box commands seen next h;
}

locals_same : (x y : NodeInfo) → node_look x ≡ node_look y → local_ranges x ≡ local_ranges y
locals_same x y same = ap (λ (n : NodeTable). map (λ (l : LocalInfo). record { lo = l.lo; hi = l.hi }) n.locals) same

run_same : (x y : NodeInfo) → node_look x ≡ node_look y → (acts us : List Act) → bare_deeds us ≡ bare_deeds acts → (writes seen : List Side) (f : Intervals)
    → IsRun x acts writes seen f → IsRun y us writes seen f
run_same x y same acts us deeds writes seen f h =
    let locals = locals_same x y same in
    let viewed = along (execution_view acts (local_ranges x) writes seen (local_ranges x) (Ok f)) h in
    let placeless = (execution_same (deeds_view acts) (local_ranges x) writes seen (local_ranges x) f).0 viewed in
    let moved = subst (λ l. IsDeedsExecution (bare_deeds acts) l writes seen l (Ok f)) locals placeless in
    let other = subst (λ d. IsDeedsExecution d (local_ranges y) writes seen (local_ranges y) (Ok f)) (sym deeds) moved in
    let placed = (execution_same (deeds_view us) (local_ranges y) writes seen (local_ranges y) f).1 other in
    along (sym (execution_view us (local_ranges y) writes seen (local_ranges y) (Ok f))) placed

draft_alike : (x y : NodeInfo) → node_look x ≡ node_look y → DraftAlike x y
draft_alike x y same = record {
  period = ap (λ (n : NodeTable). n.period) same;
  reads = ap (λ (n : NodeTable). n.reads) same;
  writes = ap (λ (n : NodeTable). n.writes) same;
  bodies =
      λ acts coded. let c = coded_alike y x acts (sym same) coded in
      (c.0, c.1, λ writes seen f h. run_same x y same acts c.0 c.2 writes seen f h);
}

module _ (t u : Tables) (a b : ModuleInfo) (look : LookAlike t u) (one : HaveOnePlant a b) where
  pub run_alike : RunAlike t u a b
  run_alike = record {
    scalars = look.scalars;
    plant = one.0;
    sc = one.1;
    plants = λ x y ax ay. move_alike x y
        (mapped_back plant_look t.plants u.plants b.plant x y look.plants (subst (λ n. At t.plants n x) one.0 ax) ay);
    nodes = λ x y ax ay. draft_alike x y
        (mapped_back node_look t.nodes u.nodes b.sc x y look.nodes (subst (λ n. At t.nodes n x) one.1 ax) ay);
  }

  pub stays_alone : IsAlone t a → IsAlone u b
  stays_alone alone = record {
    sees_none = λ y ay. let back = of_seen plant_look plant_look u.plants t.plants (sym look.plants) b.plant y ay in
        let same = ap (λ (p : PlantTable). p.sees) back.2 in
        same ∙ alone.sees_none back.0 (subst (λ n. At t.plants n back.0) (sym one.0) back.1);
    reads_own = λ y k v ay has. let back = of_seen node_look node_look u.nodes t.nodes (sym look.nodes) b.sc y ay in
        let same = ap (λ (n : NodeTable). n.reads) back.2 in
        let mine : Has back.0.reads.items (State k v) = subst (λ (l : List Slot). Has l (State k v)) same has in
        alone.reads_own back.0 k v (subst (λ n. At t.nodes n back.0) (sym one.1) back.1) mine ∙ one.0;
  }
