-- What a question brings for a step of its plant and a run of its safe node.
use Rattle.std.proofs.Common.{◌≡◌, ◌≢◌, ℕ, ℤ, ◌≤◌, ◌<◌, List, [], length, sym, ap, ◌∙◌, subst, arith}
use Rattle.std.proofs.lemmas.Option.{same_Some, slice_get_within}
use Rattle.sot_lists.specs.Places.{At, Has}
use Rattle.sot_box.specs.Sides.{Side}
use Rattle.sot_lang.specs.declared.act.Act.{Act}
use Rattle.sot_lang.specs.declared.tables.PlantInfo.{PlantInfo}
use Rattle.sot_lang.specs.declared.tables.NodeInfo.{NodeInfo}
use Rattle.sot_lang.specs.TableRules.{MeetsTableRules, IsCoded}
use Rattle.sot_lang.specs.declared.tables.ModuleInfo.{ModuleInfo}
use Rattle.sot_lang.specs.Tables.{Tables}
use Rattle.sot_lang.specs.OwnerNames.{width_of, seen_width}
use Rattle.sot_lang.specs.SafeRegions.{safe_of}
use Rattle.sot_lang.proofs.Owners.{width_at, seen_few}
use Rattle.sot_iv.specs.SeenHulls.{AreSeenHulls}
use Rattle.sot_traps.specs.Verdict.{HaveSafeBoxes}
use Rattle.sot_traps.proofs.SafeHulls.{safe_some}
use Rattle.sot_iv.specs.PlantTicks.{MayTickBox}
use Rattle.sot_law_invariant_regions.specs.Following.{HeldStays}
use Rattle.sot_invariant_atoms.specs.Asking.{MayAsk, Asked, IsAsked, asked_width}

-- the hulls of the plants that a plant sees
module _ (p : Tables) (rules : MeetsTableRules p) (k : ℕ) (plant : PlantInfo) (at : At p.plants k plant) (sees : List ℕ) (are : sees ≡ plant.sees.items) where
  pub seen_fit : seen_width p.plants sees ≤ 64
  seen_fit =
      let few = seen_few p rules sees in
      let count = (rules.plants k plant at).sees in
      let same = ap length are in
      omega (arith, few, count, same)

  pub seen_safe : HaveSafeBoxes p → (n : ℕ) → Has sees n → safe_of p.modules n ≢ []
  seen_safe boxes n has =
      let other = rules.typed.sees_are k plant n at (subst (λ l. Has l n) are has) in
      safe_some p rules boxes n other.0 other.1

-- the question that is made of a module
pub is_asked : (p : Tables) (m : ℕ) (a : ModuleInfo) (jitter : ℕ) (plant : PlantInfo) (sees : List ℕ) (seen : List Side) → MayAsk p m jitter → At p.modules m a
    → At p.plants a.plant plant → sees ≡ plant.sees.items → AreSeenHulls p.modules sees seen → length seen ≡ seen_width p.plants sees
    → IsAsked (record { program = p; info = a; jitter = jitter; seen = seen })
is_asked p m a jitter plant sees seen may at plant_at are hulls width = record {
  m = m;
  is = at;
  boxes = may.boxes;
  below = may.below;
  hulls = λ x at_x. subst (λ (y : PlantInfo). AreSeenHulls p.modules y.sees.items seen) (same_Some plant x (sym plant_at ∙ at_x))
      (subst (λ l. AreSeenHulls p.modules l seen) are hulls);
  width = λ x at_x. subst (λ (y : PlantInfo). length seen ≡ seen_width p.plants y.sees.items) (same_Some plant x (sym plant_at ∙ at_x))
      (subst (λ l. length seen ≡ seen_width p.plants l) are width);
}

-- a question's program and module, as they were handed out
module _ (q : Asked) (rules : MeetsTableRules q.program) (asked : IsAsked q) (p : Tables) (p_is : p ≡ q.program) (a : ModuleInfo) (a_is : a ≡ q.info) where
  pub rules_of : MeetsTableRules p
  rules_of = subst MeetsTableRules (sym p_is) rules

  pub is_of : At p.modules asked.m a
  is_of =
      subst (λ (t : Tables). At t.modules asked.m a) (sym p_is) (subst (λ (x : ModuleInfo). At q.program.modules asked.m x) (sym a_is) asked.is)

  pub plant_of : a.plant < length p.plants
  plant_of = (let h = rules_of.typed.plant_is asked.m a is_of in slice_get_within p.plants a.plant h.0 h.1)

  pub coded_of : (sc : NodeInfo) → At p.nodes a.sc sc → (acts : List Act) × IsCoded sc acts
  coded_of sc at =
      let h = rules_of.typed.sc_is asked.m a is_of in
      (h.1, subst (λ (x : NodeInfo). IsCoded x h.1) (same_Some h.0 sc (sym h.2 ∙ at)) h.3)

  pub held_of : (P : List ℤ → Type 0) (j : ℕ) → j ≡ q.jitter → (box : List Side) → HeldStays P q.program q.jitter q.info box → HeldStays P p j a box
  held_of P j j_is box h =
      subst (λ (t : Tables). HeldStays P t j a box) (sym p_is)
      (subst (λ (x : ModuleInfo). HeldStays P q.program j x box) (sym a_is) (subst (λ n. HeldStays P q.program n q.info box) (sym j_is) h))

  pub region_of : (n : ℕ) → n ≡ asked_width q → a.safe.width ≡ n
  region_of n e =
      (rules_of.modules asked.m a is_of).safe.width ∙ ap (λ (t : Tables). width_of t.plants a.plant) p_is
      ∙ ap (λ (x : ModuleInfo). width_of q.program.plants x.plant) a_is ∙ sym e

  module _ (plant : PlantInfo) (at : At p.plants a.plant plant) (seen : List Side) (seen_is : seen ≡ q.seen) where
    there : At q.program.plants q.info.plant plant
    there = subst (λ (t : Tables). At t.plants q.info.plant plant) p_is (subst (λ (x : ModuleInfo). At p.plants x.plant plant) a_is at)

    pub hulls_of : AreSeenHulls p.modules plant.sees.items seen
    hulls_of =
        subst (λ (t : Tables). AreSeenHulls t.modules plant.sees.items seen) (sym p_is)
        (subst (AreSeenHulls q.program.modules plant.sees.items) (sym seen_is) (asked.hulls plant there))

    pub tick_of : (box held : List Side) → length box ≡ asked_width q → length held ≡ length plant.inputs.items → MayTickBox p a.plant box held seen
    tick_of box held width inputs = record {
      plant = plant;
      is = at;
      states = width ∙ width_at q.program.plants q.info.plant plant there;
      inputs = inputs;
      seen_are =
          ap length seen_is ∙ asked.width plant there ∙ ap (λ (t : Tables). seen_width t.plants plant.sees.items) (sym p_is);
    }
