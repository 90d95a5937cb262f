-- The input topics of a module's plant, by the plant and the node that were found and the lists that were read.
use Rattle.std.proofs.Common.{◌≡◌, ℕ, ◌<◌, List, length, sym, ◌∙◌, subst}
use Rattle.std.proofs.lemmas.Option.{same_Some}
use Rattle.sot_lang.specs.declared.tables.ScalarInfo.{ScalarInfo}
use Rattle.sot_lang.specs.declared.tables.PlantInfo.{PlantInfo}
use Rattle.sot_lang.specs.declared.tables.NodeInfo.{NodeInfo}
use Rattle.sot_lang.specs.declared.tables.ModuleInfo.{ModuleInfo}
use Rattle.sot_lang.specs.Tables.{Tables}
use Rattle.sot_lang.specs.TableRules.{MeetsTableRules}
use Rattle.sot_lists.specs.Places.{Has, At}
use Rattle.sot_tube.specs.Composition.{NoForeignInput}
use Rattle.sot_tube.specs.Checks.{IsLeastNumber}
use Rattle.sot_tube.specs.Verdict.{IsForeignInput}
use Rattle.sot_rta.specs.Topics.{IsMissing, GoesOver}
use Rattle.sot_rta.proofs.Found.{topic_there}

-- the inputs of a plant exist
pub inputs_there : (p : Tables) → MeetsTableRules p → (i : ℕ) (plant : PlantInfo) → At p.plants i plant → (scalars : List ScalarInfo) (inputs : List ℕ)
    → scalars ≡ p.scalars → inputs ≡ plant.inputs.items
    → (k : ℕ) → Has inputs k → k < length scalars
inputs_there p rules i plant at scalars inputs same are k h =
    subst (λ l. k < length l) (sym same) (rules.typed.inputs_are i plant k at (subst (λ l. Has l k) are h))

module _ (p : Tables) (a : ModuleInfo) (plant : PlantInfo) (sc : NodeInfo) (plant_at : At p.plants a.plant plant) (sc_at : At p.nodes a.sc sc) where
  not_foreign : (t : ℕ) → GoesOver p.scalars plant.inputs.items sc.writes.items t → IsForeignInput p a t → ⊥
  not_foreign t over f =
      let same_p : f.0 ≡ plant = same_Some f.0 plant (sym f.2 ∙ plant_at) in
      let same_s : f.1 ≡ sc = same_Some f.1 sc (sym f.3 ∙ sc_at) in
      let missing : IsMissing p.scalars plant.inputs.items sc.writes.items t =
      subst (λ (x : PlantInfo). IsMissing p.scalars x.inputs.items sc.writes.items t) same_p
      (subst (λ (x : NodeInfo). IsMissing p.scalars f.0.inputs.items x.writes.items t) same_s (f.4, f.5)) in
      missing.1 (over missing.0)

  pub least_foreign : (scalars : List ScalarInfo) (some others : List ℕ) → scalars ≡ p.scalars → some ≡ plant.inputs.items → others ≡ sc.writes.items
      → (t : ℕ) → IsMissing scalars some others t → ((u : ℕ) → u < t → GoesOver scalars some others u) → IsLeastNumber (IsForeignInput p a) t
  least_foreign scalars some others e f g t has before =
      let here : IsMissing p.scalars plant.inputs.items sc.writes.items t =
      subst (λ x. IsMissing x plant.inputs.items sc.writes.items t) e
      (subst (λ x. IsMissing scalars x sc.writes.items t) f (subst (λ x. IsMissing scalars some x t) g has)) in
      record {
        has = (plant, sc, plant_at, sc_at, here.0, here.1);
        least =
            λ u lt. not_foreign u (subst (λ x. GoesOver x plant.inputs.items sc.writes.items u) e
            (subst (λ x. GoesOver scalars x sc.writes.items u) f (subst (λ x. GoesOver scalars some x u) g (before u lt))));
      }

  pub none_foreign : MeetsTableRules p → (scalars : List ScalarInfo) (some others : List ℕ) → scalars ≡ p.scalars → some ≡ plant.inputs.items
      → others ≡ sc.writes.items
      → ((t : ℕ) → t < length p.topics → GoesOver scalars some others t) → NoForeignInput p a
  none_foreign rules scalars some others e f g each plant' sc' t plant_at' sc_at' =
      let same_p : plant ≡ plant' = same_Some plant plant' (sym plant_at ∙ plant_at') in
      let same_s : sc ≡ sc' = same_Some sc sc' (sym sc_at ∙ sc_at') in
      let over : GoesOver p.scalars plant.inputs.items sc.writes.items t =
      λ i. subst (λ x. GoesOver x plant.inputs.items sc.writes.items t) e
      (subst (λ x. GoesOver scalars x sc.writes.items t) f (subst (λ x. GoesOver scalars some x t) g (each t (topic_there p rules plant.inputs.items t i)))) i
      in
      subst (λ (x : PlantInfo). GoesOver p.scalars x.inputs.items sc'.writes.items t) same_p
      (subst (λ (x : NodeInfo). GoesOver p.scalars plant.inputs.items x.writes.items t) same_s over)
