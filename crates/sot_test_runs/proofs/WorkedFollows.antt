-- What tubes of the vehicle ask for: its safe region has a box, and it has one state variable and one input.
use Rattle.std.proofs.Common.{◌≡◌, List, [], length, refl, sym, ap, ◌∙◌, subst, arith}
use Rattle.std.proofs.lemmas.Option.{same_Some}
use Rattle.sot_box.specs.Sides.{Side}
use Rattle.sot_lists.specs.Places.{At}
use Rattle.sot_lang.specs.declared.term.Term.{Term}
use Rattle.sot_lang.specs.declared.tables.ModuleInfo.{ModuleInfo}
use Rattle.sot_lang.specs.declared.tables.PlantInfo.{PlantInfo}
use Rattle.sot_lang.specs.Tables.{Tables}
use Rattle.sot_lang.specs.OwnerNames.{width_of, seen_width}
use Rattle.sot_iv.specs.PlantTicks.{MayTickBox}
use Rattle.sot_tube.specs.Calls.{MayFollow}
use Rattle.sot_worked_missions.specs.Line.{IsLine, nav}
use Rattle.sot_test_runs.proofs.WorkedVerdicts.{line_boxes}

module _ (N : Term → Type 0) (p : Tables) (h : IsLine N p) where
  module_is : (a : ModuleInfo) → At p.modules 0 a → nav ≡ a
  module_is a at = same_Some nav a (subst (λ (l : List ModuleInfo). At l 0 a) h.modules at)

  plant_is : (a : ModuleInfo) (plant : PlantInfo) → At p.modules 0 a → At p.plants a.plant plant → h.plants.0 ≡ plant
  plant_is a plant at_a at =
      let first : At p.plants 0 plant = subst (λ (x : ModuleInfo). At p.plants x.plant plant) (sym (module_is a at_a)) at in
      same_Some h.plants.0 plant (subst (λ (l : List PlantInfo). At l 0 plant) h.plants.2 first)

  width : width_of p.plants 0 ≡ 1
  width = ap (λ l. width_of l 0) h.plants.2 ∙ ap length h.plants.1.states

  pub line_may_follow : (box : List Side) → length box ≡ 1 → MayFollow p 0 box
  line_may_follow box one = record {
    boxes = line_boxes N p h;
    exists' = (let e = ap length h.modules in omega (arith, e));
    width = λ a at. one ∙ sym width ∙ ap (λ (x : ModuleInfo). width_of p.plants x.plant) (module_is a at);
  }

  pub one_input : (a : ModuleInfo) (plant : PlantInfo) → At p.modules 0 a → At p.plants a.plant plant → 1 ≡ length plant.inputs.items
  one_input a plant at_a at = sym (ap length h.plants.1.inputs) ∙ ap (λ (x : PlantInfo). length x.inputs.items) (plant_is a plant at_a at)

  pub line_may_tick : (box held : List Side) → length box ≡ 1 → length held ≡ 1 → MayTickBox p 0 box held []
  line_may_tick box held one command = record {
    plant = h.plants.0;
    is = subst (λ (l : List PlantInfo). At l 0 h.plants.0) (sym h.plants.2) refl;
    states = one ∙ sym (ap length h.plants.1.states);
    inputs = command ∙ sym (ap length h.plants.1.inputs);
    seen_are = sym (ap (seen_width p.plants) h.plants.1.sees);
  }
