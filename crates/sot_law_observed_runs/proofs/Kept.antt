-- The commands of a plant stay as they are over each step but a firing of its module's safe node.
use Rattle.std.proofs.Common.{◌≡◌, ℕ, ℤ, pos, List, Option, refl, sym, ap, ◌∙◌, arith}
use Rattle.std.specs.Prelude.{slice_index_or}
use Rattle.sot_lists.specs.Places.{At}
use Rattle.sot_lists.proofs.Places.{map_same}
use Rattle.sot_lang.specs.declared.tables.PlantInfo.{PlantInfo}
use Rattle.sot_lang.specs.declared.tables.NodeInfo.{NodeInfo}
use Rattle.sot_lang.specs.declared.tables.ModuleInfo.{ModuleInfo}
use Rattle.sot_lang.specs.Tables.{Tables}
use Rattle.sot_lang.specs.TableRules.{IsTyped}
use Rattle.sot_tube.specs.WellFormed.{IsWellFormed}
use Rattle.sot_tube.proofs.ByScalars.{composed_by_scalars}
use Rattle.sot_world.specs.declared.mode.Mode.TheVariants.{Sc}
use Rattle.sot_world.specs.Configurations.{Configuration, mode_of, number_of, commands}
use Rattle.sot_world.specs.Steps.{is_enabled, Fires, Inputs}
use Rattle.sot_world.proofs.Firings.{other_inputs}
use Rattle.sot_world.proofs.Writes.{write_other}

module _ (p : Tables) (j : ℕ) (typed : IsTyped p) (well : IsWellFormed p j) (m : ℕ) (a : ModuleInfo) (plant : PlantInfo) (sc : NodeInfo)
    (at_m : At p.modules m a)
    (at_p : At p.plants a.plant plant) (at_s : At p.nodes a.sc sc) (C D : Configuration) where
  pub firing_leaves : (n : ℕ) (node : NodeInfo) (locals : List ℤ) (draft : List (Option ℤ)) → At p.nodes n node → mode_of C m ≡ Sc → (a.sc ≡ n → ⊥)
      → Fires p n node locals draft C D → commands plant C ≡ commands plant D
  firing_leaves n node locals draft at_n mode ne f = map_same (number_of C) (number_of D) plant.inputs.items
      (λ k has. sym (ap (λ xs. slice_index_or xs k (pos 0)) f.scalars
      ∙ other_inputs p j typed well C n node draft m a plant sc at_n at_m at_p at_s mode ne (is_enabled p C n) refl k has))

  pub input_leaves : (topic : ℕ) (value : List ℤ) → Inputs p topic value C D → commands plant C ≡ commands plant D
  input_leaves topic value s = map_same (number_of C) (number_of D) plant.inputs.items (λ k has.
      sym (ap (λ xs. slice_index_or xs k (pos 0)) s.scalars
      ∙ write_other s.info.first value C.scalars k (λ i lt e.
      typed.outside a.sc sc topic i s.info at_s s.is s.outside (omega (arith, s.size, lt))
      (rw (← e) ((composed_by_scalars p typed well.composed).own_inputs m a plant sc has.0 k at_m at_p at_s has.1)))))
