-- What the double integrator has, and from where its tubes may be followed.
use Rattle.std.proofs.Common.{◌≡◌, ◌∙◌, ◌<◌, ℤ, [], ◌∷◌, List, length, ap, sym, subst, arith}
use Rattle.std.specs.Prelude.{slice_index_or}
use Rattle.sot_lists.specs.Places.{At}
use Rattle.sot_lang.specs.declared.tables.NodeInfo.{NodeInfo}
use Rattle.sot_lang.specs.declared.tables.ModuleInfo.{ModuleInfo}
use Rattle.sot_lang.specs.declared.tables.PlantInfo.{PlantInfo}
use Rattle.sot_lang.specs.Tables.{Tables}
use Rattle.sot_lang.specs.OwnerNames.{width_of}
use Rattle.sot_lists.proofs.ShortLists.{at_one, at_two}
use Rattle.sot_world.specs.Opens.{AreStarts}
use Rattle.sot_worked_missions.specs.Double.{IsDouble, stops}
use Rattle.sot_test_runs.specs.Entries.{HasWidths}

module _ (low high : ℤ) (p : Tables) (h : IsDouble low high p) where
  width_arm : width_of p.plants 0 ≡ 2
  width_arm = ap (λ l. width_of l 0) h.plants ∙ ap length h.is_arm.states

  pub double_widths : HasWidths (2 ∷ []) p
  double_widths = record {
    modules = ap length h.modules;
    plants =
        λ m info at. at_one (λ m (a : ModuleInfo). width_of p.plants a.plant ≡ slice_index_or (2 ∷ []) m 0) (stops low high) width_arm m info
        (subst (λ (l : List ModuleInfo). At l m info) h.modules at);
    node_periods =
        λ n node at. at_two (λ n (a : NodeInfo). 0 < a.period) h.fast h.slow (omega (arith, h.is_fast.period)) (omega (arith, h.is_slow.period)) n node
        (subst (λ (l : List NodeInfo). At l n node) h.nodes at);
    module_periods =
        λ m info at. at_one (λ m (a : ModuleInfo). 0 < a.period) (stops low high) (omega arith) m info
        (subst (λ (l : List ModuleInfo). At l m info) h.modules at);
  }

  starts : (s : List ℤ) → length s ≡ 2 → AreStarts p (s ∷ [])
  starts s two = record {
    each = sym (ap length h.plants);
    widths =
        λ k plant at. at_one (λ k (a : PlantInfo). length (slice_index_or (s ∷ []) k []) ≡ length a.states.items) h.arm (two ∙ sym (ap length h.is_arm.states))
        k plant
        (subst (λ (l : List PlantInfo). At l k plant) h.plants at);
  }

  pub double_starts : (q : Tables) → q ≡ p → (s : List ℤ) → length s ≡ 2 → AreStarts q (s ∷ [])
  double_starts q same s two = subst (λ x. AreStarts x (s ∷ [])) (sym same) (starts s two)
