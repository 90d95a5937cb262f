-- What the vehicle beside a battery has, and what may be asked of its worlds.
use Rattle.std.proofs.Common.{◌≡◌, ◌∙◌, ◌<◌, ℕ, arith, ℤ, List, [], ◌∷◌, length, ap, sym, subst}
use Rattle.std.specs.Prelude.{slice_index_or}
use Rattle.sot_lists.specs.Places.{At}
use Rattle.sot_lang.specs.declared.tables.NodeInfo.{NodeInfo}
use Rattle.sot_lang.specs.declared.tables.ModuleInfo.{ModuleInfo}
use Rattle.sot_lang.specs.declared.tables.PlantInfo.{PlantInfo}
use Rattle.sot_lang.specs.Tables.{Tables}
use Rattle.sot_lang.specs.OwnerNames.{width_of}
use Rattle.sot_lists.proofs.ShortLists.{at_more, at_two}
use Rattle.sot_world.specs.Opens.{AreStarts}
use Rattle.sot_worked_missions.specs.Line.{nav}
use Rattle.sot_worked_missions.specs.Pair.{IsPair, fly}
use Rattle.sot_test_runs.specs.Entries.{HasWidths}

module _ (low : ℤ) (p : Tables) (h : IsPair low p) where
  width_pos : width_of p.plants 0 ≡ 1
  width_pos = ap (λ l. width_of l 0) h.plants ∙ ap length h.is_pos.states

  width_cell : width_of p.plants 1 ≡ 2
  width_cell = ap (λ l. width_of l 1) h.plants ∙ ap length h.is_cell.states

  abbrev has_period : ℕ → NodeInfo → Type 0
  has_period n node = 0 < node.period

  pub pair_widths : HasWidths (1 ∷ 2 ∷ []) p
  pair_widths = record {
    modules = ap length h.modules;
    plants = λ m info at. at_two (λ m (a : ModuleInfo). width_of p.plants a.plant ≡ slice_index_or (1 ∷ 2 ∷ []) m 0) nav (fly low) width_pos width_cell m info
        (subst (λ (l : List ModuleInfo). At l m info) h.modules at);
    node_periods = λ n node at. at_more has_period h.fast (h.slow ∷ h.up ∷ h.down ∷ []) (omega (arith, h.is_fast.period))
        (at_more has_period h.slow (h.up ∷ h.down ∷ []) (omega (arith, h.is_slow.period))
        (at_two has_period h.up h.down (omega (arith, h.is_up.period)) (omega (arith, h.is_down.period)))) n node
        (subst (λ (l : List NodeInfo). At l n node) h.nodes at);
    module_periods =
        λ m info at. at_two (λ m (a : ModuleInfo). 0 < a.period) nav (fly low) (omega arith) (omega arith) m info
        (subst (λ (l : List ModuleInfo). At l m info) h.modules at);
  }

  starts : (s t : List ℤ) → length s ≡ 1 → length t ≡ 2 → AreStarts p (s ∷ t ∷ [])
  starts s t one two = record {
    each = sym (ap length h.plants);
    widths = λ k plant at. at_two (λ k (a : PlantInfo). length (slice_index_or (s ∷ t ∷ []) k []) ≡ length a.states.items) h.vehicle h.cell
        (one ∙ sym (ap length h.is_pos.states)) (two ∙ sym (ap length h.is_cell.states)) k plant (subst (λ (l : List PlantInfo). At l k plant) h.plants at);
  }

  pub pair_starts : (q : Tables) → q ≡ p → (s t : List ℤ) → length s ≡ 1 → length t ≡ 2 → AreStarts q (s ∷ t ∷ [])
  pair_starts q same s t one two = subst (λ x. AreStarts x (s ∷ t ∷ [])) (sym same) (starts s t one two)

  pub two_plants : (q : Tables) → q ≡ p → length q.plants ≡ 2
  two_plants q same = ap (λ x. length x.plants) same ∙ ap length h.plants
