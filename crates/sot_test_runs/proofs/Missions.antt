-- What the worked missions have: how many modules, and the widths of their plants.
use Rattle.std.proofs.Common.{◌≡◌, ◌<◌, ℤ, List, [], ◌∷◌, length, ap, ◌∙◌, sym, subst, arith}
use Rattle.std.specs.Prelude.{slice_index_or}
use Rattle.std.proofs.lemmas.Option.{none-some}
use Rattle.sot_lists.specs.Places.{At}
use Rattle.sot_lang.specs.declared.tables.NodeInfo.{NodeInfo}
use Rattle.sot_lang.specs.declared.tables.ModuleInfo.{ModuleInfo}
use Rattle.sot_lang.specs.declared.tables.PlantInfo.{PlantInfo}
use Rattle.sot_lang.specs.declared.term.Term.{Term}
use Rattle.sot_lang.specs.Tables.{Tables}
use Rattle.sot_lang.specs.OwnerNames.{width_of}
use Rattle.sot_lists.proofs.ShortLists.{at_one, at_two}
use Rattle.sot_worked_missions.specs.Line.{IsLine, nav}
use Rattle.sot_worked_missions.specs.Divide.{IsDivide}
use Rattle.sot_world.specs.Opens.{AreStarts}
use Rattle.sot_test_runs.specs.Entries.{HasWidths}

module _ (N : Term → Type 0) (p : Tables) (h : IsLine N p) where
  line_width : width_of p.plants 0 ≡ 1
  line_width = ap (λ l. width_of l 0) h.plants.2 ∙ ap length h.plants.1.states

  pub line_widths : HasWidths (1 ∷ []) p
  line_widths = record {
    modules = ap length h.modules;
    plants =
        λ m info at. at_one (λ m (a : ModuleInfo). width_of p.plants a.plant ≡ slice_index_or (1 ∷ []) m 0) nav line_width m info
        (subst (λ (l : List ModuleInfo). At l m info) h.modules at);
    node_periods =
        λ n node at. at_two (λ n (a : NodeInfo). 0 < a.period) h.nodes.0 h.nodes.1 (omega (arith, h.nodes.2.period)) (omega (arith, h.nodes.3.period)) n node
        (subst (λ (l : List NodeInfo). At l n node) h.nodes.4 at);
    module_periods =
        λ m info at. at_one (λ m (a : ModuleInfo). 0 < a.period) nav (omega arith) m info (subst (λ (l : List ModuleInfo). At l m info) h.modules at);
  }

  pub line_starts : (start : List (List ℤ)) (s : List ℤ) → start ≡ s ∷ [] → length s ≡ 1 → AreStarts p start
  line_starts start s e one = record {
    each = ap length e ∙ sym (ap length h.plants.2);
    widths = λ k plant at. at_one (λ k (one : PlantInfo). length (slice_index_or start k []) ≡ length one.states.items) h.plants.0
        (ap (λ l. length (slice_index_or l 0 [])) e ∙ one ∙ sym (ap length h.plants.1.states)) k plant
        (subst (λ (l : List PlantInfo). At l k plant) h.plants.2 at);
  }

  pub line_modules : 0 < length p.modules
  line_modules = (let e = ap length h.modules in omega (arith, e))

  pub line_plants : 0 < length p.plants
  line_plants = (let e = ap length h.plants.2 in omega (arith, e))

  pub line_nodes : 1 < length p.nodes
  line_nodes = (let e = ap length h.nodes.4 in omega (arith, e))

  pub line_scalars : 0 < length p.scalars
  line_scalars = (let e = ap length h.scalars in omega (arith, e))

pub divide_widths : (D : Term → Type 0) (p : Tables) → IsDivide D p → HasWidths [] p
divide_widths D p h = record {
  modules = ap length h.modules;
  plants = λ m info at. absurd (none-some info (subst (λ (l : List ModuleInfo). At l m info) h.modules at));
  node_periods =
      λ n node at. at_one (λ n (a : NodeInfo). 0 < a.period) h.nodes.0 (omega (arith, h.nodes.1.period)) n node
      (subst (λ (l : List NodeInfo). At l n node) h.nodes.2 at);
  module_periods = λ m info at. absurd (none-some info (subst (λ (l : List ModuleInfo). At l m info) h.modules at));
}
