-- The summary of a history is that of tables that look the same.
use Rattle.std.proofs.Common.{◌≡◌, ℤ, List, [], ◌∷◌, length, map, take, drop, refl, sym, ap, ◌∙◌}
use Rattle.std.specs.Prelude.{if◌then◌else◌, not, slice_index_or, sum_by}
use Rattle.std.specs.List.{list_any}
use Rattle.std.proofs.lemmas.List.{length-map}
use Rattle.sot_lang.specs.declared.tables.PlantInfo.{PlantInfo}
use Rattle.sot_lang.specs.declared.tables.ModuleInfo.{ModuleInfo}
use Rattle.sot_lang.specs.Tables.{Tables}
use Rattle.sot_typing.specs.Resolved.{PlantTable, plant_seen, node_seen, tables_seen}
use Rattle.sot_law_equal_tables.proofs.Seen.{modules_same, plants_seen_same, nodes_seen_same}
use Rattle.sot_law_trace_unique.proofs.Looks.{refused_same}
use Rattle.sot_world.specs.HistoryEntry.{Logged, InputAt, FireAt, DecideAt, TickAt}
use Rattle.sot_flight.specs.Plans.{Plan}
use Rattle.sot_trace.specs.Lines.{ticks_in}
use Rattle.sot_summary.specs.Outside.{points_in, is_in_region}
use Rattle.sot_summary.specs.Counted.{firings_in, outside_in, states_sum}
use Rattle.sot_summary.specs.Summaries.{summary_of}

one_seen : (k l : PlantInfo) (ks ls : List PlantInfo) → map plant_seen (k ∷ ks) ≡ map plant_seen (l ∷ ls)
    → (plant_seen k ≡ plant_seen l) × (map plant_seen ks ≡ map plant_seen ls)
one_seen k l ks ls same = (cc, cc)

pub points_same : (ks ls : List PlantInfo) → map plant_seen ks ≡ map plant_seen ls → (states : List ℤ) → points_in ks states ≡ points_in ls states
points_same [] [] same states = refl
points_same [] (l ∷ ls) same states = absurd cc
points_same (k ∷ ks) [] same states = absurd cc
points_same (k ∷ ks) (l ∷ ls) same states =
    let (one, more) = one_seen k l ks ls same in
    let width : length k.states.items ≡ length l.states.items = ap (λ (x : PlantTable). length x.states) one in
    (λ i. take (width i) states ∷ points_same ks ls more (drop (width i) states) i)

module _ (t u : Tables) (same : tables_seen t ≡ tables_seen u) where
  outside_same : (e : Logged) → outside_in t e ≡ outside_in u e
  outside_same (InputAt time topic value) = refl
  outside_same (FireAt time n draft enabled) = refl
  outside_same (DecideAt time m mode) = refl
  outside_same (TickAt time noise states) =
      let points = points_same t.plants u.plants (plants_seen_same t u same) states in
      (λ i. if list_any (λ (m : ModuleInfo). not (is_in_region m.safe.boxes (slice_index_or (points i) m.plant []))) (modules_same t u same i) then 1 else 0)

  pub summary_same : (f : Plan) (entries : List Logged) → summary_of t f entries ≡ summary_of u f entries
  summary_same f entries =
      let nodes : length t.nodes ≡ length u.nodes =
      sym (length-map t.nodes node_seen) ∙ ap length (nodes_seen_same t u same) ∙ length-map u.nodes node_seen in
      (λ i. record {
        modules = length (modules_same t u same i);
        nodes = nodes i;
        horizon = f.horizon;
        firings = sum_by firings_in entries;
        ticks = sum_by ticks_in entries;
        refused = sum_by (λ e. refused_same t u same e i) entries;
        outside = sum_by (λ e. outside_same e i) entries;
        sum = states_sum entries;
      })
