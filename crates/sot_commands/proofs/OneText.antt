-- The texts of tables that look the same.
use Rattle.std.proofs.Common.{◌≡◌, ℕ, ℤ, List, [], ◌∷◌, ◌++◌, Option, length, codes, refl, sym, ap, ap₂, ◌∙◌}
use Rattle.std.specs.Prelude.{slice_get}
use Rattle.std.specs.Option.{option_map_or}
use Rattle.std.proofs.lemmas.List.{length-map}
use Rattle.serde_json.specs.Data.{unsigned, number, object, no_members, member}
use Rattle.serde_json.specs.Written.{compact_text}
use Rattle.sot_lang.specs.declared.cert.Cells.{Cells}
use Rattle.sot_lang.specs.declared.cert.Cert.{Cert}
use Rattle.sot_lang.specs.declared.tables.TopicInfo.{TopicInfo}
use Rattle.sot_lang.specs.declared.tables.ModuleInfo.{ModuleInfo}
use Rattle.sot_lang.specs.Tables.{Tables}
use Rattle.sot_typing.specs.Resolved.{ProgramTables, PlantTable, NodeTable, plant_seen, node_seen, tables_seen}
use Rattle.sot_law_equal_tables.proofs.Seen.{modules_same, plants_seen_same, nodes_seen_same}
use Rattle.sot_law_trace_unique.proofs.Looks.{looked}
use Rattle.sot_tube.specs.Refusals.{Refusal, Periods, Outputs, EmptyRegion, ClosedGap, ClosedTrap, ClosedLeaves, ReachGap, ReachLeaves, ReachTrap, SharedNode}
use Rattle.sot_tube.specs.Refusals.{SharedOutput, SharedPlant, ForeignInput, CodeMayTrap, NoCells}
use Rattle.sot_rta.specs.Refused.{refusal_view}
use Rattle.sot_certify.specs.declared.fail.CertifyFail.{CertifyFail}
use Rattle.sot_certify.specs.declared.fail.CertifyFail.TheVariants.{Refused, Point, TooMany, Memory}
use Rattle.sot_certified_text.specs.CertText.{entries_data, certificate_line}
use Rattle.sot_certified_text.specs.FailTexts.{list_word, fail_text}
use Rattle.sot_lang.specs.Names.{module_name, node_name, topic_name, plant_name}
use Rattle.sot_report.specs.Pieces.{line, point_text, place_text, ends_text, trap_word}
use Rattle.sot_report.specs.RefusalTexts.{condition_of, in_module, module_text, cell_text, at_point, by_modules, evidence_text, refusal_text, start_text}
use Rattle.sot_report.specs.AcceptedTexts.{cell_count, counts_text, accepted_text}

module _ (t u : Tables) (same : tables_seen t ≡ tables_seen u) where
  module_same : (m : ℕ) → module_name t m ≡ module_name u m
  module_same m = ap (λ (ms : List ModuleInfo). option_map_or (λ (x : ModuleInfo). x.name) (slice_get ms m) []) (modules_same t u same)

  topic_same : (k : ℕ) → topic_name t k ≡ topic_name u k
  topic_same k = ap (λ (s : ProgramTables). option_map_or (λ (x : TopicInfo). x.name) (slice_get s.topics k) []) same

  node_same : (n : ℕ) → node_name t n ≡ node_name u n
  node_same n =
      looked node_seen (λ (x : NodeTable). x.name) [] t.nodes n
      ∙ ap (λ (ns : List NodeTable). option_map_or (λ (x : NodeTable). x.name) (slice_get ns n) []) (nodes_seen_same t u same)
      ∙ sym (looked node_seen (λ (x : NodeTable). x.name) [] u.nodes n)

  plant_same : (k : ℕ) → plant_name t k ≡ plant_name u k
  plant_same k =
      looked plant_seen (λ (x : PlantTable). x.name) [] t.plants k
      ∙ ap (λ (ks : List PlantTable). option_map_or (λ (x : PlantTable). x.name) (slice_get ks k) []) (plants_seen_same t u same)
      ∙ sym (looked plant_seen (λ (x : PlantTable). x.name) [] u.plants k)

  in_module_same : (m : ℕ) → in_module t m ≡ in_module u m
  in_module_same m = λ i. codes " module " ++ module_same m i

  by_modules_same : (a b : ℕ) → by_modules t a b ≡ by_modules u a b
  by_modules_same a b = λ i. codes " modules " ++ module_same a i ++ codes " " ++ module_same b i

  module_text_same : (r : Refusal) → module_text t r ≡ module_text u r
  module_text_same (Periods m n) = in_module_same m
  module_text_same (Outputs m k) = in_module_same m
  module_text_same (EmptyRegion m safer) = in_module_same m
  module_text_same (ClosedGap m point) = in_module_same m
  module_text_same (ClosedTrap m cell tick at) = in_module_same m
  module_text_same (ClosedLeaves m cell tick area point) = in_module_same m
  module_text_same (ReachGap m point) = in_module_same m
  module_text_same (ReachLeaves m cell tick area point) = in_module_same m
  module_text_same (ReachTrap m cell tick at) = in_module_same m
  module_text_same (SharedNode n a b) = refl
  module_text_same (SharedOutput k a b) = refl
  module_text_same (SharedPlant k a b) = refl
  module_text_same (ForeignInput m k) = in_module_same m
  module_text_same (CodeMayTrap n at kind lo hi) = refl
  module_text_same (NoCells m) = in_module_same m

  evidence_same : (r : Refusal) → evidence_text t r ≡ evidence_text u r
  evidence_same (Periods m n) = λ i. codes " node " ++ node_same n i
  evidence_same (Outputs m k) = λ i. codes " topic " ++ topic_same k i
  evidence_same (EmptyRegion m safer) = refl
  evidence_same (ClosedGap m point) = refl
  evidence_same (ClosedTrap m cell tick at) = refl
  evidence_same (ClosedLeaves m cell tick area point) = refl
  evidence_same (ReachGap m point) = refl
  evidence_same (ReachLeaves m cell tick area point) = refl
  evidence_same (ReachTrap m cell tick at) = refl
  evidence_same (SharedNode n a b) = λ i. codes " node " ++ node_same n i ++ by_modules_same a b i
  evidence_same (SharedOutput k a b) = λ i. codes " topic " ++ topic_same k i ++ codes " nodes " ++ node_same a i ++ codes " " ++ node_same b i
  evidence_same (SharedPlant k a b) = λ i. codes " plant " ++ plant_same k i ++ by_modules_same a b i
  evidence_same (ForeignInput m k) = λ i. codes " topic " ++ topic_same k i
  evidence_same (CodeMayTrap n at kind lo hi) =
      λ i. codes " node " ++ node_same n i ++ codes " " ++ place_text at ++ codes " " ++ trap_word kind ++ ends_text lo hi
  evidence_same (NoCells m) = refl

  pub refusal_text_same : (r : Refusal) → refusal_text t r ≡ refusal_text u r
  refusal_text_same r = λ i. line (codes "refused " ++ condition_of r ++ module_text_same r i ++ cell_text r ++ evidence_same r i)

  pub start_text_same : (m : ℕ) (point : List ℤ) → start_text t m point ≡ start_text u m point
  start_text_same m point = λ i. line (codes "refused " ++ codes "start" ++ in_module_same m i ++ at_point point)

  pub fail_text_same : (f : CertifyFail) → fail_text t f ≡ fail_text u f
  fail_text_same (Refused r) = refusal_text_same (refusal_view r)
  fail_text_same (Point m reach s) =
      λ i. line ((codes "refused certify module " ++ module_same m i ++ codes " " ++ list_word reach) ++ codes " point " ++ point_text s)
  fail_text_same (TooMany m reach) = λ i. line ((codes "refused certify module " ++ module_same m i ++ codes " " ++ list_word reach) ++ codes " TooMany")
  fail_text_same Memory = refl

  pub certificate_line_same : (c d : Cert) → c.modules.items ≡ d.modules.items → certificate_line t c ≡ certificate_line u d
  certificate_line_same c d entries =
      ap₂
      (λ (ms : List ModuleInfo) (es : List (Option Cells)). compact_text
      (object (member (codes "format") (number (unsigned 1)) (member (codes "modules") (object (entries_data ms es)) no_members))) ++ 10 ∷ [])
      (modules_same t u same)
      entries

  pub accepted_text_same : (c d : Cert) → c.modules.items ≡ d.modules.items → accepted_text t c ≡ accepted_text u d
  accepted_text_same c d entries =
      let nodes : length t.nodes ≡ length u.nodes = sym (length-map t.nodes node_seen) ∙ ap length (nodes_seen_same t u same) ∙ length-map u.nodes node_seen in
      λ i. counts_text (length (modules_same t u same i)) (nodes i) (cell_count (entries i))
