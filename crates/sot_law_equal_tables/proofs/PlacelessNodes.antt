-- The executions of nodes that are alike leave the same.
use Rattle.std.proofs.Common.{◌≡◌, List, map, Some, Ok, refl, sym, ap, ◌∙◌}
use Rattle.std.specs.Prelude.{option_map}
use Rattle.sot_box.specs.Sides.{Side}
use Rattle.sot_lang.specs.declared.act.Act.{Act}
use Rattle.sot_lang.specs.declared.tables.LocalInfo.{LocalInfo}
use Rattle.sot_lang.specs.declared.tables.ScalarInfo.{ScalarInfo}
use Rattle.sot_lang.specs.declared.tables.NodeInfo.{NodeInfo}
use Rattle.sot_lang.specs.declared.tables.Slot.{Slot}
use Rattle.sot_lang.specs.declared.tables.Slot.TheVariants.{Scalar, State}
use Rattle.sot_lang.specs.Tables.{Tables}
use Rattle.sot_lang.specs.Ranges.{range_of, local_ranges, write_ranges}
use Rattle.sot_lang.specs.TableRules.{IsCoded}
use Rattle.sot_iv.specs.BodyIntervals.{Intervals}
use Rattle.sot_iv.specs.NodeIntervals.{interval_at, reading_intervals, IsNodeExecution}
use Rattle.sot_typing.specs.Formulas.{deeds_view}
use Rattle.sot_typing.specs.Resolved.{NodeTable}
use Rattle.sot_law_equal_tables.proofs.Bodies.{IsDeedsExecution, execution_view}
use Rattle.sot_law_equal_tables.proofs.Plants.{along}
use Rattle.sot_law_equal_tables.proofs.Nodes.{mapped_from}
use Rattle.sot_law_equal_tables.proofs.PlacelessBodies.{execution_same}
use Rattle.sot_law_equal_tables.specs.UnplacedTables.{unplaced_deeds, AreAlike}
use Rattle.sot_law_equal_tables.proofs.PlacelessSeen.{bare_node, bare_deeds, scalars_same}

-- where the one is coded, so is the other, with a body that differs in places alone
pub coded_alike : (x y : NodeInfo) (acts : List Act) → bare_node x ≡ bare_node y → IsCoded y acts
    → (us : List Act) × IsCoded x us × (bare_deeds us ≡ bare_deeds acts)
coded_alike x y acts alike coded =
    let bodies : option_map unplaced_deeds (option_map (λ v. deeds_view v.items) x.body)
    ≡ option_map unplaced_deeds (option_map (λ v. deeds_view v.items) y.body) =
    ap (λ (n : NodeTable). n.body) alike
    in
    let there : option_map unplaced_deeds (option_map (λ v. deeds_view v.items) y.body) ≡ Some (bare_deeds coded.0.items) =
    ap (λ b. option_map unplaced_deeds (option_map (λ v. deeds_view v.items) b)) coded.1
    in
    let seen = mapped_from unplaced_deeds (option_map (λ v. deeds_view v.items) x.body) (bare_deeds coded.0.items) (bodies ∙ there) in
    let here = mapped_from (λ v. deeds_view v.items) x.body seen.0 seen.1 in
    (here.0.items, (here.0, here.1, refl {A = List Act}), ap unplaced_deeds here.2 ∙ seen.2 ∙ ap bare_deeds coded.2)

module _ (t u : Tables) (same : AreAlike t u) (x y : NodeInfo) (alike : bare_node x ≡ bare_node y) where
  locals_alike : local_ranges x ≡ local_ranges y
  locals_alike = ap (λ (n : NodeTable). map (λ (l : LocalInfo). record { lo = l.lo; hi = l.hi }) n.locals) alike

  writes_alike : write_ranges t x ≡ write_ranges u y
  writes_alike = λ i. map (range_of (scalars_same t u same i)) (alike i).writes

  interval_alike : (boxes : List (List Side)) (s : Slot) → interval_at t boxes s ≡ interval_at u boxes s
  interval_alike boxes (Scalar k) = ap (λ (infos : List ScalarInfo). range_of infos k) (scalars_same t u same)
  interval_alike boxes (State k v) = refl

  readings_alike : (boxes : List (List Side)) → reading_intervals t x boxes ≡ reading_intervals u y boxes
  readings_alike boxes = λ i. map (λ s. interval_alike boxes s i) (alike i).reads

  -- bodies that differ in places alone leave the same
  pub execution_alike : (us acts : List Act) (boxes : List (List Side)) (f : Intervals) → bare_deeds us ≡ bare_deeds acts → IsNodeExecution t x us boxes (Ok f)
      → IsNodeExecution u y acts boxes (Ok f)
  execution_alike us acts boxes f deeds runs =
      let here = (execution_same (deeds_view us) (local_ranges x) (write_ranges t x) (reading_intervals t x boxes) (local_ranges x) f).0
      (along (execution_view us (local_ranges x) (write_ranges t x) (reading_intervals t x boxes) (local_ranges x) (Ok f)) runs)
      in
      let leaves : IsDeedsExecution (bare_deeds us) (local_ranges x) (write_ranges t x) (reading_intervals t x boxes) (local_ranges x) (Ok f)
      ≡ IsDeedsExecution (bare_deeds acts) (local_ranges y) (write_ranges u y) (reading_intervals u y boxes) (local_ranges y) (Ok f) =
      λ i. IsDeedsExecution (deeds i) (locals_alike i) (writes_alike i) (readings_alike boxes i) (locals_alike i) (Ok f)
      in
      along (sym (execution_view acts (local_ranges y) (write_ranges u y) (reading_intervals u y boxes) (local_ranges y) (Ok f)))
      ((execution_same (deeds_view acts) (local_ranges y) (write_ranges u y) (reading_intervals u y boxes) (local_ranges y) f).1 (along leaves here))
