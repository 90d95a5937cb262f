-- The executions of nodes that look the same leave the same.
use Rattle.std.proofs.Common.{◌≡◌, List, map, Option, Some, None, refl, sym, ap, ◌∙◌}
use Rattle.std.specs.Prelude.{option_map}
use Rattle.std.proofs.lemmas.Option.{same_Some, none-some}
use Rattle.sot_box.specs.Sides.{Side}
use Rattle.sot_lang.specs.declared.act.Act.{Act}
use Rattle.sot_lang.specs.declared.tables.LocalInfo.{LocalInfo}
use Rattle.sot_lang.specs.declared.tables.ScalarInfo.{ScalarInfo}
use Rattle.sot_lang.specs.declared.tables.NodeInfo.{NodeInfo}
use Rattle.sot_lang.specs.declared.tables.Slot.{Slot}
use Rattle.sot_lang.specs.declared.tables.Slot.TheVariants.{Scalar, State}
use Rattle.sot_lang.specs.Tables.{Tables}
use Rattle.sot_lang.specs.Ranges.{range_of, local_ranges, write_ranges}
use Rattle.sot_lang.specs.TableRules.{IsCoded}
use Rattle.sot_iv.specs.TermIntervals.{OrMayTrap}
use Rattle.sot_iv.specs.BodyIntervals.{Intervals}
use Rattle.sot_iv.specs.NodeIntervals.{interval_at, reading_intervals, IsNodeExecution}
use Rattle.sot_typing.specs.Formulas.{deeds_view}
use Rattle.sot_typing.specs.Resolved.{NodeTable, node_seen, tables_seen}
use Rattle.sot_law_equal_tables.proofs.Bodies.{IsDeedsExecution, execution_view}
use Rattle.sot_law_equal_tables.proofs.Seen.{scalars_same}

-- what was mapped to a value
pub mapped_from : {A B : Type 0} (f : A → B) (o : Option A) (b : B) → option_map f o ≡ Some b → (a : A) × (o ≡ Some a) × (f a ≡ b)
mapped_from f None b e = absurd (none-some b e)
mapped_from f (Some a) b e = (a, refl, same_Some (f a) b e)

-- where the one is coded, so is the other, with a body that looks the same
pub coded_alike : (x y : NodeInfo) (acts : List Act) → node_seen x ≡ node_seen y → IsCoded y acts
    → (us : List Act) × IsCoded x us × (deeds_view us ≡ deeds_view acts)
coded_alike x y acts alike coded =
    let bodies : option_map (λ v. deeds_view v.items) x.body ≡ option_map (λ v. deeds_view v.items) y.body = ap (λ (n : NodeTable). n.body) alike in
    let here = mapped_from (λ v. deeds_view v.items) x.body (deeds_view coded.0.items) (bodies ∙ ap (option_map (λ v. deeds_view v.items)) coded.1) in
    (here.0.items, (here.0, here.1, refl), here.2 ∙ ap deeds_view coded.2)

module _ (t u : Tables) (same : tables_seen t ≡ tables_seen u) (x y : NodeInfo) (alike : node_seen x ≡ node_seen y) where
  locals_alike : local_ranges x ≡ local_ranges y
  locals_alike = ap (λ (n : NodeTable). map (λ (l : LocalInfo). record { lo = l.lo; hi = l.hi }) n.locals) alike

  writes_alike : write_ranges t x ≡ write_ranges u y
  writes_alike = λ i. map (range_of (scalars_same t u same i)) (alike i).writes

  interval_alike : (boxes : List (List Side)) (s : Slot) → interval_at t boxes s ≡ interval_at u boxes s
  interval_alike boxes (Scalar k) = ap (λ (infos : List ScalarInfo). range_of infos k) (scalars_same t u same)
  interval_alike boxes (State k v) = refl

  readings_alike : (boxes : List (List Side)) → reading_intervals t x boxes ≡ reading_intervals u y boxes
  readings_alike boxes = λ i. map (λ s. interval_alike boxes s i) (alike i).reads

  -- bodies that look the same leave the same
  pub execution_alike : (us acts : List Act) (boxes : List (List Side)) (o : OrMayTrap Intervals) → deeds_view us ≡ deeds_view acts
      → IsNodeExecution t x us boxes o ≡ IsNodeExecution u y acts boxes o
  execution_alike us acts boxes o deeds =
      let leaves : IsDeedsExecution (deeds_view us) (local_ranges x) (write_ranges t x) (reading_intervals t x boxes) (local_ranges x) o
      ≡ IsDeedsExecution (deeds_view acts) (local_ranges y) (write_ranges u y) (reading_intervals u y boxes) (local_ranges y) o =
      λ i. IsDeedsExecution (deeds i) (locals_alike i) (writes_alike i) (readings_alike boxes i) (locals_alike i) o
      in
      execution_view us (local_ranges x) (write_ranges t x) (reading_intervals t x boxes) (local_ranges x) o
      ∙ leaves
      ∙ sym (execution_view acts (local_ranges y) (write_ranges u y) (reading_intervals u y boxes) (local_ranges y) o)
