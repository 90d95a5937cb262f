-- What steps take from tables, where these look the same.
use Rattle.std.proofs.Common.{◌≡◌, ℕ, ℤ, Bool, true, false, List, [], ◌∷◌, ◌++◌, Option, Some, None, map, length, refl, sym, ap, ◌∙◌}
use Rattle.std.proofs.lemmas.List.{length-map}
use Rattle.sot_lang.specs.declared.act.Act.{Act}
use Rattle.sot_lang.specs.declared.tables.ScalarInfo.{ScalarInfo}
use Rattle.sot_lang.specs.declared.tables.LocalInfo.{LocalInfo}
use Rattle.sot_lang.specs.declared.tables.NoiseInfo.{NoiseInfo}
use Rattle.sot_lang.specs.declared.tables.PlantInfo.{PlantInfo}
use Rattle.sot_lang.specs.declared.tables.NodeInfo.{NodeInfo}
use Rattle.sot_lang.specs.Tables.{Tables}
use Rattle.sot_lang.specs.Ranges.{range_of, bounds, local_ranges, write_ranges}
use Rattle.sot_lang.specs.Bodies.{execution}
use Rattle.sot_lang.specs.Ticks.{next_state}
use Rattle.sot_lang.specs.Readings.{reading, number_at}
use Rattle.sot_world.specs.Configurations.{Configuration, IsSized}
use Rattle.sot_world.specs.Steps.{put, publish, published, is_enabled, allowed_by}
use Rattle.sot_typing.specs.Formulas.{deeds_view}
use Rattle.sot_typing.specs.Resolved.{ProgramTables, PlantTable, NodeTable, plant_seen, node_seen, tables_seen}
use Rattle.sot_law_equal_tables.proofs.Seen.{scalars_same, modules_same, plants_seen_same, nodes_seen_same}
use Rattle.sot_law_equal_flights.proofs.Values.{view_values, values_view}
use Rattle.sot_law_equal_flights.proofs.Bodies.{deeds_execution, execution_view}

module _ (t u : Tables) (same : tables_seen t ≡ tables_seen u) where
  pub topics_same : t.topics ≡ u.topics
  topics_same = ap (λ (s : ProgramTables). s.topics) same

  pub plant_count : length t.plants ≡ length u.plants
  plant_count = sym (length-map t.plants plant_seen) ∙ ap length (plants_seen_same t u same) ∙ length-map u.plants plant_seen

  pub node_count : length t.nodes ≡ length u.nodes
  node_count = sym (length-map t.nodes node_seen) ∙ ap length (nodes_seen_same t u same) ∙ length-map u.nodes node_seen

  pub range_same : (k : ℕ) → range_of t.scalars k ≡ range_of u.scalars k
  range_same k = ap (λ (infos : List ScalarInfo). range_of infos k) (scalars_same t u same)

  publish_same : (ks : List ℕ) (draft : List (Option ℤ)) (xs : List ℤ) → publish t ks draft xs ≡ publish u ks draft xs
  publish_same [] draft xs = refl
  publish_same (k ∷ ks) [] xs = refl
  publish_same (k ∷ ks) (None ∷ draft) xs = publish_same ks draft xs
  publish_same (k ∷ ks) (Some z ∷ draft) xs =
      publish_same ks draft (put (range_of t.scalars k) k z xs) ∙ ap (λ r. publish u ks draft (put r k z xs)) (range_same k)

  pub enabled_same : (C : Configuration) (n : ℕ) → is_enabled t C n ≡ is_enabled u C n
  enabled_same C n = ap (λ modules. allowed_by modules C.modes n) (modules_same t u same)

  published_same : (b : Bool) (ks : List ℕ) (draft : List (Option ℤ)) (xs : List ℤ) → published b t ks draft xs ≡ published b u ks draft xs
  published_same true ks draft xs = publish_same ks draft xs
  published_same false ks draft xs = refl

  -- what a firing publishes
  pub firing_same : (C : Configuration) (n : ℕ) (ks : List ℕ) (draft : List (Option ℤ)) (xs : List ℤ)
      → published (is_enabled t C n) t ks draft xs ≡ published (is_enabled u C n) u ks draft xs
  firing_same C n ks draft xs = published_same (is_enabled t C n) ks draft xs ∙ ap (λ b. published b u ks draft xs) (enabled_same C n)

  pub sized_same : (C : Configuration) → IsSized t C → IsSized u C
  sized_same C sized = record {
    left = sized.left ∙ node_count;
    left_dm = sized.left_dm ∙ ap length (modules_same t u same);
    modes = sized.modes ∙ ap length (modules_same t u same);
    scalars = sized.scalars ∙ ap length (scalars_same t u same);
    locals = sized.locals ∙ node_count;
    points = sized.points ∙ plant_count;
  }

-- two nodes that look the same
module _ (t u : Tables) (same : tables_seen t ≡ tables_seen u) (x y : NodeInfo) (alike : node_seen x ≡ node_seen y) where
  pub writes_same : x.writes.items ≡ y.writes.items
  writes_same = ap (λ (n : NodeTable). n.writes) alike

  pub write_ranges_same : write_ranges t x ≡ write_ranges u y
  write_ranges_same = λ i. map (range_of (scalars_same t u same i)) (alike i).writes

  locals_same : local_ranges x ≡ local_ranges y
  locals_same = ap (λ (n : NodeTable). map (λ (l : LocalInfo). record { lo = l.lo; hi = l.hi }) n.locals) alike

  reading_same : (scalars : List ℤ) (points : List (List ℤ)) → reading x scalars points ≡ reading y scalars points
  reading_same scalars points = ap (λ (n : NodeTable). map (number_at scalars points) n.reads) alike

  -- have one execution
  pub execution_same : (us acts : List Act) → deeds_view us ≡ deeds_view acts → (scalars : List ℤ) (points : List (List ℤ)) (locals : List ℤ)
      → execution us (local_ranges x) (write_ranges t x) (reading x scalars points) locals
      ≡ execution acts (local_ranges y) (write_ranges u y) (reading y scalars points) locals
  execution_same us acts deeds scalars points locals =
      execution_view us (local_ranges x) (write_ranges t x) (reading x scalars points) locals
      ∙ (λ i. deeds_execution (deeds i) (locals_same i) (write_ranges_same i) (reading_same scalars points i) locals)
      ∙ sym (execution_view acts (local_ranges y) (write_ranges u y) (reading y scalars points) locals)

-- two plants that look the same
module _ (x y : PlantInfo) (alike : plant_seen x ≡ plant_seen y) where
  pub bounds_same : bounds x ≡ bounds y
  bounds_same = ap (λ (p : PlantTable). map (λ (d : NoiseInfo). record { lo = d.lo; hi = d.hi }) p.noise) alike

  -- have one next point
  pub next_same : (s c v w : List ℤ) → next_state x s c v w ≡ next_state y s c v w
  unfolding next_state
  next_same s c v w =
      values_view x.next.items (s ++ c ++ v ++ w)
      ∙ ap (λ (p : PlantTable). view_values p.next (s ++ c ++ v ++ w)) alike
      ∙ sym (values_view y.next.items (s ++ c ++ v ++ w))
