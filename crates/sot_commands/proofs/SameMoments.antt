-- The moments of a history are those of tables that look the same.
use Rattle.std.proofs.Common.{◌≡◌, ◌∙◌, ℕ, ℤ, Bool, true, false, List, [], ◌∷◌, Option, None, Some, map, refl, sym, ap}
use Rattle.std.specs.Prelude.{slice_get}
use Rattle.std.specs.Option.{option_map_or}
use Rattle.sot_lang.specs.declared.tables.TopicInfo.{TopicInfo}
use Rattle.sot_lang.specs.declared.tables.ScalarInfo.{ScalarInfo}
use Rattle.sot_lang.specs.Tables.{Tables}
use Rattle.sot_lang.specs.Ranges.{range_of}
use Rattle.sot_typing.specs.Resolved.{NodeTable, node_seen, tables_seen}
use Rattle.sot_law_equal_tables.proofs.Seen.{scalars_same, modules_same, plants_seen_same, nodes_seen_same}
use Rattle.sot_law_equal_flights.proofs.Parts.{topics_same, range_same}
use Rattle.sot_law_trace_unique.proofs.Looks.{looked}
use Rattle.sot_world.specs.declared.mode.Mode.TheVariants.{Sc}
use Rattle.sot_world.specs.Steps.{write_at, put, publish, published}
use Rattle.sot_world.specs.HistoryEntry.{Logged, InputAt, FireAt, DecideAt, TickAt}
use Rattle.sot_trace.specs.Lines.{writes_of}
use Rattle.sot_history_state.specs.Scenes.{Scene, opening, scalars_after, after, moments}
use Rattle.sot_monitor.specs.Moments.{number_in, moments_told}
use Rattle.sot_commands.proofs.SameSummaries.{points_same}

module _ (t u : Tables) (same : tables_seen t ≡ tables_seen u) where
  writes_once : (n : ℕ) → writes_of t n ≡ writes_of u n
  writes_once n =
      let part = λ (x : NodeTable). x.writes in
      looked node_seen part [] t.nodes n ∙ ap (λ xs. option_map_or part (slice_get xs n) []) (nodes_seen_same t u same)
      ∙ sym (looked node_seen part [] u.nodes n)

  publish_once : (ks : List ℕ) (draft : List (Option ℤ)) (xs : List ℤ) → publish t ks draft xs ≡ publish u ks draft xs
  publish_once [] draft xs = refl
  publish_once (k ∷ ks) [] xs = refl
  publish_once (k ∷ ks) (None ∷ draft) xs = publish_once ks draft xs
  publish_once (k ∷ ks) (Some z ∷ draft) xs =
      publish_once ks draft (put (range_of t.scalars k) k z xs) ∙ ap (λ r. publish u ks draft (put r k z xs)) (range_same t u same k)

  published_once : (b : Bool) (ks : List ℕ) (draft : List (Option ℤ)) (xs : List ℤ) → published b t ks draft xs ≡ published b u ks draft xs
  published_once true ks draft xs = publish_once ks draft xs
  published_once false ks draft xs = refl

  after_once : (e : Logged) (s : Scene) → after t e s ≡ after u e s
  after_once (InputAt time topic value) s =
      ap (λ (topics : List TopicInfo). record s { scalars = write_at (option_map_or (λ (x : TopicInfo). x.first) (slice_get topics topic) 0) value s.scalars })
      (topics_same t u same)
  after_once (FireAt time n draft enabled) s =
      ap (λ (xs : List ℤ). record s { scalars = xs })
      (ap (λ (ks : List ℕ). published enabled t ks draft s.scalars) (writes_once n) ∙ published_once enabled (writes_of u n) draft s.scalars)
  after_once (DecideAt time m mode) s = refl
  after_once (TickAt time noise states) s =
      ap (λ (ps : List (List ℤ)). record s { points = ps }) (points_same t.plants u.plants (plants_seen_same t u same) states)

  moments_once : (s : Scene) (es : List Logged) → moments t s es ≡ moments u s es
  moments_once s [] = refl
  moments_once s (TickAt time noise states ∷ es) =
      let e = TickAt time noise states in
      ap (λ (ms : List Scene). s ∷ ms) (ap (λ (z : Scene). moments t z es) (after_once e s) ∙ moments_once (after u e s) es)
  moments_once s (InputAt time topic value ∷ es) =
      let e = InputAt time topic value in
      ap (λ (z : Scene). moments t z es) (after_once e s) ∙ moments_once (after u e s) es
  moments_once s (FireAt time n draft enabled ∷ es) =
      let e = FireAt time n draft enabled in
      ap (λ (z : Scene). moments t z es) (after_once e s) ∙ moments_once (after u e s) es
  moments_once s (DecideAt time m mode ∷ es) =
      let e = DecideAt time m mode in
      ap (λ (z : Scene). moments t z es) (after_once e s) ∙ moments_once (after u e s) es

  opening_once : (start : List (List ℤ)) → opening t start ≡ opening u start
  opening_once start = λ i. record {
    modes = map (λ m. Sc) (modules_same t u same i);
    scalars = map (λ (x : ScalarInfo). x.init) (scalars_same t u same i);
    points = start;
  }

  pub moments_same : (start : List (List ℤ)) (es : List Logged) → moments_told t start es ≡ moments_told u start es
  moments_same start es =
      ap (map number_in) (ap (λ (s : Scene). moments t s es) (opening_once start) ∙ moments_once (opening u start) es)
