-- Tables that look the same have the same traces, of the same histories.
use Rattle.std.proofs.Common.{◌≡◌, ℕ, zero, suc, ◌+◌, ◌<◌, ℤ, List, [], ◌∷◌, ◌++◌, Option, Some, None, length, map, take, drop, codes, refl, sym, ap, ap₂, ◌∙◌}
use Rattle.std.proofs.Common.{subst, arith}
use Rattle.std.specs.Prelude.{slice_get, sum_by}
use Rattle.std.specs.Option.{option_map_or}
use Rattle.std.proofs.lemmas.List.{length-map}
use Rattle.sot_lang.specs.declared.tables.TopicInfo.{TopicInfo}
use Rattle.sot_lang.specs.declared.tables.ScalarInfo.{ScalarInfo}
use Rattle.sot_lang.specs.declared.tables.PlantInfo.{PlantInfo}
use Rattle.sot_lang.specs.declared.tables.ModuleInfo.{ModuleInfo}
use Rattle.sot_lang.specs.Tables.{Tables}
use Rattle.sot_typing.specs.Resolved.{ProgramTables, PlantTable, NodeTable, plant_seen, node_seen, tables_seen}
use Rattle.sot_world.specs.Events.{noise_count}
use Rattle.sot_world.specs.HistoryEntry.{Logged, InputAt, FireAt, DecideAt, TickAt}
use Rattle.sot_board.specs.Counts.{state_count}
use Rattle.sot_trace.specs.Numbers.{numeral, numbers}
use Rattle.sot_lang.specs.Names.{node_name}
use Rattle.sot_trace.specs.Drafts.{slot_text, draft_text, slot_refused, draft_refused}
use Rattle.sot_trace.specs.Moves.{moves_text}
use Rattle.sot_trace.specs.Lines.{line_of, writes_of, header, firing_word, mode_word, start_lines, end_line, ticks_in, refused_in}
use Rattle.sot_trace.specs.Traces.{text_of, trace_lines, trace_text}
use Rattle.sot_trace.specs.Telling.{IsDraftOf, IsTold, IsTraced}

-- what is read of an entry as it looks
pub looked : {A B C : Type 0} (seen : A → B) (part : B → C) (d : C) (xs : List A) (n : ℕ)
    → option_map_or (λ x. part (seen x)) (slice_get xs n) d ≡ option_map_or part (slice_get (map seen xs) n) d
looked seen part d [] n = refl
looked seen part d (x ∷ xs) zero = refl
looked seen part d (x ∷ xs) (suc n) = looked seen part d xs n

-- drafts are told by topics and scalars alone
bare : List TopicInfo → List ScalarInfo → Tables
bare topics scalars = record { topics = topics; scalars = scalars; plants = []; nodes = []; modules = [] }

draft_bare : (p : Tables) (ks : List ℕ) (d : List (Option ℤ)) → draft_text p ks d ≡ draft_text (bare p.topics p.scalars) ks d
unfolding bare
draft_bare p [] d = refl
draft_bare p (k ∷ ks) [] = refl
draft_bare p (k ∷ ks) (None ∷ d) = draft_bare p ks d
draft_bare p (k ∷ ks) (Some z ∷ d) = ap (λ x. slot_text p k (Some z) ++ x) (draft_bare p ks d)

refused_bare : (p : Tables) (ks : List ℕ) (d : List (Option ℤ)) → draft_refused p ks d ≡ draft_refused (bare p.topics p.scalars) ks d
unfolding bare
refused_bare p [] d = refl
refused_bare p (k ∷ ks) [] = refl
refused_bare p (k ∷ ks) (None ∷ d) = ap (λ n. 0 + n) (refused_bare p ks d)
refused_bare p (k ∷ ks) (Some z ∷ d) = ap (λ n. slot_refused p k (Some z) + n) (refused_bare p ks d)

-- plants that look the same
one_seen : (k l : PlantInfo) (ks ls : List PlantInfo) → map plant_seen (k ∷ ks) ≡ map plant_seen (l ∷ ls)
    → (plant_seen k ≡ plant_seen l) × (map plant_seen ks ≡ map plant_seen ls)
one_seen k l ks ls same = (cc, ap (drop 1) same)

moves_seen : (ks ls : List PlantInfo) → map plant_seen ks ≡ map plant_seen ls → (v s : List ℤ) → moves_text ks v s ≡ moves_text ls v s
moves_seen [] [] same v s = refl
moves_seen [] (l ∷ ls) same v s = absurd cc
moves_seen (k ∷ ks) [] same v s = absurd cc
moves_seen (k ∷ ks) (l ∷ ls) same v s =
    let (one, more) = one_seen k l ks ls same in
    let name = ap (λ (x : PlantTable). x.name) one in
    let noise = ap (λ (x : PlantTable). length x.noise) one in
    let states = ap (λ (x : PlantTable). length x.states) one in
    (λ i. (codes " " ++ (name i ++ (codes "(" ++ (numbers (take (noise i) v) ++ (codes ")=" ++ numbers (take (states i) s))))))
    ++ moves_seen ks ls more (drop (noise i) v) (drop (states i) s) i)

starts_seen : (ks ls : List PlantInfo) → map plant_seen ks ≡ map plant_seen ls → (xs : List (List ℤ)) → start_lines ks xs ≡ start_lines ls xs
starts_seen [] [] same xs = refl
starts_seen [] (l ∷ ls) same xs = absurd cc
starts_seen (k ∷ ks) [] same xs = absurd cc
starts_seen (k ∷ ks) (l ∷ ls) same [] = refl
starts_seen (k ∷ ks) (l ∷ ls) same (x ∷ xs) =
    let (one, more) = one_seen k l ks ls same in
    let name = ap (λ (y : PlantTable). y.name) one in
    (λ i. (codes "start " ++ (name i ++ (codes " " ++ numbers x))) ∷ starts_seen ks ls more xs i)

counts_seen : (ks ls : List PlantInfo) → map plant_seen ks ≡ map plant_seen ls → (noise_count ks ≡ noise_count ls) × (state_count ks ≡ state_count ls)
counts_seen [] [] same = (refl, refl)
counts_seen [] (l ∷ ls) same = absurd cc
counts_seen (k ∷ ks) [] same = absurd cc
counts_seen (k ∷ ks) (l ∷ ls) same =
    let (one, more) = one_seen k l ks ls same in
    let (noise, states) = counts_seen ks ls more in
    (ap₂ (λ a b. a + b) (ap (λ (x : PlantTable). length x.noise) one) noise, ap₂ (λ a b. a + b) (ap (λ (x : PlantTable). length x.states) one) states)

module _ (t u : Tables) (same : tables_seen t ≡ tables_seen u) where
  topics_same : t.topics ≡ u.topics
  topics_same = ap (λ (s : ProgramTables). s.topics) same

  scalars_same : t.scalars ≡ u.scalars
  scalars_same = ap (λ (s : ProgramTables). s.scalars) same

  modules_same : t.modules ≡ u.modules
  modules_same = ap (λ (s : ProgramTables). s.modules) same

  plants_same : map plant_seen t.plants ≡ map plant_seen u.plants
  plants_same = ap (λ (s : ProgramTables). s.plants) same

  nodes_same : map node_seen t.nodes ≡ map node_seen u.nodes
  nodes_same = ap (λ (s : ProgramTables). s.nodes) same

  node_named_same : (n : ℕ) → node_name t n ≡ node_name u n
  node_named_same n =
      let part = λ (x : NodeTable). x.name in
      looked node_seen part [] t.nodes n ∙ ap (λ xs. option_map_or part (slice_get xs n) []) nodes_same ∙ sym (looked node_seen part [] u.nodes n)

  writes_same : (n : ℕ) → writes_of t n ≡ writes_of u n
  writes_same n =
      let part = λ (x : NodeTable). x.writes in
      looked node_seen part [] t.nodes n ∙ ap (λ xs. option_map_or part (slice_get xs n) []) nodes_same ∙ sym (looked node_seen part [] u.nodes n)

  drafts_same : (n : ℕ) (d : List (Option ℤ)) → draft_text t (writes_of t n) d ≡ draft_text u (writes_of u n) d
  drafts_same n d =
      draft_bare t (writes_of t n) d
      ∙ (λ i. draft_text (bare (topics_same i) (scalars_same i)) (writes_same n i) d)
      ∙ sym (draft_bare u (writes_of u n) d)

  pub refused_same : (e : Logged) → refused_in t e ≡ refused_in u e
  refused_same (InputAt time topic value) = refl
  refused_same (FireAt time n d enabled) =
      refused_bare t (writes_of t n) d
      ∙ (λ i. draft_refused (bare (topics_same i) (scalars_same i)) (writes_same n i) d)
      ∙ sym (refused_bare u (writes_of u n) d)
  refused_same (DecideAt time m mode) = refl
  refused_same (TickAt time noise states) = refl

  lines_same : (e : Logged) → line_of t e ≡ line_of u e
  lines_same (InputAt time topic value) =
      ap (λ (topics : List TopicInfo). numeral time ++ (codes " input "
      ++ (option_map_or (λ (x : TopicInfo). x.name) (slice_get topics topic) [] ++ (codes "=" ++ numbers value)))) topics_same
  lines_same (FireAt time n d enabled) = ap₂ (λ name draft. numeral time ++ (firing_word enabled ++ (name ++ draft))) (node_named_same n) (drafts_same n d)
  lines_same (DecideAt time m mode) =
      ap (λ (modules : List ModuleInfo). numeral time ++ (codes " decide "
      ++ (option_map_or (λ (x : ModuleInfo). x.name) (slice_get modules m) [] ++ mode_word mode))) modules_same
  lines_same (TickAt time noise states) = ap (λ x. numeral time ++ (codes " tick" ++ x)) (moves_seen t.plants u.plants plants_same noise states)

  pub trace_lines_same : (start : List (List ℤ)) (entries : List Logged) → trace_lines t start entries ≡ trace_lines u start entries
  trace_lines_same start entries =
      let starts = starts_seen t.plants u.plants plants_same start in
      (λ i. header ∷ (starts i ++ (map (λ e. lines_same e i) entries
      ++ (end_line (sum_by ticks_in entries) (length entries) (sum_by (λ e. refused_same e i) entries) ∷ []))))

  pub text_same : (start : List (List ℤ)) (entries : List Logged) → trace_text t start entries ≡ trace_text u start entries
  text_same start entries = ap text_of (trace_lines_same start entries)

  told_same : (e : Logged) → IsTold u e → IsTold t e
  told_same (InputAt time topic value) told = subst (λ (topics : List TopicInfo). topic < length topics) (sym topics_same) told
  told_same (FireAt time n d enabled) told = (
    omega (arith, told.0, ap length nodes_same, length-map t.nodes node_seen, length-map u.nodes node_seen),
    subst (λ ks. IsDraftOf ks d) (sym (writes_same n)) told.1,
  )
  told_same (DecideAt time m mode) told = subst (λ (modules : List ModuleInfo). m < length modules) (sym modules_same) told
  told_same (TickAt time noise states) told =
      (let counts = counts_seen t.plants u.plants plants_same in (omega (arith, told.0, counts.0), omega (arith, told.1, counts.1)))

  pub traced_same : (start : List (List ℤ)) (entries : List Logged) → IsTraced u start entries → IsTraced t start entries
  traced_same start entries traced = record {
    starts = omega (arith, traced.starts, ap length plants_same, length-map t.plants plant_seen, length-map u.plants plant_seen);
    told = λ i e at. told_same e (traced.told i e at);
  }
