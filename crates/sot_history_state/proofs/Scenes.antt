-- The scenes of a history are those of its run.
use Rattle.std.proofs.Common.{◌≡◌, ℕ, zero, suc, ℤ, Bool, List, [], ◌∷◌, Option, map, take, refl, sym, ap, ap₂, ◌∙◌, subst}
use Rattle.std.specs.Prelude.{slice_index_or}
use Rattle.std.specs.Option.{option_map_or}
use Rattle.std.proofs.lemmas.Option.{same_Some, none-some}
use Rattle.sot_lists.specs.Places.{At}
use Rattle.sot_lang.specs.declared.tables.NodeInfo.{NodeInfo}
use Rattle.sot_lang.specs.Tables.{Tables}
use Rattle.sot_lang.specs.TableRules.{MeetsTableRules}
use Rattle.sot_lang.specs.Ticks.{joined}
use Rattle.sot_code.specs.Recorded.{in_slots}
use Rattle.sot_world.specs.declared.mode.Mode.{Mode}
use Rattle.sot_world.specs.Configurations.{Configuration, mode_of, locals_of, point_of, commands, seen_points}
use Rattle.sot_world.specs.Steps.{Event, Input, Code, Guest, Decide, Tick, Step, Fires, published, write_at, is_enabled}
use Rattle.sot_world.specs.Runs.{Run}
use Rattle.sot_world.specs.Outcomes.{Recorded, NodeFired, ModuleDecided, Records}
use Rattle.sot_world.specs.HistoryEntry.{Logged, InputAt, FireAt, DecideAt, TickAt}
use Rattle.sot_world.proofs.Parts.{published_padded}
use Rattle.sot_world.proofs.Unique.{steps_are_unique}
use Rattle.sot_trace.specs.Lines.{writes_of}
use Rattle.sot_board.specs.Flown.{Tells}
use Rattle.sot_law_flights.specs.Laws.{TellOf}
use Rattle.sot_history_state.specs.Scenes.{Scene, scene_of, opening, after, scene_after, moments, first_of}
use Rattle.sot_history_state.specs.Laws.{moments_of, ScenesAreTheRuns}
use Rattle.sot_summary.proofs.Inside.{points_back}
use Rattle.sot_history_state.proofs.Widths.{moved_width}

pub same_scene : (s t : Scene) → s.modes ≡ t.modes → s.scalars ≡ t.scalars → s.points ≡ t.points → s ≡ t
same_scene s t a b c = ap (λ (x : List Mode). scene x s.scalars s.points) a ∙ ap (λ (x : List ℤ). scene t.modes x s.points) b
    ∙ ap (λ (x : List (List ℤ)). scene t.modes t.scalars x) c
  where
    scene : List Mode → List ℤ → List (List ℤ) → Scene
    scene x y z = record { modes = x; scalars = y; points = z }

told_parts : (draft d : List (Option ℤ)) (on enabled : Bool) (r : Recorded) → r ≡ NodeFired draft on → r ≡ NodeFired d enabled → (draft ≡ d) × (on ≡ enabled)
told_parts draft d on enabled r a b = (let e = sym a ∙ b in (cc, cc))

told_mode : (a b : Mode) (r : Recorded) → r ≡ ModuleDecided a → r ≡ ModuleDecided b → a ≡ b
told_mode a b r x y = (let e = sym x ∙ y in cc)

module _ (p : Tables) (j : ℕ) (rules : MeetsTableRules p) where
  -- a firing
  fire_scene : (C D : Configuration) (n : ℕ) (node : NodeInfo) (locals : List ℤ) (draft : List (Option ℤ)) (time : ℕ) → At p.nodes n node
      → Fires p n node locals draft C D → scene_of D ≡ after p (FireAt time n (in_slots draft) (is_enabled p C n)) (scene_of C)
  fire_scene C D n node locals draft time at f =
      let on = is_enabled p C n in
      let writes : writes_of p n ≡ node.writes.items = ap (λ o. option_map_or (λ x. x.writes.items) o []) at in
      same_scene (scene_of D) (after p (FireAt time n (in_slots draft) on) (scene_of C)) f.modes
      (f.scalars ∙ sym (published_padded on p node.writes.items draft _ C.scalars) ∙ ap (λ ws. published on p ws (in_slots draft) C.scalars) (sym writes))
      f.points

  -- each step leads from scene to scene
  step_scene : (C D : Configuration) (e : Event) (r : Recorded) (x : Logged) → Step p j C e D → Records p C e D r → Tells C e r D x
      → scene_of D ≡ after p x (scene_of C)
  step_scene C D (Input topic value) r x step records told =
      let first : first_of p topic ≡ step.info.first = ap (λ o. option_map_or (λ y. y.first) o 0) step.is in
      subst (λ y. scene_of D ≡ after p y (scene_of C)) (sym told)
      (same_scene (scene_of D) (after p (InputAt C.time topic value) (scene_of C)) (ap (λ y. y.modes) step.rest)
      (step.scalars ∙ ap (λ k. write_at k value C.scalars) (sym first)) (ap (λ y. y.points) step.rest))
  step_scene C D (Code n) r x step records told =
      let own = steps_are_unique p j C (Code n) D D r (NodeFired step.fired.draft (is_enabled p C n)) step records step
      (record { node = step.node; is = step.is; acts = step.acts; coded = step.coded; fired = step.fired; runs = step.runs; recorded = refl }) in
      let parts = told_parts told.0 step.fired.draft told.1 (is_enabled p C n) r told.2 own.1 in
      subst (λ y. scene_of D ≡ after p y (scene_of C)) (sym (told.3 ∙ ap₂ (λ d o. FireAt C.time n (in_slots d) o) parts.0 parts.1))
      (fire_scene C D n step.node step.fired.locals step.fired.draft C.time step.is step.fires)
  step_scene C D (Guest n draft) r x step records told =
      let parts = told_parts told.0 draft told.1 (is_enabled p C n) r told.2 records in
      subst (λ y. scene_of D ≡ after p y (scene_of C)) (sym (told.3 ∙ ap₂ (λ d o. FireAt C.time n (in_slots d) o) parts.0 parts.1))
      (fire_scene C D n step.node (locals_of C n) draft C.time step.is step.fires)
  step_scene C D (Decide m) r x step records told =
      let mode : told.0 ≡ mode_of D m = told_mode told.0 (mode_of D m) r told.1 records in
      subst (λ y. scene_of D ≡ after p y (scene_of C)) (sym (told.2 ∙ ap (λ z. DecideAt C.time m z) mode))
      (same_scene (scene_of D) (after p (DecideAt C.time m (mode_of D m)) (scene_of C)) step.modes (ap (λ y. y.scalars) step.rest)
      (ap (λ y. y.points) step.rest))
  step_scene C D (Tick noise) r x step records told =
      let back = points_back p.plants D.points step.sizes.points
      (λ k plant at. moved_width p rules k plant (point_of C k) (commands plant C) (joined (seen_points plant C)) (slice_index_or noise k [])
      (point_of D k) at (step.moves k plant at)) in
      subst (λ y. scene_of D ≡ after p y (scene_of C)) (sym told)
      (same_scene (scene_of D) (after p (TickAt C.time (joined noise) (joined D.points)) (scene_of C)) (ap (λ y. y.modes) step.rest)
      (ap (λ y. y.scalars) step.rest) (sym back))

  -- the scene after some entries
  at_place : (C : Configuration) (es : List Event) (Ds : List Configuration) (xs : List Logged) (s : Scene) → Run p j C es Ds → TellOf p C es Ds xs
      → scene_of C ≡ s → (i : ℕ) (D : Configuration) → At (C ∷ Ds) i D → scene_of D ≡ scene_after p s (take i xs)
  at_place C es Ds xs s run told is zero D at = ap scene_of (sym (same_Some C D at)) ∙ is
  at_place C [] [] [] s run told is (suc i) D at = absurd (none-some D at)
  at_place C [] [] (x ∷ xs) s run told is (suc i) D at = absurd told
  at_place C [] (E ∷ Ds) xs s run told is (suc i) D at = absurd run
  at_place C (e ∷ es) [] xs s run told is (suc i) D at = absurd run
  at_place C (e ∷ es) (E ∷ Ds) [] s run told is (suc i) D at = absurd told
  at_place C (e ∷ es) (E ∷ Ds) (x ∷ xs) s run told is (suc i) D at =
      at_place E es Ds xs (after p x s) run.1 told.1 (step_scene C E e told.0.0 x run.0 told.0.1 told.0.2 ∙ ap (after p x) is) i D at

  -- and the moments
  moments_are : (C : Configuration) (es : List Event) (Ds : List Configuration) (xs : List Logged) (s : Scene) → Run p j C es Ds → TellOf p C es Ds xs
      → scene_of C ≡ s → map scene_of (moments_of C es Ds) ≡ moments p s xs
  moments_are C [] [] [] s run told is = ap (λ x. x ∷ []) is
  moments_are C [] [] (x ∷ xs) s run told is = absurd told
  moments_are C [] (E ∷ Ds) xs s run told is = absurd run
  moments_are C (e ∷ es) [] xs s run told is = absurd run
  moments_are C (e ∷ es) (E ∷ Ds) [] s run told is = absurd told
  moments_are C (e ∷ es) (E ∷ Ds) (x ∷ xs) s run told is =
      kind e x told.0.0 told.0.2 (moments_are E es Ds xs (after p x s) run.1 told.1 (step_scene C E e told.0.0 x run.0 told.0.1 told.0.2 ∙ ap (after p x) is))
    where
      kind : (e : Event) (x : Logged) (r : Recorded) → Tells C e r E x → map scene_of (moments_of E es Ds) ≡ moments p (after p x s) xs
          → map scene_of (moments_of C (e ∷ es) (E ∷ Ds)) ≡ moments p s (x ∷ xs)
      kind (Input topic value) x r t rest = subst (λ y. map scene_of (moments_of E es Ds) ≡ moments p s (y ∷ xs)) (sym t)
          (subst (λ y. map scene_of (moments_of E es Ds) ≡ moments p (after p y s) xs) t rest)
      kind (Code n) x r t rest = subst (λ y. map scene_of (moments_of E es Ds) ≡ moments p s (y ∷ xs)) (sym t.3)
          (subst (λ y. map scene_of (moments_of E es Ds) ≡ moments p (after p y s) xs) t.3 rest)
      kind (Guest n draft) x r t rest = subst (λ y. map scene_of (moments_of E es Ds) ≡ moments p s (y ∷ xs)) (sym t.3)
          (subst (λ y. map scene_of (moments_of E es Ds) ≡ moments p (after p y s) xs) t.3 rest)
      kind (Decide m) x r t rest = subst (λ y. map scene_of (moments_of E es Ds) ≡ moments p s (y ∷ xs)) (sym t.2)
          (subst (λ y. map scene_of (moments_of E es Ds) ≡ moments p (after p y s) xs) t.2 rest)
      kind (Tick noise) x r t rest = subst (λ y. scene_of C ∷ map scene_of (moments_of E es Ds) ≡ moments p s (y ∷ xs)) (sym t)
          (ap₂ (λ a b. a ∷ b) is (subst (λ y. map scene_of (moments_of E es Ds) ≡ moments p (after p y s) xs) t rest))

pub scenes_are_the_runs : ScenesAreTheRuns
scenes_are_the_runs p jitter start entries Q run rules =
    let o = run.opening in
    let is : scene_of run.C ≡ opening p start = same_scene (scene_of run.C) (opening p start) o.modes o.scalars o.points in (
      λ i D at. at_place p jitter rules run.C run.events run.Ds entries (opening p start) run.run run.told is i D at,
      moments_are p jitter rules run.C run.events run.Ds entries (opening p start) run.run run.told is,
    )
