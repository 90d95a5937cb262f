-- The laws together.
use Rattle.std.proofs.Common.{◌≡◌, ℕ, zero, suc, ℤ, List, [], ◌∷◌, subst}
use Rattle.std.proofs.lemmas.Option.{same_Some}
use Rattle.sot_lists.specs.Places.{At}
use Rattle.sot_box.specs.Boxes.{IsWithin, point_box}
use Rattle.sot_lang.specs.declared.cert.Cert.{Cert}
use Rattle.sot_lang.specs.declared.tables.PlantInfo.{PlantInfo}
use Rattle.sot_lang.specs.Tables.{Tables}
use Rattle.sot_lang.specs.TableRules.{MeetsTableRules}
use Rattle.sot_lang.specs.Ticks.{joined}
use Rattle.sot_iv.proofs.Plants.{plant_sound}
use Rattle.sot_tube.specs.Certified.{IsWellCertified}
use Rattle.sot_tube.proofs.Tubes.{within_box_of}
use Rattle.sot_world.specs.Configurations.{Configuration, point_of, commands, seen_points}
use Rattle.sot_world.specs.Steps.{Event, Input, Code, Guest, Decide, Tick, Ticks, Step}
use Rattle.sot_world.specs.Runs.{Run}
use Rattle.sot_world.proofs.Safety.{safe_now}
use Rattle.sot_law_observed_runs.specs.Observed.{IsAllowed, ObservedTick, ObservedStep, ObservedRun}
use Rattle.sot_law_observed_runs.specs.Tubes.{KeepsTubes}
use Rattle.sot_law_observed_runs.specs.Laws.{ObservedRunsAreSafe, RunsAreObserved, OpeningsKeepTubes, ObservedStepsKeepTubes, TubesAreSafe, TubesHaveNextBoxes}
use Rattle.sot_law_observed_runs.proofs.Ticking.{next_boxes}
use Rattle.sot_law_observed_runs.proofs.Steps.{well, opening_keeps, step_keeps}

pub openings : OpeningsKeepTubes
openings p cert start C rules c o safer = opening_keeps p cert rules c start C o safer

pub steps : ObservedStepsKeepTubes
steps p cert C D e rules c h s = step_keeps p cert rules c C D e h s

pub safe : TubesAreSafe
safe p cert C rules c h = safe_now p cert.jitter rules.typed (well p cert rules c) C h.keeps

pub boxes : TubesHaveNextBoxes
boxes p cert C rules c h = next_boxes p cert.jitter rules (well p cert rules c) C h

module _ (p : Tables) (cert : Cert) (rules : MeetsTableRules p) (c : IsWellCertified p cert.jitter cert) where
  run_keeps : (C : Configuration) (es : List Event) (Ds : List Configuration) → KeepsTubes p cert.jitter C → ObservedRun p cert.jitter C es Ds → (i : ℕ)
      (D : Configuration) → At (C ∷ Ds) i D → KeepsTubes p cert.jitter D
  run_keeps C es Ds h r zero D at = subst (KeepsTubes p cert.jitter) (same_Some C D at) h
  run_keeps C [] [] h r (suc i) D at = cc
  run_keeps C (e ∷ es) (next ∷ Ds) h r (suc i) D at = run_keeps next es Ds (step_keeps p cert rules c C next e h r.0) r.1 i D at
  run_keeps C [] (next ∷ Ds) h r (suc i) D at = absurd r
  run_keeps C (e ∷ es) [] h r (suc i) D at = absurd r

  -- where tubes are kept, a tick of the semantics leads to points of the next boxes
  tick_observed : (C D : Configuration) (noise : List (List ℤ)) → KeepsTubes p cert.jitter C → Ticks p cert.jitter noise C D
      → ObservedTick p cert.jitter C D
  tick_observed C D noise h s = record {
    may = s.may;
    allowed = allowed;
    time = s.time;
    left = s.left;
    left_dm = s.left_dm;
    sizes = s.sizes;
    rest = s.rest;
  }
    where
      allowed : (k : ℕ) (plant : PlantInfo) → At p.plants k plant → IsAllowed C k plant (point_of D k)
      allowed k plant at =
          let next = boxes p cert C rules c h s.may k plant at in
          let is = plant_sound plant (point_box (point_of C k)) (point_box (commands plant C)) (point_box (joined (seen_points plant C))) next.0
          (point_of C k) (commands plant C) (joined (seen_points plant C)) _ (within_box_of (point_of C k)) (within_box_of (commands plant C))
          (within_box_of (joined (seen_points plant C))) (s.bounded k plant at) next.1 in
          let moves = s.moves k plant at in
          let same : is.0 ≡ point_of D k = (let e = is.1 in cc) in
          (next.0, next.1, subst (IsWithin next.0) same is.2)

  step_observed : (C D : Configuration) (e : Event) → KeepsTubes p cert.jitter C → Step p cert.jitter C e D → ObservedStep p cert.jitter C e D
  step_observed C D (Tick noise) h s = tick_observed C D noise h s
  step_observed C D (Input topic value) h s = s
  step_observed C D (Code n) h s = s
  step_observed C D (Guest n draft) h s = s
  step_observed C D (Decide m) h s = s

  run_observed : (C : Configuration) (es : List Event) (Ds : List Configuration) → KeepsTubes p cert.jitter C → Run p cert.jitter C es Ds
      → ObservedRun p cert.jitter C es Ds
  run_observed C [] [] h r = tt
  run_observed C (e ∷ es) (next ∷ Ds) h r =
      let s = step_observed C next e h r.0 in
      (s, run_observed next es Ds (step_keeps p cert rules c C next e h s) r.1)
  run_observed C [] (next ∷ Ds) h r = absurd r
  run_observed C (e ∷ es) [] h r = absurd r

pub observed_runs : ObservedRunsAreSafe
observed_runs p cert rules c start C events Ds o safer r i D at =
    let h = run_keeps p cert rules c C events Ds (opening_keeps p cert rules c start C o safer) r i D at in
    (safe p cert D rules c h, boxes p cert D rules c h)

pub runs_observed : RunsAreObserved
runs_observed p cert start C events Ds rules c o safer r = run_observed p cert rules c C events Ds (opening_keeps p cert rules c start C o safer) r
