-- A guard's firings: what they change and what they keep.
use Rattle.std.proofs.Common.{◌≡◌, ℕ, ◌-◌, ℤ, Bool, true, false, List, [], Option, None, Ok, Err, replicate, length, refl, ap, ◌∙◌, subst}
use Rattle.std.specs.Prelude.{slice_set, MatchResult}
use Rattle.sot_lists.specs.Places.{At}
use Rattle.sot_lang.specs.declared.act.Act.{Act}
use Rattle.sot_lang.specs.declared.tables.NodeInfo.{NodeInfo}
use Rattle.sot_lang.specs.TableRules.{IsCoded}
use Rattle.sot_lang.specs.Ranges.{local_ranges, write_ranges}
use Rattle.sot_lang.specs.Values.{Outcome}
use Rattle.sot_lang.specs.Bodies.{Fired, execution}
use Rattle.sot_lang.specs.Readings.{reading}
use Rattle.sot_lang.proofs.Executes.{exec_locals}
use Rattle.sot_code.specs.Recorded.{in_slots}
use Rattle.sot_tube.specs.Admitted.{Admitted}
use Rattle.sot_world.specs.Configurations.{Configuration, is_left, locals_of}
use Rattle.sot_world.specs.Steps.{Code, Fires, CodeFires, is_enabled, published}
use Rattle.sot_world.proofs.Parts.{published_padded}
use Rattle.sot_world.proofs.Safety.{code_runs}
use Rattle.sot_world.proofs.FiringSteps.{code_so}
use Rattle.sot_law_observed_runs.proofs.Steps.{step_keeps}
use Rattle.sot_law_observed_runs.specs.Tubes.{KeepsTubes}
use Rattle.sot_guard.specs.Guarding.{IsGuarding}
use Rattle.sot_guard.specs.Running.{RunsTo}
use Rattle.sot_guard.specs.Changes.{FiresCode}
use Rattle.sot_guard.proofs.Guards.{well, fires_guards}

module _ (a : Admitted) (t : Bool) (C : Configuration) (g : IsGuarding a t C) (n : ℕ) (node : NodeInfo) (acts : List Act) (after : List ℤ)
    (draft : List (Option ℤ)) (on : Bool) (left : List Bool) (all : List (List ℤ)) (scalars : List ℤ) (at : At a.program.nodes n node)
    (coded : IsCoded node acts) (runs : RunsTo a.program n C.scalars C.points (locals_of C n) after draft) (was : is_left C n ≡ true)
    (on_is : on ≡ is_enabled a.program C n) (l : left ≡ slice_set C.left n false) (k : all ≡ slice_set C.locals n after)
    (s : scalars ≡ published on a.program node.writes.items draft C.scalars) where
  gives : Outcome Fired
  gives = execution acts (local_ranges node) (write_ranges a.program node) (reading node C.scalars C.points) (locals_of C n)

  fires_so : (locals : List ℤ) (own : List (Option ℤ)) → after ≡ locals
      → published on a.program node.writes.items draft C.scalars ≡ published on a.program node.writes.items own C.scalars
      → Fires a.program n node locals own C (record C { left = left; locals = all; scalars = scalars })
  fires_so locals own same told = record {
    was_left = was;
    time = refl;
    left = l;
    left_dm = refl;
    modes = refl;
    points = refl;
    locals_set = k ∙ ap (slice_set C.locals n) same;
    scalars = s ∙ told ∙ ap (λ b. published b a.program node.writes.items own C.scalars) on_is;
  }

  ends_so : (o : Outcome Fired)
      → MatchResult o (λ f. (after ≡ f.locals) × (draft ≡ in_slots f.draft)) (λ u. (after ≡ locals_of C n) × (draft ≡ replicate 8 None))
      → MatchResult o
      (λ f. Fires a.program n node f.locals f.draft C (record C { left = left; locals = all; scalars = scalars }) × (draft ≡ in_slots f.draft))
      (λ u. Fires a.program n node (locals_of C n) [] C (record C { left = left; locals = all; scalars = scalars }) × (draft ≡ replicate 8 None))
  ends_so (Ok f) m = (
    fires_so f.locals f.draft m.0 (ap (λ d. published on a.program node.writes.items d C.scalars) m.1
        ∙ published_padded on a.program node.writes.items f.draft (8 - length f.draft) C.scalars),
    m.1,
  )
  ends_so (Err u) m = (
    fires_so (locals_of C n) [] m.0 (ap (λ d. published on a.program node.writes.items d C.scalars) m.1
        ∙ published_padded on a.program node.writes.items [] 8 C.scalars),
    m.1,
  )

  pub fires_code_so : FiresCode a.program n C (record C { left = left; locals = all; scalars = scalars }) (record { draft = draft; enabled = on })
  fires_code_so = record { node = node; is = at; acts = acts; coded = coded; ends = ends_so _ (runs node acts at coded); enabled = on_is }

  -- while models are trusted the body does not trap
  pub code_step : t ≡ true → CodeFires a.program n C (record C { left = left; locals = all; scalars = scalars })
  code_step trusted =
      let run = code_runs a.program a.cert.jitter g.rules.typed (well a t C g) C n node acts (g.tubes trusted).keeps at coded in
      let told = subst (λ o. MatchResult o (λ f. (after ≡ f.locals) × (draft ≡ in_slots f.draft)) (λ u. (after ≡ locals_of C n) × (draft ≡ replicate 8 None)))
      run.1 (runs node acts at coded) in
      code_so a.program C n node acts run.0 draft on left all scalars at coded run.1 told.1 was on_is l (k ∙ ap (slice_set C.locals n) told.0) s

  kept_by : (o : Outcome Fired) → gives ≡ o
      → MatchResult o
      (λ f. Fires a.program n node f.locals f.draft C (record C { left = left; locals = all; scalars = scalars }) × (draft ≡ in_slots f.draft))
      (λ u. Fires a.program n node (locals_of C n) [] C (record C { left = left; locals = all; scalars = scalars }) × (draft ≡ replicate 8 None))
      → (t ≡ true → KeepsTubes a.program a.cert.jitter (record C { left = left; locals = all; scalars = scalars }))
      → IsGuarding a t (record C { left = left; locals = all; scalars = scalars })
  unfolding gives
  kept_by (Ok f) e m tubes = fires_guards a t C g _ n node f.locals f.draft at m.0
      (exec_locals acts (local_ranges node) (write_ranges a.program node) (reading node C.scalars C.points) (locals_of C n) f (g.locals n node at) e) tubes
  kept_by (Err u) e m tubes = fires_guards a t C g _ n node (locals_of C n) [] at m.0 (g.locals n node at) tubes

  pub code_guards : IsGuarding a t (record C { left = left; locals = all; scalars = scalars })
  unfolding gives
  code_guards = kept_by gives refl (ends_so gives (runs node acts at coded))
      (λ trusted. step_keeps a.program a.cert g.rules g.certified C _ (Code n) (g.tubes trusted) (code_step trusted))
