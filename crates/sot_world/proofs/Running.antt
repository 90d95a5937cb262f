-- What a coded node's body gives on the numbers that the node reads.
use Rattle.std.proofs.Common.{◌≡◌, ◌<◌, ℕ, ℤ, List, [], Option, false, Result, Ok, Err, refl, length, sym, ap, subst, ◌∙◌, arith}
use Rattle.std.specs.Prelude.{slice_index_or}
use Rattle.std.specs.Result.{is_err}
use Rattle.std.proofs.lemmas.List.{length-map}
use Rattle.std.proofs.lemmas.Option.{slice_get_within}
use Rattle.sot_lists.specs.Places.{At}
use Rattle.sot_lang.specs.declared.act.Act.{Act}
use Rattle.sot_lang.specs.declared.tables.NodeInfo.{NodeInfo}
use Rattle.sot_lang.specs.TableRules.{IsCoded}
use Rattle.sot_lang.specs.Ranges.{local_ranges, write_ranges}
use Rattle.sot_lang.specs.Tables.{Tables}
use Rattle.sot_lang.specs.declared.trap.Trap.{Trap}
use Rattle.sot_lang.specs.Bodies as bodies
use Rattle.sot_lang.specs.Readings.{number_at, reading}
use Rattle.sot_lists.proofs.Places.{at_same, read_or}
use Rattle.sot_code.specs.declared.fired.Fired.{Fired}
use Rattle.sot_code.specs.Recorded.{recorded, left_by, in_slots, MayRun, IsExecution}
use Rattle.sot_world.specs.declared.world.World.TheInside.{Inside}
use Rattle.sot_world.specs.State.{State}
use Rattle.sot_world.specs.WorldView.{state, configuration, IsWorld}
use Rattle.sot_world.specs.Changes.{Runs, HasRun}
use Rattle.sot_world.proofs.FiringSteps.{may_run, runs_along}

module _ (p : Tables) (n : ℕ) (scalars : List ℤ) (points : List (List ℤ)) (locals seen : List ℤ) (r : Runs p n scalars points locals)
    (read : seen ≡ reading r.node scalars points) where
  pub runnable : MayRun p n seen locals
  runnable = record {
    node = r.node;
    acts = r.acts;
    is = r.is;
    coded = r.coded;
    reads = ap length read ∙ length-map r.node.reads.items (number_at scalars points);
    locals_are = r.locals_are;
  }

  pub has_run : (result : Result Fired Trap) → IsExecution p n seen locals result → HasRun p n scalars points locals result
  has_run result execution =
      let e =
      execution r.node r.acts r.is r.coded
      ∙ ap (λ s. recorded (bodies.execution r.acts (local_ranges r.node) (write_ranges p r.node) s locals)) read
      ∙ ap recorded r.runs in
      let f : Fired = record { locals = r.fired.locals; draft = in_slots r.fired.draft } in (
        f,
        e,
        λ node acts fired at coded runs.
            let theirs = read ∙ ap (λ x. reading x scalars points) (at_same p.nodes n r.node node r.is at) in
            let also =
            execution node acts at coded
            ∙ ap (λ s. recorded (bodies.execution acts (local_ranges node) (write_ranges p node) s locals)) theirs
            ∙ ap recorded runs in
            let g : Fired = record { locals = fired.locals; draft = in_slots fired.draft } in
            let both : f ≡ g = cc in
            (ap (λ x. x.locals) both, ap (λ x. x.draft) both),
      )

-- a body that gives something has not trapped, and what it left is that
pub left_ok : {U : Type 0} (result : Result U Trap) (locals : List ℤ) (draft : List (Option ℤ)) (f : Fired) → left_by result locals draft ≡ Ok f
    → f ≡ record { locals = locals; draft = draft }
left_ok (Ok u) locals draft f is = cc
left_ok (Err t) locals draft f is = absurd cc

pub left_none : {U : Type 0} (result : Result U Trap) (locals : List ℤ) (draft : List (Option ℤ)) (f : Fired) → left_by result locals draft ≡ Ok f
    → is_err result ≡ false
left_none (Ok u) locals draft f is = refl
left_none (Err t) locals draft f is = absurd cc

-- .. of the node's locals and of the numbers that a world keeps
pub world_runs : (w : Inside) (s : State) (n : ℕ) (p : Tables) (scalars : List ℤ) (points : List (List ℤ)) (locals : List ℤ) → IsWorld w → state w ≡ s
    → (info : NodeInfo) × (acts : List Act) × At s.accepted.program.nodes n info × IsCoded info acts
    → p ≡ w.accepted.now.program → scalars ≡ w.scalars.items → points ≡ w.points.items → locals ≡ slice_index_or w.locals.items n locals
    → Runs p n scalars points locals
world_runs w s n p scalars points locals is view coded same_p same_scalars same_points same_locals =
    let C = configuration w in
    let a = w.accepted.now in
    let here = subst (λ s. (info : NodeInfo) × (acts : List Act) × At s.accepted.program.nodes n info × IsCoded info acts) (sym view) coded in
    let there = slice_get_within a.program.nodes n here.0 here.2 in
    let locals_there : n < length C.locals = omega (arith, there, is.kept.holds.sizes.locals) in
    runs_along _ _ n _ _ _ _ _ _ same_p same_scalars same_points (read_or C.locals n _ [] locals_there same_locals)
    (may_run a C is.kept n here.0 here.1 here.2 here.3)
