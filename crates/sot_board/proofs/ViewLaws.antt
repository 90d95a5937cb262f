-- The laws on views.
use Rattle.std.proofs.Common.{◌≡◌, length, take, sym, ap, ap₂, ◌∙◌, subst}
use Rattle.std.proofs.Math.Seq.{take-append_seam}
use Rattle.std.proofs.lemmas.List.{length-map}
use Rattle.sot_lang.specs.declared.tables.NodeInfo.{NodeInfo}
use Rattle.sot_lang.specs.Ranges.{local_ranges, write_ranges}
use Rattle.sot_lang.specs.Bodies.{execution}
use Rattle.sot_lang.specs.Readings.{number_at, reading}
use Rattle.sot_lists.proofs.Places.{at_same}
use Rattle.sot_code.specs.Recorded.{recorded, MayRun, IsExecution}
use Rattle.sot_world.specs.Configurations.{locals_of}
use Rattle.sot_world.proofs.FiringSteps.{may_run}
use Rattle.sot_tube.specs.Admitted.{Admitted}
use Rattle.sot_flight.specs.Plans.{Plan}
use Rattle.sot_board.specs.Flown.{FlownSoFar}
use Rattle.sot_board.specs.Views.{IsView, viewed_node, viewed_entries, viewed_numbers}
use Rattle.sot_board.specs.Laws.{ViewsStay, CodeRunsOnViews, CodeRunsOnInputs}

pub views_stay : ViewsStay
views_stay b later more n v is view same_a same_f same_es =
    let front : take (viewed_entries v) later.entries ≡ b.entries = ap₂ (λ k es. take k es) view.history same_es ∙ take-append_seam b.entries more in (
      b.position,
      subst (λ (a : Admitted). FlownSoFar a.program a.cert.jitter later.plan (take (viewed_entries v) later.entries) b.position) (sym same_a)
          (subst (λ (f : Plan). FlownSoFar b.accepted.program b.accepted.cert.jitter f (take (viewed_entries v) later.entries) b.position) (sym same_f)
          (subst (λ es. FlownSoFar b.accepted.program b.accepted.cert.jitter b.plan es b.position) (sym front) is.flown)),
      subst (λ (a : Admitted). IsView a.program (take (viewed_entries v) later.entries) b.position (viewed_node v) v) (sym same_a)
          (subst (λ es. IsView b.accepted.program es b.position (viewed_node v) v) (sym front)
          (subst (λ k. IsView b.accepted.program b.entries b.position k v) (sym view.node) view)),
    )

pub code_runs_on_inputs : CodeRunsOnInputs
code_runs_on_inputs b n info acts seen is at coded numbers =
    let p = b.accepted.program in
    let C = b.position.at in
    let runs = may_run b.accepted C is.kept n info acts at coded in
    let same : info ≡ runs.node = at_same p.nodes n info runs.node at runs.is in
    let own = numbers ∙ ap (λ (x : NodeInfo). reading x C.scalars C.points) same in (
      record {
        node = runs.node;
        acts = runs.acts;
        is = runs.is;
        coded = runs.coded;
        reads = ap length own ∙ length-map runs.node.reads.items (number_at C.scalars C.points);
        locals_are = runs.locals_are;
      },
      (λ result ends. (
        _,
        ends runs.node runs.acts runs.is runs.coded
            ∙ ap (λ s. recorded (execution runs.acts (local_ranges runs.node) (write_ranges p runs.node) s (locals_of C n))) own ∙ ap recorded runs.runs,
      )),
    )

pub code_runs_on_views : CodeRunsOnViews
code_runs_on_views b n info acts v is view at coded =
    let now = code_runs_on_inputs b n info acts (viewed_numbers v) is at coded (view.numbers info at) in (
      subst (MayRun b.accepted.program n (viewed_numbers v)) (sym view.locals) now.0,
      (λ result ends. now.1 result (subst (λ l. IsExecution b.accepted.program n (viewed_numbers v) l result) view.locals ends)),
    )
