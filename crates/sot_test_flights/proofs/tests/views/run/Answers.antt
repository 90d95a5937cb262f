use Rattle.std.proofs.Common.{◌≡◌, ℕ, Result, Ok, Err, sym, subst}
use Rattle.sot_lang.specs.Tables.{Tables}
use Rattle.sot_lang.specs.declared.trap.Trap.{Trap}
use Rattle.sot_code.specs.declared.fired.Fired.{Fired}
use Rattle.sot_code.specs.Recorded.{MayRun, IsExecution}
use Rattle.sot_world.specs.NodeSorts.{IsCodedNode}
use Rattle.sot_board.specs.declared.view.View.{View}
use Rattle.sot_board.specs.Standing.{Standing, IsStanding}
use Rattle.sot_board.specs.Views.{IsView, viewed_numbers, viewed_locals}
use Rattle.sot_board.specs.Laws.{CodeRunsOnViews}
use Rattle.sot_test_flights.proofs.tests.views.run.Goals as goal

may_run : (b : Standing) (n : ℕ) (v : View) → CodeRunsOnViews → IsStanding b → IsView b.accepted.program b.entries b.position n v
    → IsCodedNode b.accepted.program n → MayRun b.accepted.program n (viewed_numbers v) (viewed_locals v)
may_run b n v law is view (info, acts, at, coded) = (law b n info acts v is view at coded).0

-- an execution on a view of now does not end in a trap
gives : (b : Standing) (n : ℕ) (v : View) → CodeRunsOnViews → IsStanding b → IsView b.accepted.program b.entries b.position n v
    → IsCodedNode b.accepted.program n
    → (result : Result Fired Trap) → IsExecution b.accepted.program n (viewed_numbers v) (viewed_locals v) result → (fired : Fired) × (result ≡ Ok fired)
gives b n v law is view (info, acts, at, coded) result ends = (law b n info acts v is view at coded).1 result ends

no_trap : (result : Result Fired Trap) (trap : Trap) → result ≡ Err trap → ((fired : Fired) × (result ≡ Ok fired)) → ⊥
no_trap result trap e (fired, f) = absurd cc

pub run_node-requires : goal.run_node-requires
run_node-requires c =
    subst (λ l. MayRun c.typed.result.now c.args.node (viewed_numbers c.args.view.now) l) (sym c.locals.ensures)
    (subst (λ (p : Tables). MayRun p c.args.node (viewed_numbers c.args.view.now) (viewed_locals c.args.view.now)) (sym c.typed.ensures)
    (may_run c.args.board.now c.args.node c.args.view.now c.code_runs_on_views.ensures c.reveal_invariant.ensures c.requires.view c.requires.coded))

pub unreachable-requires : goal.unreachable-requires
unreachable-requires c =
    no_trap c.run_node.result c.in-Err.field-0 c.in-Err.is
    (gives c.args.board.now c.args.node c.args.view.now c.code_runs_on_views.ensures c.reveal_invariant.ensures c.requires.view c.requires.coded
    c.run_node.result
    (subst (λ l. IsExecution c.args.board.now.accepted.program c.args.node (viewed_numbers c.args.view.now) l c.run_node.result) c.locals.ensures
    (subst (λ (p : Tables). IsExecution p c.args.node (viewed_numbers c.args.view.now) c.locals.result c.run_node.result) c.typed.ensures c.run_node.ensures)))
