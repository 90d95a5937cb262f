-- The code of a view's node runs on the view.
use Rattle.std.proofs.Common.{◌≡◌, ℤ, List, Option, refl, sym, subst}
use Rattle.std.specs.Prelude.{Result, Ok, Err}
use Rattle.sot_lists.specs.Places.{At}
use Rattle.sot_lang.specs.declared.trap.Trap.{Trap}
use Rattle.sot_lang.specs.Tables.{Tables}
use Rattle.sot_code.specs.declared.fired.Fired.{Fired}
use Rattle.sot_code.specs.Recorded.{left_by, MayRun, IsExecution}
use Rattle.sot_board.specs.declared.view.View.{View}
use Rattle.sot_board.specs.Standing.{Standing}
use Rattle.sot_board.specs.Views.{viewed_node, viewed_numbers, viewed_locals}
use Rattle.sot_board.proofs.ViewLaws.{code_runs_on_views}
use Rattle.sot_world.specs.NodeSorts.{IsCodedNode}
use Rattle.sot_fly_worker.specs.Holds.{IsDueView}

-- it may be run, and gives what it gives
abbrev pub RunsOn : Tables → View → Type 0
RunsOn p v =
    MayRun p (viewed_node v) (viewed_numbers v) (viewed_locals v)
    × ((result : Result Fired Trap) → IsExecution p (viewed_node v) (viewed_numbers v) (viewed_locals v) result → (fired : Fired) × (result ≡ Ok fired))

pub view_runs : (p : Tables) (v : View) → IsCodedNode p (viewed_node v) → ((b : Standing) × (p ≡ b.accepted.program) × IsDueView b (viewed_node v) v)
    → RunsOn p v
view_runs p v (info, acts, at, coded) (b, same, due) =
    subst (λ q. RunsOn q v) (sym same) (code_runs_on_views b (viewed_node v) info acts v due.standing due.view
    (subst (λ (q : Tables). At q.nodes (viewed_node v) info) same at) coded)

-- where locals and a draft are left, there was no trap
pub left_there : {U : Type 0} (result : Result U Trap) (locals : List ℤ) (draft : List (Option ℤ)) (fired : Fired)
    → left_by result locals draft ≡ Ok fired → (u : U) × (result ≡ Ok u)
left_there (Ok u) locals draft fired is = (u, refl)
left_there (Err trap) locals draft fired is = absurd (let e = is in cc)
