-- Laws on views.
use Rattle.std.specs.Prelude.{ℕ, ℤ, ◌≡◌, ◌++◌, List, Result, Ok}
use Rattle.sot_lists.specs.Places.{At}
use Rattle.sot_lang.specs.declared.act.Act.{Act}
use Rattle.sot_lang.specs.declared.trap.Trap.{Trap}
use Rattle.sot_lang.specs.declared.tables.NodeInfo.{NodeInfo}
use Rattle.sot_lang.specs.TableRules.{IsCoded}
use Rattle.sot_code.specs.declared.fired.Fired.{Fired}
use Rattle.sot_code.specs.Recorded.{MayRun, IsExecution}
use Rattle.sot_lang.specs.Readings.{reading}
use Rattle.sot_world.specs.Configurations.{locals_of}
use Rattle.sot_world.specs.HistoryEntry.{Logged}
use Rattle.sot_board.specs.declared.view.View.{View}
use Rattle.sot_board.specs.Standing.{Standing, IsStanding}
use Rattle.sot_board.specs.Views.{IsView, viewed_numbers, viewed_locals}
use Rattle.sot_board.specs.Commits.{IsTakenFrom}

-- a view of a board was taken from any later state of it, whatever entries came between
abbrev pub ViewsStay : Type 0
ViewsStay =
    (b later : Standing) (more : List Logged) (n : ℕ) (v : View) → IsStanding b
    → IsView b.accepted.program b.entries b.position n v
    → later.accepted ≡ b.accepted → later.plan ≡ b.plan → later.entries ≡ b.entries ++ more
    → IsTakenFrom later v

-- the code of a coded node may be run on its view, and does not trap
abbrev pub CodeRunsOnViews : Type 0
CodeRunsOnViews =
    (b : Standing) (n : ℕ) (info : NodeInfo) (acts : List Act) (v : View) → IsStanding b
    → IsView b.accepted.program b.entries b.position n v → At b.accepted.program.nodes n info
    → IsCoded info acts
    → MayRun b.accepted.program n (viewed_numbers v) (viewed_locals v)
    × ((result : Result Fired Trap) → IsExecution b.accepted.program n (viewed_numbers v)
    (viewed_locals v) result → (fired : Fired) × (result ≡ Ok fired))

-- the code of a coded node may be run on the present numbers, as they are lent, and does not trap
abbrev pub CodeRunsOnInputs : Type 0
CodeRunsOnInputs =
    (b : Standing) (n : ℕ) (info : NodeInfo) (acts : List Act) (seen : List ℤ) → IsStanding b
    → At b.accepted.program.nodes n info → IsCoded info acts
    → seen ≡ reading info b.position.at.scalars b.position.at.points
    → MayRun b.accepted.program n seen (locals_of b.position.at n)
    × ((result : Result Fired Trap) → IsExecution b.accepted.program n seen
    (locals_of b.position.at n) result → (fired : Fired) × (result ≡ Ok fired))
