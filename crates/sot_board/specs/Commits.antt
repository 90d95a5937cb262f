-- What committing a view asks and answers.
use Rattle.std.specs.Prelude.{◌≡◌, Ok, map, take}
use Rattle.sot_lists.specs.Places.{At}
use Rattle.sot_lang.specs.declared.tables.NodeInfo.{NodeInfo}
use Rattle.sot_code.specs.declared.fired.Fired.{Fired}
use Rattle.sot_code.specs.Recorded.{IsExecution}
use Rattle.sot_lang.specs.Tables.{Tables}
use Rattle.sot_board.specs.declared.view.View.{View}
use Rattle.sot_board.specs.declared.receipt.Receipt.{Receipt}
use Rattle.sot_board.specs.declared.commit.Commit.{Commit}
use Rattle.sot_board.specs.declared.commit.Commit.TheVariants.{Done, Again}
use Rattle.sot_board.specs.Flown.{Position, FlownSoFar}
use Rattle.sot_board.specs.Standing.{Standing}
use Rattle.sot_board.specs.Views.{IsView, slot_version, viewed_node, viewed_time, viewed_entries}
use Rattle.sot_board.specs.Views.{viewed_numbers, viewed_versions, viewed_locals}

-- the view was taken where a front of the present history, of the view's length, led to
abbrev pub IsTakenFrom : Standing → View → Type 0
IsTakenFrom b v =
    (P : Position) × FlownSoFar b.accepted.program b.accepted.cert.jitter b.plan
    (take (viewed_entries v) b.entries) P
    × IsView b.accepted.program (take (viewed_entries v) b.entries) P (viewed_node v) v

-- the view's time is the present time, and the versions of the topics that its node reads are the
-- present ones
abbrev pub IsCurrent : Standing → View → Type 0
IsCurrent b v =
    (viewed_time v ≡ b.position.at.time)
    × ((info : NodeInfo) → At b.accepted.program.nodes (viewed_node v) info
    → viewed_versions v ≡ map (slot_version b.accepted.program b.entries) info.reads.items)

-- this is what the node's code gives on the view
abbrev pub IsRunOn : Tables → View → Fired → Type 0
IsRunOn p v fired = IsExecution p (viewed_node v) (viewed_numbers v) (viewed_locals v) (Ok fired)

abbrev pub MatchCommit : Commit → (Receipt → Type 0) → (View → Type 0) → Type 0
MatchCommit (Done receipt) D A = D receipt
MatchCommit (Again view) D A = A view
