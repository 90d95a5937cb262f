-- The caller's turns: what it finds, and what it knows afterwards.
use Rattle.std.proofs.Common.{◌≡◌, Bool, List, length, Option, Some, sym, ◌∙◌, subst}
use Rattle.std.proofs.lemmas.Option.{same_Some}
use Rattle.sot_world.specs.HistoryEntry.{Logged}
use Rattle.sot_flight.specs.Plans.{Plan}
use Rattle.sot_tube.specs.Admitted.{Admitted}
use Rattle.sot_turn.specs.Prefixes.{IsPrefix}
use Rattle.sot_board.specs.Flown.{IsEnd, FlownBy}
use Rattle.sot_board.specs.Standing.{Standing, IsStanding}
use Rattle.sot_workers.specs.declared.lists.NodeList.{NodeList}
use Rattle.sot_workers.specs.Lists.{AreMine}
use Rattle.sot_workers.specs.Sent.{IsCallers}

-- a board at its end has flown its flight
pub flown_end : (b : Standing) → IsStanding b → IsEnd b.accepted.program b.plan b.position → FlownBy b.accepted.program b.accepted.cert.jitter b.plan b.entries
flown_end b stands end = (b.position, stands.flown, end)

-- the board that the caller finds goes on from what it has seen, and its lists are those of that
pub found :
    (a : Admitted) (f : Plan) (away : List Bool) (ground : Option (Admitted × Plan)) (seen : List Logged) (lists : List NodeList) (b : Standing)
    → IsCallers a f away ground seen lists
    → ground ≡ Some (b.accepted, b.plan) → IsPrefix seen b.entries
    → (s : List Logged) × IsPrefix s b.entries × AreMine (length b.accepted.program.nodes) b.plan away lists s
found a f away ground seen lists b callers is on =
    let one : ◌≡◌ {A = Admitted × Plan} (a, f) (b.accepted, b.plan) = same_Some (a, f) (b.accepted, b.plan) (sym callers.ground_is ∙ is) in
    (seen, on, subst (λ (x : Admitted × Plan). AreMine (length x.0.program.nodes) x.1 away lists seen) one callers.own)
