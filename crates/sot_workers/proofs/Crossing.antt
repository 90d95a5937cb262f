-- That a board and a shift may cross threads.
use denote.Ref.{NamedLft}
use denote.RattleType.{RattleType}
use denote.Param.Send.{IsSend, IsSync, sendable, recorded_send, struct_send}
use denote.Struct.Declared.{shape}
use mir.Syntax.{Sym}
use denote.Struct.Tuple.{Tuple, TupleAt, field_at, type_at}
use Rattle.std.proofs.Common.{List, ◌∷◌, []}
use Rattle.std.proofs.Crossing.{crosses}
use Rattle.sot_syntax_tree.proofs.name.Name.TheSendSync as name
use Rattle.sot_lang.proofs.act.Act.TheLaws.TheKnot as act
use Rattle.sot_lang.proofs.term.Term.TheLaws.TheKnot as term
use Rattle.sot_lang.proofs.tables.LocalInfo.TheSendSync as local
use Rattle.sot_lang.proofs.tables.ModuleInfo.TheSendSync as module_info
use Rattle.sot_lang.proofs.tables.NoiseInfo.TheSendSync as noise
use Rattle.sot_lang.proofs.tables.ScalarInfo.TheSendSync as scalar
use Rattle.sot_lang.proofs.tables.Slot.TheSendSync as slot
use Rattle.sot_lang.proofs.tables.StateInfo.TheSendSync as state
use Rattle.sot_lang.proofs.tables.TopicInfo.TheSendSync as topic
use Rattle.sot_eval_flat.proofs.Crossing.{flat_send}
use Rattle.sot_turn.proofs.turn.Pass.TheSendSync as pass
use Rattle.sot_turn.proofs.turn.Turn.TheSendSync as turn
use Rattle.sot_lang.specs.contracts.typed.Typed as Typed
use Rattle.sot_lang.specs.contracts.cert.Cert as Cert
use Rattle.sot_tube.specs.contracts.accepted.Accepted as Accepted
use Rattle.sot_world.specs.contracts.answers.Answers as Answers
use Rattle.sot_world.specs.contracts.world.World as World
use Rattle.sot_world.specs.contracts.history.History as History
use Rattle.sot_flight.specs.contracts.flight.Flight as Flight
use Rattle.sot_board.specs.contracts.board.Board as Board
use Rattle.sot_board.specs.contracts.journal.HistoryEntry as Entry
use Rattle.sot_ordered_board.specs.contracts.ordered.OrderedBoard as Ordered
use Rattle.sot_ordered_board.specs.contracts.journal.OrderedBoardJournal.TheImpl.{ghosts}
use Rattle.sot_turn.specs.contracts.turn.Pass as Pass
use Rattle.sot_turn.specs.contracts.turn.Turn as Turn
use Rattle.sot_fly_worker.specs.contracts.shift.Shift as Shift

-- the rows of the tables
ruleset rows = (local.the_sync, module_info.the_sync, noise.the_sync, scalar.the_sync, slot.the_sync, state.the_sync, topic.the_sync, name.the_sync)

-- the tables of a program, whose terms and statements nest
pub typed_sync : IsSync Typed.the_row
typed_sync = search (rows, crosses, act.crosses, term.crosses, sendable) depth 60 fits 20000

-- a certificate
pub cert_sync : IsSync Cert.the_row
cert_sync = search (sendable, crosses) depth 40

-- a program with its certificate
pub accepted_sync : (a : NamedLft) → IsSync (Accepted.the_row a)
accepted_sync a = search (sendable, crosses, typed_sync, cert_sync) depth 40

-- answers on the points of a program
pub answers_send : (a : NamedLft) → IsSend (Answers.the_row a)
answers_send a = search (sendable, crosses, accepted_sync) depth 40

-- the world of a flight
pub world_send : (a : NamedLft) → IsSend (World.the_row a)
world_send a = search (sendable, crosses, accepted_sync, answers_send) depth 40

-- its history
pub history_send : IsSend History.the_row
history_send = search (sendable, crosses) depth 40

-- the flight
pub flight_sync : IsSync Flight.the_row
flight_sync = search (sendable, crosses) depth 40

-- a board
pub board_send : (a : NamedLft) → IsSend (Board.the_row a)
board_send a = search (sendable, crosses, world_send, history_send, flight_sync) depth 40

-- .. and one that is flown in order
pub ordered_send : (a : NamedLft) → IsSend (Ordered.the_row a)
ordered_send a = search (sendable, crosses, board_send) depth 40

-- a pass
pass_send : (a : NamedLft) → IsSend (Pass.the_field (Ordered.the_row a) (Tuple (Accepted.the_row a ∷ Flight.the_row ∷ [])) (Entry.the_row a) ghosts).row
pass_send a = pass.the_field_send (Ordered.the_row a) (Tuple (Accepted.the_row a ∷ Flight.the_row ∷ [])) (Entry.the_row a) ghosts (ordered_send a)

-- a shift, whose guest may
pub shift_send : (a : NamedLft) (C : RattleType) → IsSend C → IsSend (Shift.the_row a C)
shift_send a C s =
    recorded_send (Shift.the_field a C).row _ _ (Shift.the_type a C).to_one
    (struct_send (shape (Shift.the_type a C)) (
      search sendable,
      (
        search sendable,
        (
          pass_send a,
          (
            search (crosses, sendable) depth 40,
            (
              search (s, crosses, sendable) depth 40,
              (search (flat_send, crosses, sendable) depth 40, tt),
            ),
          ),
        ),
      ),
    ))

-- a lock over a board
pub turn_sync : (a : NamedLft) → IsSync (Turn.the_row (Ordered.the_row a) (Tuple (Accepted.the_row a ∷ Flight.the_row ∷ [])) (Entry.the_row a) ghosts)
turn_sync a = turn.the_sync (Ordered.the_row a) (Tuple (Accepted.the_row a ∷ Flight.the_row ∷ [])) (Entry.the_row a) ghosts (ordered_send a)

-- what a closure has captured
pub closure_send : (name : Sym) (A B D E : RattleType) → IsSend A → IsSend B → IsSend D → IsSend E → IsSend (TupleAt name (A ∷ B ∷ D ∷ E ∷ []))
closure_send name A B D E a b d e =
    let all : List RattleType = A ∷ B ∷ D ∷ E ∷ [] in
    recorded_send (field_at name all).row _ _ (type_at name all).to_one (struct_send (shape (type_at name all)) (a, (b, (d, (e, tt)))))
