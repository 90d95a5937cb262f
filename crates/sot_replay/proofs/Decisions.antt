-- Lines that spell decisions.
use Rattle.std.proofs.Common.{◌≡◌, ◌∙◌, ℕ, List, [], ◌∷◌}
use Rattle.sot_world.specs.declared.mode.Mode.{Mode}
use Rattle.sot_world.specs.Steps.{Decide}
use Rattle.sot_world.specs.HistoryEntry.{Logged, FireAt, DecideAt}
use Rattle.sot_flight.specs.Plans.{Plan}
use Rattle.sot_board.specs.Standing.{Standing, IsStanding}
use Rattle.sot_board.specs.Calls.{Logs}
use Rattle.sot_trace.specs.Lines.{line_of}
use Rattle.sot_trace.specs.Words.{AreWords}
use Rattle.sot_trace_lines.specs.Spelled.{DecideLine, IsSpelled}
use Rattle.sot_replay.specs.GoesOn.{AreHandedOver}
use Rattle.sot_replay.specs.Tests.{IsNextLine}
use Rattle.sot_replay.proofs.SpelledEntries.{spells_entry, decision_of, decides}
use Rattle.sot_replay.proofs.Judging.{same_one, one_line}

pub decision_handed : (f : Plan) (t m : ℕ) (mode : Mode) → AreHandedOver f (DecideAt t m mode ∷ [])
decision_handed f t m mode i time node index draft enabled at crew k z there =
    (let same = same_one (DecideAt t m mode) i (FireAt time node draft enabled) at in absurd cc)

module _ (b : Standing) (stands : IsStanding b) (words : AreWords b.accepted.program) (line : List ℕ) (t m : ℕ) (mode : Mode)
    (spelled : IsSpelled b.accepted.program line (DecideLine t m mode)) where
  -- a line with which the flight goes on is that of the decision's entry
  pub decision_line : (new : Standing) (entry : Logged) → Logs b new (Decide m) entry
      → IsNextLine b.accepted.program b.accepted.cert.jitter b.plan b.position line → line ≡ line_of b.accepted.program entry
  decision_line new entry logs (e, Q, flies, handed, same) =
      let p = b.accepted.program in
      let spells = spells_entry b stands words line (DecideLine t m mode) spelled e Q flies same in
      let event = decides b.position.at Q.at flies.recorded flies.event e t m mode (decision_of p e t m mode spells) flies.tells in
      same ∙ one_line b new (Decide m) entry e Q logs flies event
