-- Lines that spell ticks.
use Rattle.std.proofs.Common.{◌≡◌, ◌∙◌, ◌<◌, ℕ, ℤ, List, [], ◌∷◌, ap, sym, subst, arith}
use Rattle.sot_lang.specs.Ticks.{joined}
use Rattle.sot_world.specs.Steps.{Tick, MayTick}
use Rattle.sot_world.specs.Events.{IsInBounds}
use Rattle.sot_world.specs.HistoryEntry.{Logged, FireAt, TickAt}
use Rattle.sot_flight.specs.Plans.{Plan}
use Rattle.sot_flight.specs.Stated.{stated_noise}
use Rattle.sot_board.specs.Standing.{Standing, IsStanding}
use Rattle.sot_board.specs.Flown.{IsStated, Tells, NoInputDue}
use Rattle.sot_board.specs.Calls.{Logs}
use Rattle.sot_trace.specs.Lines.{line_of}
use Rattle.sot_trace.specs.Words.{AreWords}
use Rattle.sot_trace_lines.specs.Spelled.{TickLine, IsSpelled}
use Rattle.sot_replay.specs.GoesOn.{AreHandedOver}
use Rattle.sot_replay.specs.declared.fail.LineKind.TheVariants.{Differs}
use Rattle.sot_replay.specs.Tests.{IsNextLine, IsFirstFailing}
use Rattle.sot_replay.proofs.SpelledEntries.{spells_entry, tick_of, moves}
use Rattle.sot_replay.proofs.FirstFailing.{differs}
use Rattle.sot_replay.proofs.Taken.{tick_taken}
use Rattle.sot_replay.proofs.Judging.{same_one, one_line}

tick_handed : (f : Plan) (t : ℕ) (noise states : List ℤ) → AreHandedOver f (TickAt t noise states ∷ [])
tick_handed f t noise states i time node index draft enabled at crew k z there =
    (let same = same_one (TickAt t noise states) i (FireAt time node draft enabled) at in absurd cc)

pub logged_handed : (b new : Standing) (noise : List (List ℤ)) (entry : Logged) → Logs b new (Tick noise) entry → AreHandedOver b.plan (entry ∷ [])
logged_handed b new noise entry logs =
    let is : entry ≡ TickAt b.position.at.time (joined noise) (joined new.position.at.points) =
    subst (λ ev. Tells b.position.at ev logs.flies.recorded new.position.at entry) logs.event_is logs.flies.tells in
    subst (λ e. AreHandedOver b.plan (e ∷ [])) (sym is) (tick_handed b.plan b.position.at.time (joined noise) (joined new.position.at.points))

module _ (b : Standing) (stands : IsStanding b) (words : AreWords b.accepted.program) (line : List ℕ) (t : ℕ) (w x : List ℤ)
    (spelled : IsSpelled b.accepted.program line (TickLine t w x)) where
  -- a line with which the flight goes on is that of the tick's entry
  pub tick_line :
      (new : Standing) (entry : Logged) → Logs b new (Tick (stated_noise b.accepted.program b.plan b.position.at.time)) entry
      → IsNextLine b.accepted.program b.accepted.cert.jitter b.plan b.position line → line ≡ line_of b.accepted.program entry
  tick_line new entry logs (e, Q, flies, handed, same) =
      let p = b.accepted.program in
      let spells = spells_entry b stands words line (TickLine t w x) spelled e Q flies same in
      let event = moves b.position.at Q.at flies.recorded flies.event e t w x (tick_of p e t w x spells) flies.tells in
      let stated = subst (IsStated p b.plan b.position) event.1 flies.stated in
      same ∙ one_line b new (Tick (stated_noise p b.plan b.position.at.time)) entry e Q logs flies (event.1 ∙ ap Tick stated.2)

  -- no test before the comparison fails of a line of a tick that is possible, and the line is not that of the tick's entry
  pub tick_differs :
      (time : t ≡ b.position.at.time) → MayTick b.accepted.program b.accepted.cert.jitter b.position.at → IsInBounds b.accepted.program.plants w
      → NoInputDue b.position → b.position.at.time < b.plan.horizon
      → (new : Standing) (entry : Logged) → Logs b new (Tick (stated_noise b.accepted.program b.plan b.position.at.time)) entry
      → (line ≡ line_of b.accepted.program entry → ⊥)
      → IsFirstFailing b.accepted.program b.accepted.cert.jitter b.plan b.entries b.position line Differs
  tick_differs time may inside none near new entry logs not =
      differs b.accepted.program b.accepted.cert.jitter b.plan b.entries b.position line (TickLine t w x) spelled time
      (tick_taken b.accepted.program b.accepted.cert.jitter b.position.at w (may, inside)) (λ left. left none) (λ far. omega (arith, far, near))
      (λ given. not (tick_line new entry logs given))
