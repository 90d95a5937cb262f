-- Lines that spell inputs.
use Rattle.std.proofs.Common.{◌≡◌, ◌∙◌, ℕ, ℤ, List, [], ◌∷◌, refl, sym, subst}
use Rattle.sot_world.specs.Steps.{Input}
use Rattle.sot_world.specs.HistoryEntry.{Logged, InputAt, FireAt}
use Rattle.sot_flight.specs.Plans.{StatedInput, Plan}
use Rattle.sot_board.specs.Standing.{Standing, IsStanding}
use Rattle.sot_board.specs.Flown.{IsStated, Tells}
use Rattle.sot_board.specs.Calls.{InputDue, Logs}
use Rattle.sot_trace.specs.Lines.{line_of}
use Rattle.sot_trace.specs.Words.{AreWords}
use Rattle.sot_trace_lines.specs.Spelled.{InputLine, IsSpelled}
use Rattle.sot_replay.specs.GoesOn.{AreHandedOver}
use Rattle.sot_replay.specs.Tests.{IsNextLine}
use Rattle.sot_replay.proofs.SpelledEntries.{spells_entry, input_of, takes}
use Rattle.sot_replay.proofs.Judging.{same_one, one_line}

input_handed : (f : Plan) (t m : ℕ) (value : List ℤ) → AreHandedOver f (InputAt t m value ∷ [])
input_handed f t m value i time node index draft enabled at crew k z there =
    (let same = same_one (InputAt t m value) i (FireAt time node draft enabled) at in absurd cc)

pub logged_handed : (b new : Standing) (k : ℕ) (kept : List ℤ) (entry : Logged) → Logs b new (Input k kept) entry → AreHandedOver b.plan (entry ∷ [])
logged_handed b new k kept entry logs =
    let is : entry ≡ InputAt b.position.at.time k kept = subst (λ ev. Tells b.position.at ev logs.flies.recorded new.position.at entry) logs.event_is
    logs.flies.tells in
    subst (λ e. AreHandedOver b.plan (e ∷ [])) (sym is) (input_handed b.plan b.position.at.time k kept)

-- the inputs that come next are one
next_one : (t topic k : ℕ) (value kept : List ℤ) (xs rest more : List StatedInput) → xs ≡ record { at = t; topic = topic; value = value } ∷ rest
    → xs ≡ record { at = t; topic = k; value = kept } ∷ more → Input topic value ≡ Input k kept
next_one t topic k value kept xs rest more a b =
    let x : StatedInput = record { at = t; topic = topic; value = value } in
    let y : StatedInput = record { at = t; topic = k; value = kept } in
    let both : x ∷ rest ≡ y ∷ more = sym a ∙ b in
    let same : x ≡ y = cc in
    λ i. Input (same i).topic (same i).value

module _ (b : Standing) (stands : IsStanding b) (words : AreWords b.accepted.program) (line : List ℕ) (t topic : ℕ) (value : List ℤ)
    (spelled : IsSpelled b.accepted.program line (InputLine t topic value)) where
  -- a line with which the flight goes on tells of the input that it spells
  input_event : (next : IsNextLine b.accepted.program b.accepted.cert.jitter b.plan b.position line) → next.2.event ≡ Input topic value
  input_event (e, Q, flies, handed, same) =
      let p = b.accepted.program in
      let spells = spells_entry b stands words line (InputLine t topic value) spelled e Q flies same in
      takes b.position.at Q.at flies.recorded flies.event e t topic value (input_of p e t topic value spells) flies.tells

  -- .. which is due
  pub input_due : IsNextLine b.accepted.program b.accepted.cert.jitter b.plan b.position line → InputDue b.position
  input_due next =
      let stated = subst (IsStated b.accepted.program b.plan b.position) (input_event next) next.2.stated in
      (record { at = b.position.at.time; topic = topic; value = value }, stated.0, stated.1, refl)

  -- .. and is that of the next input's entry
  pub input_line :
      (new : Standing) (k : ℕ) (kept : List ℤ) (entry : Logged) → Logs b new (Input k kept) entry
      → IsNextLine b.accepted.program b.accepted.cert.jitter b.plan b.position line → line ≡ line_of b.accepted.program entry
  input_line new k kept entry logs next =
      let given = subst (IsStated b.accepted.program b.plan b.position) (input_event next) next.2.stated in
      let stated = subst (IsStated b.accepted.program b.plan b.position) logs.event_is logs.flies.stated in
      let one = next_one b.position.at.time topic k value kept b.position.inputs given.0 stated.0 given.1 stated.1 in
      next.4 ∙ one_line b new (Input k kept) entry next.0 next.1 logs next.2 (input_event next ∙ one)
