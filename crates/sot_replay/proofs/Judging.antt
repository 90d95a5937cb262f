-- Entries with which a flight goes on, and lines that are compared with theirs.
use Rattle.std.proofs.Common.{◌≡◌, ◌∙◌, ℕ, ◌-◌, Bool, true, false, List, [], ◌∷◌, ◌++◌, length, refl, sym, ap, subst, arith}
use Rattle.std.specs.Str.{bytes_eq}
use Rattle.std.proofs.lemmas.Bool.{false≢true}
use Rattle.std.proofs.lemmas.List.{length-append}
use Rattle.std.proofs.lemmas.Slice.Eq.{bytes_eq-Decides}
use Rattle.sot_lists.specs.Places.{At}
use Rattle.sot_lists.proofs.Places.{at_same}
use Rattle.sot_lists.proofs.ShortLists.{at_one}
use Rattle.sot_world.specs.Steps.{Event}
use Rattle.sot_world.specs.HistoryEntry.{Logged}
use Rattle.sot_board.specs.Standing.{Standing}
use Rattle.sot_board.specs.Flown.{Position, Flies}
use Rattle.sot_board.specs.Calls.{Logs}
use Rattle.sot_trace.specs.Lines.{line_of, end_line}
use Rattle.sot_replay.specs.declared.fail.LineKind.TheVariants.{Differs}
use Rattle.sot_replay.specs.declared.judged.Judged.{Judged}
use Rattle.sot_replay.specs.declared.judged.Judged.TheVariants.{Goes, Ends, Fails}
use Rattle.sot_replay.specs.GoesOn.{AreHandedOver}
use Rattle.sot_replay.specs.Tests.{IsFirstFailing}
use Rattle.sot_replay.specs.Judges.{IsJudged, IsCompared}
use Rattle.sot_replay.proofs.SameEntry.{entry_same}

pub same_one : {A : Type 0} (x : A) (i : ℕ) (y : A) → At (x ∷ []) i y → y ≡ x
same_one x i y at = at_one (λ n z. z ≡ x) x refl i y at

-- the last one
at_last : {A : Type 0} (front : List A) (x : A) → At (front ++ x ∷ []) (length front) x
at_last [] x = refl
at_last (y ∷ front) x = at_last front x

pub last_is : {A : Type 0} (xs front : List A) (x y : A) (n : ℕ) → xs ≡ front ++ x ∷ [] → n ≡ length xs → At xs (n - 1) y → y ≡ x
last_is xs front x y n is size at =
    let place : n - 1 ≡ length front = omega (arith, size, ap length is, length-append front (x ∷ [])) in
    at_same (front ++ x ∷ []) (length front) y x (subst (λ k. At (front ++ x ∷ []) k y) place (subst (λ l. At l (n - 1) y) is at)) (at_last front x)

-- what the comparison of a text with a line tells
pub same_text : (r : Bool) (text line : List ℕ) → r ≡ bytes_eq text line → r ≡ true → text ≡ line
same_text r text line is on = (bytes_eq-Decides text line).0 (sym is ∙ on)

pub other_text : (r : Bool) (text line : List ℕ) → r ≡ bytes_eq text line → r ≡ false → line ≡ text → ⊥
other_text r text line is off same = false≢true (sym off ∙ is ∙ (bytes_eq-Decides text line).1 (sym same))

-- last lines of the same counts are the same
pub end_counted : {ticks events refused ticks' events' refused' : ℕ} → ticks ≡ ticks' → events ≡ events' → refused ≡ refused'
    → end_line ticks events refused ≡ end_line ticks' events' refused'
end_counted a b c = rw (a, b, c) refl

-- of an event one line tells
pub one_line : (old new : Standing) (event : Event) (entry e : Logged) (Q : Position) → Logs old new event entry
    → (flies : Flies old.accepted.program old.accepted.cert.jitter old.plan old.position e Q) → flies.event ≡ event
    → line_of old.accepted.program e ≡ line_of old.accepted.program entry
one_line old new event entry e Q logs flies is =
    ap (line_of old.accepted.program) (entry_same old.accepted.program old.accepted.cert.jitter old.plan old.position e entry Q new.position flies logs.flies
    (is ∙ sym logs.event_is))

-- what is judged of a line that is compared with that of the entry of an event
pub judged :
    (old new : Standing) (event : Event) (entry : Logged) (line : List ℕ) (j : Judged) → Logs old new event entry → AreHandedOver old.plan (entry ∷ [])
    → IsCompared old.accepted.program entry line j
    → ((line ≡ line_of old.accepted.program entry → ⊥) → IsFirstFailing old.accepted.program old.accepted.cert.jitter old.plan old.entries old.position line
    Differs) → IsJudged old new line j
judged old new event entry line (Goes added) logs handed (is, adds) differs =
    record { entry = entry; flies = logs.flies; handed = handed; is = is; adds = adds; entries = logs.entries; accepted = logs.accepted; plan = logs.plan }
judged old new event entry line Ends logs handed is differs = absurd is
judged old new event entry line (Fails kind) logs handed (is, not) differs =
    subst (IsFirstFailing old.accepted.program old.accepted.cert.jitter old.plan old.entries old.position line) (sym is) (differs not)
