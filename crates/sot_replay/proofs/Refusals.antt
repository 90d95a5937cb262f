-- Lines are refused, case by case.
use Rattle.std.proofs.Common.{◌≡◌, ◌≢◌, ℕ, suc, ◌<◌, ◌≤◌, ◌⊎◌, ⊎_elim, inl, inr, List, [], ◌∷◌, ◌++◌, length, take, refl, sym, ap, ◌∙◌, arith, append-nil}
use Rattle.std.proofs.lemmas.List.{length-take-le}
use Rattle.sot_lists.specs.Places.{At}
use Rattle.sot_lang.specs.Tables.{Tables}
use Rattle.sot_lang.specs.TableRules.{MeetsTableRules}
use Rattle.sot_world.specs.HistoryEntry.{Logged}
use Rattle.sot_flight.specs.Plans.{Plan}
use Rattle.sot_board.specs.Standing.{Standing, IsStanding}
use Rattle.sot_trace.specs.Words.{AreWords}
use Rattle.sot_replay.specs.GoesOn.{IsTraceOf, GoesOn}
use Rattle.sot_replay.specs.Tests.{IsFirstFailing}
use Rattle.sot_replay.specs.Replays.{opening_lines, Tell, RefusesStart, RefusesLine, IsRefusedAt}
use Rattle.sot_replay.specs.declared.fail.LineKind.{LineKind}
use Rattle.sot_replay.specs.declared.fail.LineKind.TheVariants.{NotALine, Ended, Missing}
use Rattle.sot_replay.proofs.LinesGoOn.{told_goes_on, opening_goes_on, told_is_short, failing_stops, other_opening, opening_is_short, behind_the_end}

module _ (p : Tables) (j : ℕ) (f : Plan) (lines front : List (List ℕ)) (number : ℕ) (counted : number ≡ suc (length front)) (goes : GoesOn p j f front) where
  -- at a line
  at_line : (line : List ℕ) (more : List (List ℕ)) (kind : LineKind) → lines ≡ front ++ line ∷ more → (GoesOn p j f (front ++ line ∷ []) → ⊥)
      → RefusesLine p j f front line kind → IsRefusedAt p j f lines number kind
  at_line line more kind is stops why =
      record { front = front; rest = line ∷ more; is = is; counted = counted; goes_on = goes; why = inr (line, more, refl, stops, why) }

  -- behind the last line
  at_stop : lines ≡ front → ((entries : List Logged) → IsTraceOf p j f front entries → ⊥) → IsRefusedAt p j f lines number Missing
  at_stop is none = record { front = front; rest = []; is = is ∙ sym (append-nil front); counted = counted; goes_on = goes; why = inl (refl, refl, none) }

-- behind lines that tell the history so far of a flight
module _ (b : Standing) (is : IsStanding b) (front : List (List ℕ)) (tell : Tell b.accepted.program b.accepted.cert.jitter b.plan front b.entries b.position)
  where
    -- a test fails
    pub refused_by_test :
        (lines : List (List ℕ)) (line : List ℕ) (more : List (List ℕ)) (number : ℕ) (kind : LineKind) → AreWords b.accepted.program
        → lines ≡ front ++ line ∷ more
        → number ≡ suc (length front)
        → IsFirstFailing b.accepted.program b.accepted.cert.jitter b.plan b.entries b.position line kind
        → IsRefusedAt b.accepted.program b.accepted.cert.jitter b.plan lines number kind
    refused_by_test lines line more number kind words lines_are counted failing =
        at_line b.accepted.program b.accepted.cert.jitter b.plan lines front number counted (told_goes_on b is front tell) line more kind lines_are
        (failing_stops b is front tell words line kind failing) (inr (inr (inl (b.entries, b.position, tell, failing))))

    -- no line is left
    pub refused_as_short : (lines : List (List ℕ)) (number : ℕ) → lines ≡ front → number ≡ suc (length front)
        → IsRefusedAt b.accepted.program b.accepted.cert.jitter b.plan lines number Missing
    refused_as_short lines number lines_are counted =
        at_stop b.accepted.program b.accepted.cert.jitter b.plan lines front number counted (told_goes_on b is front tell) lines_are
        (λ hs trace. told_is_short b is front tell hs trace)

    -- within the opening: another line, and no line
    pub refused_in_opening :
        (n : ℕ) (lines : List (List ℕ)) (expected line : List ℕ) (more : List (List ℕ)) (kind : LineKind)
        → At (opening_lines b.accepted.program b.plan) n expected
        → lines ≡ take n (opening_lines b.accepted.program b.plan) ++ line ∷ more → n < length (opening_lines b.accepted.program b.plan) → (line ≡ expected → ⊥)
        → ((n ≡ 0) × (kind ≡ NotALine)) ⊎ ((n ≢ 0) × RefusesStart b.accepted.program line kind)
        → IsRefusedAt b.accepted.program b.accepted.cert.jitter b.plan lines (suc n) kind
    refused_in_opening n lines expected line more kind at lines_are inside other why =
        let p = b.accepted.program in
        let opening = opening_lines p b.plan in
        let size : length (take n opening) ≡ n = length-take-le n opening (omega (arith, inside)) in
        at_line p b.accepted.cert.jitter b.plan lines (take n opening) (suc n) (ap suc (sym size)) (opening_goes_on b is front tell n) line more kind lines_are
        (other_opening p b.accepted.cert.jitter b.plan n expected line at other)
        (⊎_elim
        (λ (none, is_kind). inl (ap (λ k. take k opening) none, is_kind))
        (λ (some, start). inr (inl ((λ empty. some (sym size ∙ ap length empty)), omega (arith, size, inside), start)))
        why)

    pub opening_refused_as_short : (n : ℕ) (lines : List (List ℕ)) → n ≤ length (opening_lines b.accepted.program b.plan)
        → lines ≡ take n (opening_lines b.accepted.program b.plan) → IsRefusedAt b.accepted.program b.accepted.cert.jitter b.plan lines (suc n) Missing
    opening_refused_as_short n lines inside lines_are =
        let p = b.accepted.program in
        let opening = opening_lines p b.plan in
        at_stop p b.accepted.cert.jitter b.plan lines (take n opening) (suc n) (ap suc (sym (length-take-le n opening inside)))
        (opening_goes_on b is front tell n) lines_are (λ hs trace. opening_is_short p b.accepted.cert.jitter b.plan n hs trace)

-- a line behind the end
pub refused_behind_end :
    (p : Tables) (j : ℕ) (f : Plan) (lines front : List (List ℕ)) (line : List ℕ) (more : List (List ℕ)) (entries : List Logged) (number : ℕ)
    → MeetsTableRules p → AreWords p → lines ≡ front ++ line ∷ more
    → number ≡ suc (length front) → IsTraceOf p j f front entries → IsRefusedAt p j f lines number Ended
refused_behind_end p j f lines front line more entries number rules words lines_are counted trace =
    at_line p j f lines front number counted (entries, [], trace.0, sym trace.1 ∙ sym (append-nil front)) line more Ended lines_are
    (behind_the_end p j f front entries line rules words trace) (inr (inr (inr (entries, trace, refl))))
