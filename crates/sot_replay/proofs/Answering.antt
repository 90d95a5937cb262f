-- What a replay answers.
use Rattle.std.proofs.Common.{suc, ◌≡◌, ◌∙◌, ⊎_elim, ℕ, ◌+◌, List, [], ◌∷◌, ◌++◌, length, map, take, drop, sym, ap, subst, arith, append_assoc, append-nil}
use Rattle.std.proofs.Common.{take-append-drop}
use Rattle.std.proofs.lemmas.List.{length-append}
use Rattle.std.proofs.lemmas.Option.{none-some}
use Rattle.sot_lists.specs.Places.{At}
use Rattle.sot_lists.proofs.Places.{at_below}
use Rattle.sot_board.specs.Standing.{Standing, IsStanding}
use Rattle.sot_trace.specs.Lines.{line_of}
use Rattle.sot_trace.specs.Words.{AreWords}
use Rattle.sot_replay.specs.GoesOn.{AreHandedOver, IsTraceOf}
use Rattle.sot_replay.specs.Replays.{opening_lines, Tell, IsRefusedAt, MatchFail}
use Rattle.sot_replay.specs.Openings.{IsOpeningRefused}
use Rattle.sot_replay.specs.Follows.{HasEnded}
use Rattle.sot_replay.specs.declared.fail.LineKind.{LineKind}
use Rattle.sot_replay.specs.declared.fail.LineKind.TheVariants.{Ended}
use Rattle.sot_replay.specs.declared.fail.ReplayFail.{ReplayFail}
use Rattle.sot_replay.specs.declared.fail.ReplayFail.TheVariants.{NotSafer, Line, Memory}
use Rattle.sot_replay.proofs.Refusals.{refused_in_opening, opening_refused_as_short, refused_behind_end}

module _ (b : Standing) (stands : IsStanding b) (none : b.entries ≡ []) where
  -- at the start the header and the start lines tell what happened
  pub opening_tells : Tell b.accepted.program b.accepted.cert.jitter b.plan (opening_lines b.accepted.program b.plan) b.entries b.position
  opening_tells =
      let p = b.accepted.program in (
        stands.flown,
        subst (AreHandedOver b.plan) (sym none) (λ i time node index draft enabled at crew k z there. absurd (none-some _ at)),
        sym (append-nil (opening_lines p b.plan)) ∙ ap (λ es. opening_lines p b.plan ++ map (line_of p) es) (sym none),
      )

  -- lines that stop or go astray within them
  pub opening_refused : (lines : List (List ℕ)) (at place : ℕ) (kind : LineKind) → at ≡ 1 + place → IsOpeningRefused b.accepted.program b.plan lines place kind
      → IsRefusedAt b.accepted.program b.accepted.cert.jitter b.plan lines at kind
  opening_refused lines at place kind numbered refused =
      let p = b.accepted.program in
      let j = b.accepted.cert.jitter in
      let opening = opening_lines p b.plan in
      let whole : lines ≡ take place opening ++ drop place lines = sym (take-append-drop place lines) ∙ ap (λ l. l ++ drop place lines) refused.front in
      let number : at ≡ suc place = omega (arith, numbered) in
      let expected = at_below opening place refused.inside in
      subst (λ n. IsRefusedAt p j b.plan lines n kind) (sym number) (
      ⊎_elim
      (λ (none, is). subst (IsRefusedAt p j b.plan lines (suc place)) (sym is)
      (opening_refused_as_short b stands opening opening_tells place lines (omega (arith, refused.inside))
      (whole ∙ ap (λ l. take place opening ++ l) none ∙ append-nil _)))
      (λ (line, more, is, other, why).
      refused_in_opening b stands opening opening_tells place lines expected.0 line more kind expected.1 (whole ∙ ap (λ l. take place opening ++ l) is)
      refused.inside (λ same. other (subst (At opening place) (sym same) expected.1)) why)
      refused.why)

-- where all lines are followed to the end, they are the trace, and where there is one more it stands behind the end
module _ (b new : Standing) (stands : IsStanding b) (none : b.entries ≡ []) (lines to_come : List (List ℕ))
    (opened : lines ≡ opening_lines b.accepted.program b.plan ++ to_come) (number : ℕ)
    (numbered : number ≡ 1 + length (opening_lines b.accepted.program b.plan)) (left : List (List ℕ)) (next : ℕ)
    (ended : HasEnded b new to_come number left next) where
  all_lines : lines ≡ (opening_lines b.accepted.program b.plan ++ ended.told) ++ left
  all_lines =
      opened ∙ ap (λ l. opening_lines b.accepted.program b.plan ++ l) ended.followed.is
      ∙ sym (append_assoc (opening_lines b.accepted.program b.plan) ended.told left)

  trace : IsTraceOf b.accepted.program b.accepted.cert.jitter b.plan (opening_lines b.accepted.program b.plan ++ ended.told) new.entries
  trace = ended.traces (opening_lines b.accepted.program b.plan) (opening_tells b stands none)

  pub all_is_trace : left ≡ [] → IsTraceOf b.accepted.program b.accepted.cert.jitter b.plan lines new.entries
  all_is_trace empty =
      subst (λ l. IsTraceOf b.accepted.program b.accepted.cert.jitter b.plan l new.entries)
      (sym (append-nil _) ∙ ap (λ l. (opening_lines b.accepted.program b.plan ++ ended.told) ++ l) (sym empty) ∙ sym all_lines) trace

  pub more_is_refused : AreWords b.accepted.program → (line : List ℕ) (more : List (List ℕ)) → left ≡ line ∷ more
      → IsRefusedAt b.accepted.program b.accepted.cert.jitter b.plan lines next Ended
  more_is_refused words line more is =
      let front = opening_lines b.accepted.program b.plan ++ ended.told in
      let number_is : next ≡ suc (length front) = omega (
        arith,
        ended.followed.next_is,
        numbered,
        length-append (opening_lines b.accepted.program b.plan) ended.told,
      ) in
      refused_behind_end b.accepted.program b.accepted.cert.jitter b.plan lines front line more new.entries next stands.kept.rules words
      (all_lines ∙ ap (λ l. front ++ l) is) number_is trace

-- what a failed replay tells, told in other words
pub fail_map : (f : ReplayFail) (L M : ℕ → LineKind → Type 0) → ((n : ℕ) (k : LineKind) → L n k → M n k) → MatchFail f (λ m. ⊥) L → MatchFail f (λ m. ⊥) M
fail_map (NotSafer m) L M change told = told
fail_map (Line n k) L M change told = change n k told
fail_map Memory L M change told = tt
