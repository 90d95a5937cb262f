-- What a robot says from the first line on.
use Rattle.std.proofs.Common.{◌≡◌, ℕ, [], Ok, inl, inr, refl, sym, ◌∙◌, subst}
use Rattle.sot_lang.specs.Tables.{Tables}
use Rattle.sot_tube.specs.Admitted.{Admitted}
use Rattle.sot_tube.specs.Certified.{IsWellCertified}
use Rattle.sot_trace_lines.specs.LentLines.{lent_lines}
use Rattle.sot_guard_protocol.specs.Openings.{Starting}
use Rattle.sot_guard_program.specs.declared.halt.Halt.{Halt}
use Rattle.sot_guard_program.specs.Moments.{Ears, Mouth, Ended}
use Rattle.sot_guard_program.specs.Says.{SaysRobot}
use Rattle.sot_guard_program.specs.Hearing.{AnswersFirsts, HaltsFirsts}
use Rattle.sot_guard_program.specs.Tellings.{TellsStop}
use Rattle.sot_guard_program.specs.Beginning.{SaysIn, SaysFrom, SaysOpened}
use Rattle.sot_guard_program.proofs.Answering.{starts_same}
use Rattle.sot_guard_program.proofs.Opened.{unopened_so, stopped_first, opened}
use Rattle.sot_guard_program.proofs.Results.{silent}

-- there is no memory to hear anything
pub silent_first : (time : ℕ) (acc : Admitted) (e : Ears) (x : Mouth) → Ended (SaysIn (SaysRobot time acc)) e e x x 6
silent_first time acc e x =
    silent (SaysIn (SaysRobot time acc)) e x
    (inr (inr (inr (inr (inl refl, (refl, refl))))))

module _ (time : ℕ) (acc : Admitted) (a : Starting) (same : a.accepted ≡ acc) (none : a.starts ≡ []) where
  -- a line does not say where the next plant is observed, and that is told
  pub conversed_in_part : (e f : Ears) (x y : Mouth) (status : ℕ) (halt : Halt) → HaltsFirsts a e f halt → TellsStop halt.stop halt.line x y status
      → Ended (SaysIn (SaysRobot time acc)) e f x y status
  conversed_in_part e f x y status halt h =
      stopped_first time acc e f x y status halt (subst (λ (s : Starting). HaltsFirsts s e f halt) (unopened_so a acc same none) h)

  module _ (b : Starting) (e m : Ears) (answers : AnswersFirsts a b e m (Ok tt)) where
    pub conversed : (f : Ears) (x y : Mouth) (status : ℕ) → Ended (SaysFrom m.ended (SaysOpened time b)) m f x y status
        → Ended (SaysIn (SaysRobot time acc)) e f x y status
    conversed f x y status =
        let of_none = subst (λ (s : Starting). AnswersFirsts s b e m (Ok tt)) (unopened_so a acc same none) answers in
        opened time acc e f x y status b m of_none.0 of_none.1

    pub accepted_same : b.accepted ≡ acc
    accepted_same = starts_same a b (lent_lines answers.0.passed) answers.0.starts ∙ same

    pub still_certified : (p : Tables) → p ≡ acc.program → IsWellCertified acc.program acc.cert.jitter acc.cert
        → IsWellCertified p b.accepted.cert.jitter b.accepted.cert
    still_certified p program certified =
        subst (λ (q : Tables). IsWellCertified q b.accepted.cert.jitter b.accepted.cert) (sym program)
        (subst (λ (y : Admitted). IsWellCertified acc.program y.cert.jitter y.cert) (sym accepted_same) certified)
