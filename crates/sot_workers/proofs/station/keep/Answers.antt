use Rattle.std.proofs.Common.{◌∙◌, ⊎_elim, ap, sym}
use Rattle.std.specs.Prelude.{vec_capacity}
use Rattle.sot_workers.proofs.station.keep.Goals.{then-shift, else-shift}
use Rattle.sot_workers.proofs.station.keep.Goals as goal

pub stay-requires-clause-none : goal.stay-requires-clause-none
stay-requires-clause-none g c =
    let w = c.requires.worked in
    elim c.if-shift.branch [
      | then-shift t ↦ absurd t.stop.ensures
      | else-shift e ↦ ⊎_elim (λ same. ap (λ s. s.drafts.items) same ∙ w.2) (λ yes. let no = sym yes ∙ e.if-shift.false in absurd cc) w.1.ended
    ]

pub returns-clause-station : goal.returns-clause-station
returns-clause-station g c = λ lock began ready worked. c.stay.ensures.station lock began (worked.on_shift.lock ∙ ready.lock_is)

pub returns-clause-room : goal.returns-clause-room
returns-clause-room g c = λ began list worked at.
    let here = c.stay.ensures.room list at in
    elim c.if-shift.branch [
      | then-shift t ↦ absurd t.stop.ensures
      | else-shift e ↦ ⊎_elim (λ same. ap vec_capacity here ∙ ap (λ s. vec_capacity s.drafts) same) (λ yes. let no = sym yes ∙ e.if-shift.false in absurd cc) worked.ended
    ]
