-- A view that is current is one of now in all that its node's code sees.
use Rattle.std.proofs.Common.{◌≡◌, true, Result, Ok, refl, sym, ap, ap₂, ◌∙◌}
use Rattle.sot_lang.specs.Ranges.{local_ranges, write_ranges}
use Rattle.sot_lang.specs.declared.trap.Trap.{Trap}
use Rattle.sot_lang.specs.Bodies as bodies
use Rattle.sot_code.specs.declared.fired.Fired.{Fired}
use Rattle.sot_code.specs.Recorded.{in_slots, recorded}
use Rattle.sot_world.specs.Configurations.{is_left, locals_of}
use Rattle.sot_world.specs.Changes.{IsRun}
use Rattle.sot_board.specs.declared.view.View.{View}
use Rattle.sot_board.specs.Standing.{Standing, IsStanding}
use Rattle.sot_board.specs.Views.{viewed_node, viewed_entries}
use Rattle.sot_board.specs.Commits.{IsTakenFrom, IsCurrent, IsRunOn}
use Rattle.sot_board.proofs.Between.{same_reading}

fired_is : (fired given : Fired) (f : bodies.Fired) → given ≡ record { locals = f.locals; draft = in_slots f.draft }
    → ◌≡◌ {A = Result Fired Trap} (Ok fired) (Ok given) → (fired.locals ≡ f.locals) × (fired.draft ≡ in_slots f.draft)
fired_is fired given f is e =
    (let same : fired ≡ given = cc in (ap (λ x. x.locals) same ∙ ap (λ x. x.locals) is, ap (λ x. x.draft) same ∙ ap (λ x. x.draft) is))

pub run_now :
    (b : Standing) → IsStanding b → (v : View) (fired : Fired) → IsTakenFrom b v → IsCurrent b v → is_left b.position.at (viewed_node v) ≡ true
    → IsRunOn b.accepted.program v fired
    → IsRun b.accepted.program (viewed_node v) b.position.at.scalars b.position.at.points (locals_of b.position.at (viewed_node v)) fired
run_now b is v fired (P, front, view) current left ran node acts f at coded runs =
    let p = b.accepted.program in
    let n = viewed_node v in
    let same = same_reading p b.accepted.cert.jitter b.plan (viewed_entries v) b.entries P b.position n node is.kept.rules.typed front is.flown
    (sym view.time ∙ current.0) (sym (view.versions node at) ∙ current.1 node at) left in
    let numbers = view.numbers node at ∙ same.0 in
    let locals = view.locals ∙ same.1 in
    let ends = ran node acts at coded ∙ ap₂ (λ s l. recorded (bodies.execution acts (local_ranges node) (write_ranges p node) s l)) numbers locals
    ∙ ap recorded runs in
    fired_is fired (record { locals = f.locals; draft = in_slots f.draft }) f refl ends
