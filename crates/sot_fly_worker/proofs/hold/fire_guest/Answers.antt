use Rattle.std.proofs.Common.{◌≡◌, ◌∙◌, ◌∷◌, ◌++◌, [], Some, take, sym, ap, ap₂, subst}
use Rattle.std.proofs.lemmas.Option.{same_Some}
use Rattle.sot_code.specs.Recorded.{in_slots}
use Rattle.sot_world.specs.Events.{slot_count}
use Rattle.sot_tube.specs.Admitted.{Admitted}
use Rattle.sot_flight.specs.Plans.{Plan}
use Rattle.sot_turn.specs.Prefixes.{IsPrefix, behind}
use Rattle.sot_turn.specs.Passes.{pass_ground, pass_seen, pass_added}
use Rattle.sot_board.specs.Versions.{drafts_of}
use Rattle.sot_fly_worker.specs.Holds.{HasFired}
use Rattle.sot_fly_worker.proofs.Firing.{has_fired, noted, node_there}
use Rattle.sot_fly_worker.proofs.hold.fire_guest.Goals as goal

pub commit_draft-requires-clause-there : goal.commit_draft-requires-clause-there
commit_draft-requires-clause-there g c =
    let b = c.lend.result.now in
    node_there (pass_ground c.args.pass) c.args.node b c.requires.there
    (c.take_in_step-held.ensures.ground_now ∙ ap (λ x. Some (x.accepted, x.plan)) (sym c.lend.ensures.value))

pub commit_draft-requires-clause-guest : goal.commit_draft-requires-clause-guest
commit_draft-requires-clause-guest g c =
    let b = c.lend.result.now in
    c.requires.guest b.accepted b.plan (c.take_in_step-held.ensures.ground_now ∙ ap (λ x. Some (x.accepted, x.plan)) (sym c.lend.ensures.value))

pub commit_draft-requires-clause-drafts : goal.commit_draft-requires-clause-drafts
commit_draft-requires-clause-drafts g c =
    ap (λ x. drafts_of c.args.node x.entries) c.lend.ensures.value ∙ c.take_in_step-held.ensures.in_step

pub commit_draft-requires-clause-room : goal.commit_draft-requires-clause-room
commit_draft-requires-clause-room g c =
    let b = c.lend.result.now in
    c.requires.room b.accepted b.plan (c.take_in_step-held.ensures.ground_now ∙ ap (λ x. Some (x.accepted, x.plan)) (sym c.lend.ensures.value))

pub returns-clause-fired : goal.returns-clause-fired
returns-clause-fired g c = λ a f known_ground.
    let n = c.args.node in
    let b = c.lend.result.now in
    let known = pass_seen c.args.pass in
    let value = c.lend.ensures.value in
    let draft = c.commit_draft.ensures.notes.0.draft in
    let on : IsPrefix known b.entries = subst (λ x. IsPrefix known x.entries) (sym value) c.take_in_step-held.ensures.goes_on in
    let step : drafts_of n b.entries ≡ drafts_of n known = ap (λ x. drafts_of n x.entries) value ∙ c.take_in_step-held.ensures.in_step ∙ c.requires.drafts in
    let ground = c.take_in_step-held.ensures.ground_now ∙ ap (λ x. Some (x.accepted, x.plan)) (sym value) in
    let same = same_Some (b.accepted, b.plan) (a, f) (sym ground ∙ known_ground) in
    let is = c.commit_draft.ensures.notes.1 ∙ ap (λ (x : Admitted × Plan). in_slots (take (slot_count x.0.program n) c.args.draft)) same in
    let gave : pass_added c.give.result ≡ pass_added c.args.pass ++ behind b.entries c.commit_draft.new.board.entries =
    c.give.ensures.added ∙ ap₂ (λ l es. l ++ behind es c.commit_draft.new.board.entries) c.take_in_step-held.ensures.added
    (c.take_in_step-held.ensures.seen ∙ ap (λ x. x.entries) (sym value)) in
    subst (λ d. HasFired n d known (pass_seen c.give.result) (pass_added c.args.pass) (pass_added c.give.result)) is
    (subst (λ es. HasFired n draft known es (pass_added c.args.pass) (pass_added c.give.result)) (sym c.give.ensures.seen)
    (has_fired known b c.commit_draft.new.board n draft (pass_added c.args.pass) (pass_added c.give.result) on step
    c.commit_draft.ensures.notes.0.appends gave))

pub returns-clause-drafts : goal.returns-clause-drafts
returns-clause-drafts g c =
    let n = c.args.node in
    let b = c.lend.result.now in
    let draft = c.commit_draft.ensures.notes.0.draft in
    let was = ap (λ x. drafts_of n x.entries) c.lend.ensures.value ∙ c.take_in_step-held.ensures.in_step in
    let now = noted b c.commit_draft.new.board n draft c.commit_draft.ensures.notes.0.appends in
    c.commit_draft.ensures.notes.0.noted ∙ ap (λ l. l ++ draft ∷ []) (sym was) ∙ sym now ∙ ap (drafts_of n) (sym c.give.ensures.seen)
