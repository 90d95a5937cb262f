use Rattle.std.proofs.Common.{◌≡◌, ◌∙◌, ◌∷◌, ◌++◌, [], Some, sym, ap, ap₂, subst}
use Rattle.sot_turn.specs.Prefixes.{IsPrefix, behind}
use Rattle.sot_turn.specs.Passes.{pass_seen, pass_added}
use Rattle.sot_board.specs.Versions.{drafts_of}
use Rattle.sot_ordered_board.specs.Turns.{FiresNext}
use Rattle.sot_fly_worker.specs.Holds.{HasFired}
use Rattle.sot_fly_worker.proofs.Firing.{has_fired, noted}
use Rattle.sot_fly_worker.proofs.hold.fire_stated.Goals as goal

pub commit_stated-follower-requires-clause-next : goal.commit_stated-follower-requires-clause-next
commit_stated-follower-requires-clause-next g c = subst (λ b. FiresNext b c.args.node) (sym c.lend.ensures.value) c.take_next-held.ensures.next

pub commit_stated-follower-requires-clause-external : goal.commit_stated-follower-requires-clause-external
commit_stated-follower-requires-clause-external g c =
    let b = c.lend.result.now in
    c.requires.external b.accepted b.plan (c.take_next-held.ensures.ground_now ∙ ap (λ x. Some (x.accepted, x.plan)) (sym c.lend.ensures.value))

pub commit_stated-follower-requires-clause-drafts : goal.commit_stated-follower-requires-clause-drafts
commit_stated-follower-requires-clause-drafts g c =
    ap (λ x. drafts_of c.args.node x.entries) c.lend.ensures.value ∙ c.take_next-held.ensures.in_step

pub commit_stated-follower-requires-clause-room : goal.commit_stated-follower-requires-clause-room
commit_stated-follower-requires-clause-room g c =
    let b = c.lend.result.now in
    c.requires.room b.accepted b.plan (c.take_next-held.ensures.ground_now ∙ ap (λ x. Some (x.accepted, x.plan)) (sym c.lend.ensures.value))

pub returns-clause-fired : goal.returns-clause-fired
returns-clause-fired g c =
    let n = c.args.node in
    let b = c.lend.result.now in
    let known = pass_seen c.args.pass in
    let value = c.lend.ensures.value in
    let draft = c.commit_stated-follower.ensures.notes.draft in
    let on : IsPrefix known b.entries = subst (λ x. IsPrefix known x.entries) (sym value) c.take_next-held.ensures.goes_on in
    let step : drafts_of n b.entries ≡ drafts_of n known = ap (λ x. drafts_of n x.entries) value ∙ c.take_next-held.ensures.in_step ∙ c.requires.drafts in
    let gave : pass_added c.give-pass.result ≡ pass_added c.args.pass ++ behind b.entries c.commit_stated-follower.new.board.entries =
    c.give-pass.ensures.added ∙ ap₂ (λ l es. l ++ behind es c.commit_stated-follower.new.board.entries) c.take_next-held.ensures.added
    (c.take_next-held.ensures.seen ∙ ap (λ x. x.entries) (sym value)) in (
      draft,
      subst (λ es. HasFired n draft known es (pass_added c.args.pass) (pass_added c.give-pass.result)) (sym c.give-pass.ensures.seen)
          (has_fired known b c.commit_stated-follower.new.board n draft (pass_added c.args.pass) (pass_added c.give-pass.result) on step
          c.commit_stated-follower.ensures.notes.appends gave),
    )

pub returns-clause-drafts : goal.returns-clause-drafts
returns-clause-drafts g c =
    let n = c.args.node in
    let b = c.lend.result.now in
    let draft = c.commit_stated-follower.ensures.notes.draft in
    let was = ap (λ x. drafts_of n x.entries) c.lend.ensures.value ∙ c.take_next-held.ensures.in_step in
    let now = noted b c.commit_stated-follower.new.board n draft c.commit_stated-follower.ensures.notes.appends in
    c.commit_stated-follower.ensures.notes.noted ∙ ap (λ l. l ++ draft ∷ []) (sym was) ∙ sym now ∙ ap (drafts_of n) (sym c.give-pass.ensures.seen)
