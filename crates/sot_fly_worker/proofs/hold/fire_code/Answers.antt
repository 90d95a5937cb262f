use Rattle.std.proofs.Common.{◌≡◌, ◌∙◌, ◌∷◌, ◌++◌, [], Some, sym, ap, ap₂, subst}
use Rattle.sot_turn.specs.Prefixes.{IsPrefix, behind}
use Rattle.sot_turn.specs.Passes.{pass_ground, pass_seen, pass_added, held_value}
use Rattle.sot_board.specs.Versions.{drafts_of}
use Rattle.sot_board.specs.Views.{viewed_node}
use Rattle.sot_board.specs.Commits.{IsRunOn}
use Rattle.sot_world.specs.NodeSorts.{IsCodedNode}
use Rattle.sot_ordered_board.specs.Turns.{FiresNext}
use Rattle.sot_fly_worker.specs.Holds.{HasNode, HasFired}
use Rattle.sot_fly_worker.proofs.Firing.{has_fired, noted, same_program, taken_from}
use Rattle.sot_fly_worker.proofs.hold.fire_code.Goals as goal

pub run-fired-requires-clause-due : goal.run-fired-requires-clause-due
run-fired-requires-clause-due g c = (let seen = c.requires.seen in (seen.0.board, seen.1, seen.0.due))

pub take_next-held-requires-clause-there : goal.take_next-held-requires-clause-there
take_next-held-requires-clause-there g c = subst (HasNode (pass_ground c.args.pass)) (sym c.node.ensures) c.requires.there

pub take_next-held-requires-clause-drafts : goal.take_next-held-requires-clause-drafts
take_next-held-requires-clause-drafts g c = c.requires.drafts ∙ ap (λ n. drafts_of n (pass_seen c.args.pass)) (sym c.node.ensures)

pub commit_run-follower-requires-clause-next : goal.commit_run-follower-requires-clause-next
commit_run-follower-requires-clause-next g c =
    subst (λ b. FiresNext b (viewed_node c.args.view)) (sym c.lend.ensures.value)
    (subst (FiresNext (held_value c.take_next-held.result)) c.node.ensures c.take_next-held.ensures.next)

pub commit_run-follower-requires-clause-coded : goal.commit_run-follower-requires-clause-coded
commit_run-follower-requires-clause-coded g c =
    let b = c.lend.result.now in
    let seen = c.requires.seen in
    let ground = c.take_next-held.ensures.ground_now ∙ ap (λ x. Some (x.accepted, x.plan)) (sym c.lend.ensures.value) in
    subst (λ t. IsCodedNode t (viewed_node c.args.view)) (seen.1 ∙ same_program (pass_ground c.args.pass) seen.0.board b seen.0.ground_is ground)
    c.requires.coded

pub commit_run-follower-requires-clause-taken : goal.commit_run-follower-requires-clause-taken
commit_run-follower-requires-clause-taken g c =
    let b = c.lend.result.now in
    let known = pass_seen c.args.pass in
    let value = c.lend.ensures.value in
    let ground = c.take_next-held.ensures.ground_now ∙ ap (λ x. Some (x.accepted, x.plan)) (sym value) in
    taken_from (pass_ground c.args.pass) known (viewed_node c.args.view) c.args.view b c.requires.seen.0 ground
    (subst (λ x. IsPrefix known x.entries) (sym value) c.take_next-held.ensures.goes_on)

pub commit_run-follower-requires-clause-ran : goal.commit_run-follower-requires-clause-ran
commit_run-follower-requires-clause-ran g c =
    let b = c.lend.result.now in
    let seen = c.requires.seen in
    let ground = c.take_next-held.ensures.ground_now ∙ ap (λ x. Some (x.accepted, x.plan)) (sym c.lend.ensures.value) in
    subst (λ t. IsRunOn t c.args.view c.run-fired.result) (seen.1 ∙ same_program (pass_ground c.args.pass) seen.0.board b seen.0.ground_is ground)
    c.run-fired.ensures

pub commit_run-follower-requires-clause-drafts : goal.commit_run-follower-requires-clause-drafts
commit_run-follower-requires-clause-drafts g c =
    ap (λ x. drafts_of (viewed_node c.args.view) x.entries) c.lend.ensures.value
    ∙ ap (λ k. drafts_of k (held_value c.take_next-held.result).entries) (sym c.node.ensures) ∙ c.take_next-held.ensures.in_step

pub commit_run-follower-requires-clause-room : goal.commit_run-follower-requires-clause-room
commit_run-follower-requires-clause-room g c =
    let b = c.lend.result.now in
    c.requires.room b.accepted b.plan (c.take_next-held.ensures.ground_now ∙ ap (λ x. Some (x.accepted, x.plan)) (sym c.lend.ensures.value))

pub returns-clause-fired : goal.returns-clause-fired
returns-clause-fired g c =
    let n = viewed_node c.args.view in
    let b = c.lend.result.now in
    let known = pass_seen c.args.pass in
    let value = c.lend.ensures.value in
    let draft = c.commit_run-follower.ensures.notes.draft in
    let on : IsPrefix known b.entries = subst (λ x. IsPrefix known x.entries) (sym value) c.take_next-held.ensures.goes_on in
    let step : drafts_of n b.entries ≡ drafts_of n known = ap (λ x. drafts_of n x.entries) value
    ∙ ap (λ k. drafts_of k (held_value c.take_next-held.result).entries) (sym c.node.ensures) ∙ c.take_next-held.ensures.in_step
    ∙ c.requires.drafts in
    let gave : pass_added c.give-pass.result ≡ pass_added c.args.pass ++ behind b.entries c.commit_run-follower.new.board.entries =
    c.give-pass.ensures.added ∙ ap₂ (λ l es. l ++ behind es c.commit_run-follower.new.board.entries) c.take_next-held.ensures.added
    (c.take_next-held.ensures.seen ∙ ap (λ x. x.entries) (sym value)) in (
      draft,
      subst (λ es. HasFired n draft known es (pass_added c.args.pass) (pass_added c.give-pass.result)) (sym c.give-pass.ensures.seen)
          (has_fired known b c.commit_run-follower.new.board n draft (pass_added c.args.pass) (pass_added c.give-pass.result) on step
          c.commit_run-follower.ensures.notes.appends gave),
    )

pub returns-clause-drafts : goal.returns-clause-drafts
returns-clause-drafts g c =
    let n = viewed_node c.args.view in
    let b = c.lend.result.now in
    let draft = c.commit_run-follower.ensures.notes.draft in
    let was = ap (λ x. drafts_of n x.entries) c.lend.ensures.value ∙ ap (λ k. drafts_of k (held_value c.take_next-held.result).entries) (sym c.node.ensures)
    ∙ c.take_next-held.ensures.in_step in
    let now = noted b c.commit_run-follower.new.board n draft c.commit_run-follower.ensures.notes.appends in
    c.commit_run-follower.ensures.notes.noted ∙ ap (λ l. l ++ draft ∷ []) (sym was) ∙ sym now ∙ ap (drafts_of n) (sym c.give-pass.ensures.seen)
