use Rattle.std.proofs.Common.{◌≡◌, ◌<◌, ◌∷◌, ◌++◌, [], length, vec_capacity, sym, subst}
use Rattle.sot_board.specs.Versions.{drafts_of}
use Rattle.sot_board.specs.Views.{viewed_node}
use Rattle.sot_fly_worker.specs.Rooms.{HasRoomFor}
use Rattle.sot_fly_worker.proofs.Firing.{noted_there, noted_last, noted_room}
use Rattle.sot_fly_worker.proofs.hold.commit_run.Goals as goal

pub note_draft-requires-clause-there : goal.note_draft-requires-clause-there
note_draft-requires-clause-there c =
    let new = c.commit_or_fire-receipt.new.board in
    subst (λ n. n < length new.accepted.program.nodes) (sym c.node.ensures)
    (noted_there c.args.board.now new (viewed_node c.args.view) _ c.commit_or_fire-receipt.ensures c.requires.next.there)

pub note_draft-requires-clause-last : goal.note_draft-requires-clause-last
note_draft-requires-clause-last c =
    let new = c.commit_or_fire-receipt.new.board in
    let draft = c.commit_or_fire-receipt.result.draft in
    subst (λ n. drafts_of n new.entries ≡ c.args.drafts.now.items ++ draft ∷ []) (sym c.node.ensures)
    (noted_last c.args.board.now new (viewed_node c.args.view) draft c.args.drafts.now.items c.commit_or_fire-receipt.ensures c.requires.drafts)

pub note_draft-requires-clause-room : goal.note_draft-requires-clause-room
note_draft-requires-clause-room c =
    let new = c.commit_or_fire-receipt.new.board in
    subst (λ n. HasRoomFor new.accepted.program.nodes new.plan.horizon n (vec_capacity c.args.drafts.now)) (sym c.node.ensures)
    (noted_room c.args.board.now new (viewed_node c.args.view) _ _ c.commit_or_fire-receipt.ensures c.requires.room)

pub returns-clause-notes : goal.returns-clause-notes
returns-clause-notes c = record {
  draft = c.commit_or_fire-receipt.result.draft;
  appends = c.commit_or_fire-receipt.ensures;
  noted = c.note_draft.ensures.drafts;
}
