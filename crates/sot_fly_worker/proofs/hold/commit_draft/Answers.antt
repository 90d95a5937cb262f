use Rattle.sot_fly_worker.proofs.Firing.{appends, guest_draft, noted_there, noted_last, noted_room}
use Rattle.sot_fly_worker.proofs.hold.commit_draft.Goals as goal

pub note_draft-requires-clause-there : goal.note_draft-requires-clause-there
note_draft-requires-clause-there g c = noted_there c.args.board.now c.commit_guest-receipt.new.self c.args.node _ (appends c.args.board.now c.commit_guest-receipt.new.self c.args.node _ c.commit_guest-receipt.result c.commit_guest-receipt.ensures) c.requires.there

pub note_draft-requires-clause-last : goal.note_draft-requires-clause-last
note_draft-requires-clause-last g c = noted_last c.args.board.now c.commit_guest-receipt.new.self c.args.node _ _ (appends c.args.board.now c.commit_guest-receipt.new.self c.args.node _ c.commit_guest-receipt.result c.commit_guest-receipt.ensures) c.requires.drafts

pub note_draft-requires-clause-room : goal.note_draft-requires-clause-room
note_draft-requires-clause-room g c = noted_room c.args.board.now c.commit_guest-receipt.new.self c.args.node _ _ (appends c.args.board.now c.commit_guest-receipt.new.self c.args.node _ c.commit_guest-receipt.result c.commit_guest-receipt.ensures) c.requires.room

pub returns-clause-notes : goal.returns-clause-notes
returns-clause-notes g c = (
  record { draft = c.commit_guest-receipt.result.draft; appends = (appends c.args.board.now c.commit_guest-receipt.new.self c.args.node _ c.commit_guest-receipt.result c.commit_guest-receipt.ensures); noted = c.note_draft.ensures.drafts },
  guest_draft c.args.board.now c.commit_guest-receipt.new.self c.args.node _ c.commit_guest-receipt.result c.commit_guest-receipt.ensures,
)
