use Rattle.sot_fly_worker.proofs.Firing.{appends, noted_there, noted_last, noted_room}
use Rattle.sot_fly_worker.proofs.hold.commit_stated.Goals as goal

pub note_draft-requires-clause-there : goal.note_draft-requires-clause-there
note_draft-requires-clause-there c = noted_there c.args.board.now c.commit_stated-receipt.new.self c.args.node _ (appends c.args.board.now c.commit_stated-receipt.new.self c.args.node _ c.commit_stated-receipt.result c.commit_stated-receipt.ensures.1) c.requires.next.there

pub note_draft-requires-clause-last : goal.note_draft-requires-clause-last
note_draft-requires-clause-last c = noted_last c.args.board.now c.commit_stated-receipt.new.self c.args.node _ _ (appends c.args.board.now c.commit_stated-receipt.new.self c.args.node _ c.commit_stated-receipt.result c.commit_stated-receipt.ensures.1) c.requires.drafts

pub note_draft-requires-clause-room : goal.note_draft-requires-clause-room
note_draft-requires-clause-room c = noted_room c.args.board.now c.commit_stated-receipt.new.self c.args.node _ _ (appends c.args.board.now c.commit_stated-receipt.new.self c.args.node _ c.commit_stated-receipt.result c.commit_stated-receipt.ensures.1) c.requires.room

pub returns-clause-notes : goal.returns-clause-notes
returns-clause-notes c = record { draft = c.commit_stated-receipt.result.draft; appends = (appends c.args.board.now c.commit_stated-receipt.new.self c.args.node _ c.commit_stated-receipt.result c.commit_stated-receipt.ensures.1); noted = c.note_draft.ensures.drafts }
