use Rattle.std.proofs.Common.{◌∷◌, [], ap, length, arith}
use Rattle.std.proofs.lemmas.List.{length-append}
use Rattle.sot_fly_worker.proofs.Rooms.{room_for_all}
use Rattle.sot_fly_worker.proofs.note.note_draft.Goals as goal

pub push_reserved-requires : goal.push_reserved-requires
push_reserved-requires c =
    let b = c.args.board.now in
    let all = room_for_all b c.reveal_invariant.ensures c.args.node _ c.requires.there c.requires.room in
    let sizes = length-append c.args.drafts.now.items (c.args.draft ∷ []) in
    omega (arith, all, ap length c.requires.last, sizes, c.args.drafts.now.ok.0)
