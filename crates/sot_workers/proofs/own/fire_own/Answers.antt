use Rattle.std.proofs.Common.{◌<◌, ◌∙◌, ◌∷◌, ◌++◌, [], length, refl, sym, ap, subst, arith}
use Rattle.std.proofs.lemmas.Option.{slice_get_read}
use Rattle.sot_workers.specs.declared.lists.NodeList.{NodeList}
use Rattle.sot_workers.specs.Flying.{IsMine}
use Rattle.sot_workers.proofs.Histories.{one_more}
use Rattle.sot_workers.proofs.ListFacts.{keeps_more}
use Rattle.sot_workers.proofs.Rooms.{room_same, room_set}
use Rattle.sot_workers.proofs.Turns.{turn_after}
use Rattle.sot_workers.proofs.own.fire_own.Goals as goal

pub note_draft-requires-clause-there : goal.note_draft-requires-clause-there
note_draft-requires-clause-there c = subst (λ a. c.args.node < length a.program.nodes) (sym c.fire-receipt.ensures.same.accepted) c.requires.there

pub note_draft-requires-clause-last : goal.note_draft-requires-clause-last
note_draft-requires-clause-last c =
    let k = c.args.node in
    let old = c.args.board.now in
    let lists = c.args.lists.now.items in
    let was = c.index_mut.result.now in
    let there : k < length lists = omega (arith, c.requires.lists.nodes.each, c.requires.there) in
    let at = slice_get_read lists (length lists) k was refl there c.index_mut.ensures.value in
    let draft = c.fire-receipt.result.draft in
    one_more old.position.at.time k old.entries c.fire-receipt.new.board.entries draft c.fire-receipt.ensures.entries
    ∙ ap (λ l. l ++ draft ∷ []) (sym (c.requires.lists.drafts k was at c.requires.mine))

pub note_draft-requires-clause-room : goal.note_draft-requires-clause-room
note_draft-requires-clause-room c =
    let k = c.args.node in
    let away = c.args.away.now in
    let lists = c.args.lists.now.items in
    let was = c.index_mut.result.now in
    let there : k < length lists = omega (arith, c.requires.lists.nodes.each, c.requires.there) in
    let at = slice_get_read lists (length lists) k was refl there c.index_mut.ensures.value in
    let same = c.fire-receipt.ensures.same in
    room_same c.args.board.now c.fire-receipt.new.board away lists same c.requires.room k was at (subst (λ f. IsMine f away k) (sym same.plan) c.requires.mine)

pub returns-clause-behind : goal.returns-clause-behind
returns-clause-behind c =
    let did = c.fire-receipt.ensures in
    turn_after c.args.board.now c.fire-receipt.new.board c.args.node did.same did.inputs did.left_dm did.left c.requires.turn

pub returns-clause-lists : goal.returns-clause-lists
returns-clause-lists c =
    let k = c.args.node in
    let old = c.args.board.now in
    let lists = c.args.lists.now.items in
    let was = c.index_mut.result.now in
    let there : k < length lists = omega (arith, c.requires.lists.nodes.each, c.requires.there) in
    let at = slice_get_read lists (length lists) k was refl there c.index_mut.ensures.value in
    let now : NodeList = record { node = was.node; drafts = c.note_draft.new.drafts } in
    keeps_more old.position.at.time old c.fire-receipt.new.board c.args.away.now lists k c.fire-receipt.result.draft was now c.requires.lists
    c.fire-receipt.ensures.same c.fire-receipt.ensures.entries c.requires.mine at refl c.note_draft.ensures.drafts

pub returns-clause-room : goal.returns-clause-room
returns-clause-room c =
    let k = c.args.node in
    let old = c.args.board.now in
    let away = c.args.away.now in
    let lists = c.args.lists.now.items in
    let was = c.index_mut.result.now in
    let there : k < length lists = omega (arith, c.requires.lists.nodes.each, c.requires.there) in
    let at = slice_get_read lists (length lists) k was refl there c.index_mut.ensures.value in
    let now : NodeList = record { node = was.node; drafts = c.note_draft.new.drafts } in
    room_same old c.fire-receipt.new.board away _ c.fire-receipt.ensures.same
    (room_set old.accepted.program.nodes old.plan.horizon (IsMine old.plan away) lists k was now at c.note_draft.ensures.room c.requires.room)
