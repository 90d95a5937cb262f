use Rattle.std.proofs.Common.{sym, ◌∙◌}
use Rattle.sot_lists.proofs.Places.{at_below}
use Rattle.sot_board.proofs.board.Board.is_current.Goals as goal

pub returns-then-view-now : goal.returns-then-view-now
returns-then-view-now c =
    let now = c.view-now.ensures in
    let same = c.has_versions_of.ensures in
    let info = at_below c.args.self.now.accepted.program.nodes c.args.view.now.node c.requires in (
      (λ on. (c.if-view-now.true ∙ now.time, (λ node at. same.0 on ∙ now.versions node at))),
      (λ current. same.1 (current.1 info.0 info.1 ∙ sym (now.versions info.0 info.1))),
    )
