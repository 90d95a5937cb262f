use Rattle.std.proofs.Common.{◌<◌, length, sym, ap, ◌∙◌, subst, arith}
use Rattle.sot_lists.proofs.Places.{read_or}
use Rattle.sot_board.specs.Versions.{drafts_of}
use Rattle.sot_board.proofs.board.Board.fired.Goals as goal

pub returns : goal.returns
returns c =
    let b = c.self.inside in
    let has = c.self.invariant.has.standing in
    let lt = subst (λ s. c.args.node < length s.accepted.program.nodes) (sym c.self.view_is) c.requires in
    let read = read_or b.fired.items c.args.node c.index.result.now 0 (omega (arith, lt, has.fired_each)) c.index.ensures in
    read ∙ has.fired c.args.node lt ∙ ap (λ s. length (drafts_of c.args.node s.entries)) c.self.view_is
