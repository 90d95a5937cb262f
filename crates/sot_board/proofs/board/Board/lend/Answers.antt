use Rattle.std.proofs.Common.{◌≡◌, ◌<◌, length, map, sym, ap, ◌∙◌, subst}
use Rattle.sot_lists.specs.Places.{At}
use Rattle.sot_lists.proofs.Places.{at_same, read_at}
use Rattle.sot_lang.specs.declared.tables.NodeInfo.{NodeInfo}
use Rattle.sot_lang.specs.Readings.{number_at, reading}
use Rattle.sot_world.proofs.FiringSteps.{reads_there}
use Rattle.sot_board.proofs.board.Board.lend.Goals as goal

pub of-requires-clause-there : goal.of-requires-clause-there
of-requires-clause-there c = λ i slot at_i.
    let b = c.self.inside in
    let lt = subst (λ s. c.args.node < length s.accepted.program.nodes) (sym c.self.view_is) c.requires in
    let info = read_at _ _ c.args.node _ (ap (λ t. t.nodes) (c.p.view_is ∙ c.typed-p.ensures)) lt c.index.ensures in
    reads_there b.world.accepted b.world.at c.self.invariant.has.standing.kept c.args.node c.index.result.now info i slot
    (subst (λ l. At l i slot) c.deref.ensures.value at_i)

pub returns : goal.returns
returns c =
    let b = c.self.inside in
    let lt = subst (λ s. c.args.node < length s.accepted.program.nodes) (sym c.self.view_is) c.requires in
    let info = read_at _ _ c.args.node _ (ap (λ t. t.nodes) (c.p.view_is ∙ c.typed-p.ensures)) lt c.index.ensures in
    let numbers = c.of.ensures ∙ ap (map (number_at b.world.at.scalars b.world.at.points)) c.deref.ensures.value in
    subst (λ s. (node : NodeInfo) → At s.accepted.program.nodes c.args.node node → c.of.result ≡ reading node s.position.at.scalars s.position.at.points)
    c.self.view_is
    (λ node at. numbers ∙ ap (λ (x : NodeInfo). map (number_at b.world.at.scalars b.world.at.points) x.reads.items)
    (at_same b.world.accepted.program.nodes c.args.node c.index.result.now node info at))
