use Rattle.std.proofs.Common.{arith, inl, inr, refl}
use Rattle.sot_rta.proofs.Found.{sc_there, not_longer}
use Rattle.sot_rta.proofs.shape.periods.Goals as goal

pub returns-then-node_at-info : goal.returns-then-node_at-info
returns-then-node_at-info c = inl ((c.node_at.result.now, c.node_at.ensures.is, omega (arith, c.if-node_at-info.true)), refl)

pub node_at-requires-2 : goal.node_at-requires-2
node_at-requires-2 c = sc_there c.args.p.now c.requires.rules c.args.module c.args.info.now c.requires.is

pub returns-then-node_at-info-2 : goal.returns-then-node_at-info-2
returns-then-node_at-info-2 c =
    inr (
      not_longer c.args.p.now c.args.info.now c.args.info.now.ac c.node_at.result.now c.node_at.ensures.is (omega (arith, c.if-node_at-info.false)),
      (c.node_at-2.result.now, c.node_at-2.ensures.is, omega (arith, c.if-node_at-info-2.true)),
      refl,
    )
