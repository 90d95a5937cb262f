-- Of `variable_sort`: that its loop keeps what it says, and its promises.
use Rattle.std.proofs.Common.{◌∙◌, Some, ap, refl}
use Rattle.sot_rules.specs.Names.{state_part}
use Rattle.sot_names.proofs.FewNames.{tested}
use Rattle.sot_rules.proofs.FewNames.{part_next, part_here, no_part}
use Rattle.sot_rules.proofs.names.scope.variable_sort.Goals as goal

pub loop-s-preserved : goal.loop-s-preserved
loop-s-preserved c =
    part_next state_part c.args.name.now c.args.states.now c.loop-s.s-index c.s-item.result c.loop-s-test.true c.s-item.is
    (tested _ _ _ _ _ _ c.eq.ensures refl c.as_bytes.ensures c.if-eq.false)
    ∙ c.loop-s.invariant

pub returns-then-eq : goal.returns-then-eq
returns-then-eq c =
    ap Some c.state_sort.ensures
    ∙ part_here state_part c.args.name.now c.args.states.now c.loop-s.s-index c.s-item.result c.loop-s-test.true c.s-item.is
    (tested _ _ _ _ _ _ c.eq.ensures refl c.as_bytes.ensures c.if-eq.true)
    ∙ c.loop-s.invariant

pub returns : goal.returns
returns c = no_part state_part c.args.name.now c.args.states.now c.loop-s.s-index c.loop-s-test.false ∙ c.loop-s.invariant
