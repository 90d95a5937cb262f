-- Of `field_sort`: that its loop keeps what it says, and its promises.
use Rattle.std.proofs.Common.{◌∙◌, Some, ap, refl}
use Rattle.sot_rules.specs.Names.{field_part}
use Rattle.sot_names.proofs.FewNames.{tested}
use Rattle.sot_rules.proofs.FewNames.{part_next, part_here, no_part}
use Rattle.sot_rules.proofs.names.scope.field_sort.Goals as goal

pub loop-f-preserved : goal.loop-f-preserved
loop-f-preserved c =
    part_next field_part c.args.name.now c.args.fields.now c.loop-f.f-index c.f-item.result c.loop-f-test.true c.f-item.is
    (tested _ _ _ _ _ _ c.eq.ensures refl c.as_bytes.ensures c.if-eq.false)
    ∙ c.loop-f.invariant

pub returns-then-eq : goal.returns-then-eq
returns-then-eq c =
    ap Some c.scalar_sort.ensures
    ∙ part_here field_part c.args.name.now c.args.fields.now c.loop-f.f-index c.f-item.result c.loop-f-test.true c.f-item.is
    (tested _ _ _ _ _ _ c.eq.ensures refl c.as_bytes.ensures c.if-eq.true)
    ∙ c.loop-f.invariant

pub returns : goal.returns
returns c = no_part field_part c.args.name.now c.args.fields.now c.loop-f.f-index c.loop-f-test.false ∙ c.loop-f.invariant
