use Rattle.std.proofs.Common.{◌≡◌, subst}
use Rattle.sot_world.specs.declared.answers.KeepsAnswer.TheVariants.{Given}
use Rattle.sot_world.proofs.answers.told.Goals as goal

pub returns-then-is_same : goal.returns-then-is_same
returns-then-is_same c =
    subst (λ p. c.args.answer.now ≡ Given c.in-Given.kept c.args.module p) (c.is_same.ensures c.if-is_same.true)
    (subst (λ m. c.args.answer.now ≡ Given c.in-Given.kept m c.in-Given.point) c.if-asked-module.true c.in-Given.is)
