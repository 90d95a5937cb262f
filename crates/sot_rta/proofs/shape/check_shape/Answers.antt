use Rattle.std.proofs.Common.{sym, ◌∙◌, subst}
use Rattle.std.proofs.lemmas.Option.{same_Some}
use Rattle.sot_tube.specs.Verdict.{shape}
use Rattle.sot_rta.specs.Refused.{Answers}
use Rattle.sot_rta.proofs.shape.check_shape.Goals as goal

pub returns : goal.returns
returns c a at =
    subst (λ x. Answers (shape c.args.p.now c.args.c.now c.args.module x) c.shape_of.result) (same_Some _ a (sym c.module_at.ensures.is ∙ at))
    c.shape_of.ensures
