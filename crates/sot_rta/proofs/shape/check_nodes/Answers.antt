use Rattle.std.proofs.Common.{sym, ◌∙◌, subst}
use Rattle.std.proofs.lemmas.Option.{same_Some}
use Rattle.sot_tube.specs.Checks.{and_then}
use Rattle.sot_tube.specs.Verdict.{periods, outputs}
use Rattle.sot_rta.specs.Refused.{Answers}
use Rattle.sot_rta.proofs.shape.check_nodes.Goals as goal

pub returns : goal.returns
returns c a at =
    subst (λ x. Answers (and_then (periods c.args.p.now c.args.module x) (outputs c.args.p.now c.args.module x)) c.nodes_of.result)
    (same_Some _ a (sym c.module_at.ensures.is ∙ at))
    c.nodes_of.ensures
