use Rattle.std.proofs.Common.{arith}
use Rattle.sot_tube.proofs.VerdictExact.{composition_exact, shape_exact, code_exact, cells_exact, verdict_exact}
use Rattle.sot_tube.proofs.Acceptance.{certified_passes, passes_certified}
use Rattle.sot_tube.proofs.laws.verdicts_are_exact.Goals as goal

pub returns-clause-exact : goal.returns-clause-exact
returns-clause-exact c p jitter cert =
    (verdict_exact p jitter cert, composition_exact p, λ m a. (shape_exact p cert m a, cells_exact p jitter cert m a), code_exact p)

pub returns-clause-accepted : goal.returns-clause-accepted
returns-clause-accepted c p jitter cert typed nodes modules = (passes_certified p jitter cert typed nodes modules, certified_passes p jitter cert)

pub returns-clause-without_jitter : goal.returns-clause-without_jitter
returns-clause-without_jitter c p cert typed = (
  passes_certified p 0 cert typed (λ n node at. let h = typed.node_times n node at in omega arith)
      (λ m a at. let h = typed.module_times m a at in omega arith),
  certified_passes p 0 cert,
)
