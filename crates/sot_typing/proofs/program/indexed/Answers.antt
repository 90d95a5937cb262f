-- Of `indexed`: its promises.
use Rattle.std.proofs.Common.{◌≡◌, ◌∙◌, Some, ap}
use Rattle.sot_rules.specs.declared.fault.TypeFault.{TypeFault}
use Rattle.sot_typing.proofs.program.indexed.Goals as goal

pub returns-in-Some-clause-fault : goal.returns-in-Some-clause-fault
returns-in-Some-clause-fault c =
    λ f e. (let same : c.in-Some.fault ≡ f = cc in c.in_ok-fault.ensures.first f (c.in-Some.is ∙ ap (λ (z : TypeFault). Some z) same))
