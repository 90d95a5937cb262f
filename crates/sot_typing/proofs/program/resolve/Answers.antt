-- Of `resolve`: what its calls ask for, and its promises.
use Rattle.std.proofs.Common.{◌≡◌, sym, subst}
use Rattle.std.specs.Prelude.{IfOk, IfErr}
use Rattle.sot_syntax_tree.specs.Formed.{IsFormed}
use Rattle.sot_rules.specs.declared.fault.TypeFault.{TypeFault}
use Rattle.sot_rules.specs.declared.fault.TypeFail.TheVariants.{Fault}
use Rattle.sot_rules.specs.First.{IsFirstFault, IsFaultless}
use Rattle.sot_typing.specs.Resolved.{AreTables}
use Rattle.sot_typing.proofs.program.resolve.Goals as goal

pub indexed-made-requires-clause-formed : goal.indexed-made-requires-clause-formed
indexed-made-requires-clause-formed c = subst IsFormed (sym c.in_ok-index.ensures.program) c.requires.formed

pub returns-clause-faultless : goal.returns-clause-faultless
returns-clause-faultless c = subst (λ z. IfOk c.indexed-made.result (λ t. IsFaultless z)) c.in_ok-index.ensures.program c.indexed-made.ensures.faultless

pub returns-clause-tables : goal.returns-clause-tables
returns-clause-tables c = subst (λ z. IfOk c.indexed-made.result (λ t. AreTables z t)) c.in_ok-index.ensures.program c.indexed-made.ensures.tables

pub returns-clause-fault : goal.returns-clause-fault
returns-clause-fault c =
    subst (λ z. IfErr c.indexed-made.result (λ e. (f : TypeFault) → e ≡ Fault f → IsFirstFault z f)) c.in_ok-index.ensures.program c.indexed-made.ensures.fault
