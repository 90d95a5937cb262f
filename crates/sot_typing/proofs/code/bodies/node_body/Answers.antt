-- Of `node_body`: what its calls ask for.
use Rattle.sot_rules.specs.Indexes.{program_in}
use Rattle.sot_typing.proofs.OwnerFaults.{statements_faultless}
use Rattle.sot_typing.proofs.code.bodies.node_body.Goals as goal

pub coded_body-requires-clause-faultless : goal.coded_body-requires-clause-faultless
coded_body-requires-clause-faultless c =
    statements_faultless (program_in c.args.index.now) c.args.n.now c.in-Some.stmts c.in-Some.is c.requires.faultless _ c.deref.ensures.value
