use Rattle.sot_regions_program.proofs.Own.{own_reads}
use Rattle.sot_regions_program.proofs.alone.is_alone.Goals as goal

pub returns-clause-no : goal.returns-clause-no
returns-clause-no c = λ a at alone.
    c.are_own.ensures.1
    (own_reads c.args.p.now c.args.«module» a c.module_at-info.result.now c.node_at.result.now c.deref.result.now at c.module_at-info.ensures.is
    c.node_at.ensures.is c.deref.ensures.value alone)
