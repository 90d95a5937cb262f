use Rattle.std.proofs.Common.{◌+◌, sym, subst}
use Rattle.sot_certify.specs.Steps.{AreEntriesTo}
use Rattle.sot_certify.proofs.Entries.{more_entries, no_entries}
use Rattle.sot_certify.proofs.making.entries.Goals as goal

pub loop-module-preserved : goal.loop-module-preserved
loop-module-preserved c =
    subst (λ l. AreEntriesTo c.args.p.now l (c.loop-module.«module» + 1)) (sym c.in_ok-push-in-Ok.ensures.items)
    (more_entries c.args.p.now c.loop-module.found.items c.loop-module.«module» c.module_at.result.now c.module_at.ensures.is c.loop-module.invariant
    c.in-Ok.cells c.in-Ok.ensures)

pub returns-in-Err : goal.returns-in-Err
returns-in-Err c =
    no_entries c.args.p.now c.loop-module.found.items c.loop-module.«module» c.module_at.result.now c.module_at.ensures.is c.loop-module.invariant c.in-Err.fail
    c.in-Err.ensures
