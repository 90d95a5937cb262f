use Rattle.std.proofs.Common.{None, Some, sym, ◌∙◌, subst}
use Rattle.std.proofs.lemmas.Option.{same_Some, none-some}
use Rattle.sot_lists.specs.Places.{At}
use Rattle.sot_tube.specs.Verdict.{cells_of}
use Rattle.sot_rta.specs.Refused.{Answers}
use Rattle.sot_rta.proofs.CellChecks.{entry_there, found_cells}
use Rattle.sot_rta.proofs.cells.check_cells.Goals as goal

pub cells_of-requires-clause-closed : goal.cells_of-requires-clause-closed
cells_of-requires-clause-closed g c κs within =
    let entry = subst (At c.args.c.now.modules.items c.args.«module») c.in-Some.is
    (entry_there c.args.p.now c.args.c.now c.requires.fits c.args.«module» _ c.requires.module_is c.index.ensures) in
    c.requires.fits.closed c.args.«module» c.module_at-info.result.now c.in-Some.cells c.module_at-info.ensures.is entry

pub cells_of-requires-clause-reach : goal.cells_of-requires-clause-reach
cells_of-requires-clause-reach g c κs within =
    let entry = subst (At c.args.c.now.modules.items c.args.«module») c.in-Some.is
    (entry_there c.args.p.now c.args.c.now c.requires.fits c.args.«module» _ c.requires.module_is c.index.ensures) in
    c.requires.fits.reach c.args.«module» c.module_at-info.result.now c.in-Some.cells c.module_at-info.ensures.is entry

pub returns-in-Some : goal.returns-in-Some
returns-in-Some g c a at =
    let entry = subst (At c.args.c.now.modules.items c.args.«module») c.in-Some.is
    (entry_there c.args.p.now c.args.c.now c.requires.fits c.args.«module» _ c.requires.module_is c.index.ensures) in
    subst (λ x. Answers (cells_of c.args.p.now c.args.c.now.jitter c.args.c.now c.args.«module» x) c.cells_of.result)
    (same_Some c.module_at-info.result.now a (sym c.module_at-info.ensures.is ∙ at))
    (found_cells c.args.p.now c.module_at-info.ensures.rules c.args.c.now.jitter c.args.c.now c.args.«module» c.module_at-info.result.now
    c.module_at-info.ensures.is c.in-Some.cells entry c.cells_of.result c.cells_of.ensures)

pub returns-in-None : goal.returns-in-None
returns-in-None g c a at plant plant_at sc sc_at acts coded cells has =
    let entry = subst (At c.args.c.now.modules.items c.args.«module») c.in-None.is
    (entry_there c.args.p.now c.args.c.now c.requires.fits c.args.«module» _ c.requires.module_is c.index.ensures) in
    absurd (none-some cells (same_Some None (Some cells) (sym entry ∙ has)))
