use Rattle.std.proofs.Common.{◌<◌, Some, refl, sym, ap, ◌∙◌, arith, length}
use Rattle.std.proofs.lemmas.Option.{same_Some, none-some}
use Rattle.sot_lists.proofs.Places.{at_same, read_at}
use Rattle.sot_lang.specs.declared.cert.Cells.{Cells}
use Rattle.sot_recover.proofs.CellTubes.{account}
use Rattle.sot_recover.proofs.within.closed_cells.Goals as goal

pub unreachable-requires : goal.unreachable-requires
unreachable-requires c =
    let g = account c.args.p.now c.args.cert.now c.args.«module» c.requires.rules c.requires.certified c.requires.fits c.requires.module_is in
    let items = c.args.cert.now.modules.items in
    let lt : c.args.«module» < length items = (let a = c.requires.module_is in let b = c.requires.fits.entries in omega (arith, a, b)) in
    let same = at_same items c.args.«module» c.index.result.now (Some g.cells) (read_at items items c.args.«module» c.index.result.now refl lt c.index.ensures)
    g.cells_are in
    none-some g.cells (sym c.in-None.is ∙ same)

pub returns : goal.returns
returns c g =
    let items = c.args.cert.now.modules.items in
    let lt : c.args.«module» < length items = (let a = c.requires.module_is in let b = c.requires.fits.entries in omega (arith, a, b)) in
    let same = at_same items c.args.«module» c.index.result.now (Some g.cells) (read_at items items c.args.«module» c.index.result.now refl lt c.index.ensures)
    g.cells_are in
    ap (λ (x : Cells). x.closed) (same_Some c.in-Some.cells g.cells (sym c.in-Some.is ∙ same))
