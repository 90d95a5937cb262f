use Rattle.std.proofs.Common.{sym, refl, ◌∙◌, arith}
use Rattle.std.proofs.lemmas.Bool.{false≢true}
use Rattle.std.proofs.lemmas.Option.{slice_get_within}
use Rattle.sot_lists.proofs.Places.{at_below}
use Rattle.sot_recover.proofs.CellTubes.{account}
use Rattle.sot_recover.proofs.Grounds.{widths, hull_width, is_closed, from_each, none_lands, hull_lands, lands_hull}
use Rattle.sot_recover.proofs.ground.lands_in_set.Goals as goal

pub returns-then-i-len : goal.returns-then-i-len
returns-then-i-len c = (
  λ t. absurd (false≢true t),
  λ l. absurd (none_lands c.args.p.now c.args.cert.now c.args.«module» c.args.cells.now c.args.hulls.now c.requires
      c.args.set.now c.args.i (let a = c.if-i-len.true in let n = c.len.ensures in omega (arith, a, n)) l),
)

pub near_cells-requires : goal.near_cells-requires
near_cells-requires c =
    widths c.args.p.now c.args.cert.now c.args.«module» c.args.cells.now c.args.hulls.now c.requires c.args.i c.at-hull.result c.at-hull.ensures

pub covers-requires : goal.covers-requires
covers-requires c = sym c.in_ok-near.ensures.width

pub returns-then-covers : goal.returns-then-covers
returns-then-covers c =
    let hull_there = slice_get_within c.args.hulls.now c.args.i c.at-hull.result c.at-hull.ensures in
    let cell = at_below c.args.cells.now c.args.i (let n = c.requires.count in omega (arith, hull_there, n)) in (
      λ t. hull_lands c.args.p.now c.args.cert.now c.args.«module» c.args.cells.now c.args.hulls.now c.requires c.args.set.now c.args.i cell.0 c.at-hull.result
          cell.1 c.at-hull.ensures c.in_ok-near.near.boxes c.in_ok-near.ensures.near (c.if-covers.ensures.0 refl),
      λ l. refl,
    )

pub returns-then-cert-eq0 : goal.returns-then-cert-eq0
returns-then-cert-eq0 c =
    let hull_there = slice_get_within c.args.hulls.now c.args.i c.at-hull.result c.at-hull.ensures in
    let cell = at_below c.args.cells.now c.args.i (let n = c.requires.count in omega (arith, hull_there, n)) in (
      λ t. absurd (false≢true t),
      λ l. absurd (false≢true (c.if-covers.ensures.1
          (lands_hull c.args.p.now c.args.cert.now c.args.«module» c.args.cells.now c.args.hulls.now c.requires c.args.set.now c.args.i cell.0 c.at-hull.result
          cell.1 c.at-hull.ensures c.in_ok-near.near.boxes c.in_ok-near.ensures.near
          (account c.args.p.now c.args.cert.now c.args.«module» c.requires.rules c.requires.certified c.requires.fits c.requires.module_is) c.if-cert-eq0.true
          l))),
    )

pub each_lands-requires-clause-closed : goal.each_lands-requires-clause-closed
each_lands-requires-clause-closed c =
    is_closed c.args.p.now c.args.cert.now c.args.«module» c.args.cells.now c.args.hulls.now c.requires c.args.i c.at.result c.at.ensures

pub each_lands-requires-clause-width : goal.each_lands-requires-clause-width
each_lands-requires-clause-width c =
    c.in_ok-near.ensures.width ∙ hull_width c.args.p.now c.args.cert.now c.args.«module» c.args.cells.now c.args.hulls.now c.requires c.args.i c.at.result
    c.at-hull.result c.at.ensures c.at-hull.ensures

pub returns : goal.returns
returns c =
    from_each c.args.p.now c.args.cert.now c.args.«module» c.args.cells.now c.args.hulls.now c.requires c.args.set.now c.args.i c.at.result c.at-hull.result
    c.at.ensures c.at-hull.ensures c.in_ok-near.near.boxes c.in_ok-near.ensures.near c.in_ok-lands.lands c.in_ok-lands.ensures
