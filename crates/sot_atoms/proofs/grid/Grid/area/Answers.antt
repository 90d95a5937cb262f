use Rattle.std.proofs.Common.{◌≡◌, ◌<◌, ◌≤◌, subst, ap, ◌∙◌, arith}
use Rattle.std.proofs.lemmas.List.{length-set}
use Rattle.sot_atoms.specs.Grids.{Cut, IsCut}
use Rattle.sot_atoms.proofs.Boxes.{numbers_more, area_of, matched}
use Rattle.sot_atoms.proofs.grid.Grid.area.Goals as goal

pub loop-side-preserved : goal.loop-side-preserved
loop-side-preserved c =
    let grid = c.args.self.now in
    let cut = subst (λ (g : Cut). IsCut g.width g.last g.axes) c.self.view_is c.self.invariant.cut in
    record {
      count = length-set _ _ _ ∙ c.loop-side.invariant.count;
      done =
          numbers_more grid cut c.args.block.now c.loop-side.sides c.loop-side.side c.numbers.result
          (let f = c.self.invariant.cut.few_sides in omega (arith, c.loop-side-test.true, c.loop-side.invariant.count, f)) c.loop-side.invariant.done
          c.numbers.ensures;
    }

pub returns-clause-numbers : goal.returns-clause-numbers
returns-clause-numbers c fits =
    let grid = c.args.self.now in
    let cut = subst (λ (g : Cut). IsCut g.width g.last g.axes) c.self.view_is c.self.invariant.cut in
    let width = ap (λ (g : Cut). g.width) c.self.view_is in
    area_of grid cut c.args.block.now c.loop-side.sides c.unwrap.result c.self.inside.width
    (matched c.of.result c.unwrap.result _ _ c.unwrap.ensures c.of.ensures)
    (λ j lt. c.loop-side.invariant.done j (omega (arith, lt, c.loop-side-test.false))) (omega (arith, width)) fits
