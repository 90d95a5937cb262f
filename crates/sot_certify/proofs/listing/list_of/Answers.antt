use Rattle.std.proofs.Common.{◌≡◌, ◌<◌, [], ◌++◌, ◌-◌, take, ap, sym, ◌∙◌, subst}
use Rattle.std.specs.Prelude.{reverse}
use Rattle.sot_lang.specs.OwnerNames.{width_of}
use Rattle.sot_certify.proofs.Effort.{effort}
use Rattle.sot_certify.specs.Made.{IsGood, region_of}
use Rattle.sot_certify.proofs.Taking.{Stands, begins, next_width, goes_on, falls, region_widths, not_made, is_list}
use Rattle.sot_certify.proofs.listing.list_of.Goals as goal

pub loop-cell-init : goal.loop-cell-init
loop-cell-init c = record {
  width = c.none-cells.ensures.width ∙ c.width_of.ensures;
  stands =
      let good = IsGood c.args.p.now c.args.info.now c.args.reach in
      let all = (region_of c.args.info.now c.args.reach).boxes in
      let w = width_of c.args.p.now.plants c.args.info.now.plant in
      let same : c.in_ok-pending.pending.items ≡ reverse all = c.in_ok-pending.ensures.ok ∙ ap (λ r. reverse r.boxes) c.region_of-region.ensures in
      subst (λ l. Stands good all w l c.in_ok-pending.pending.items) (sym c.none-cells.ensures.empty)
      (begins good all w c.in_ok-pending.pending.items (region_widths c.args.p.now c.requires.rules c.args.«module» c.args.info.now c.requires.is c.args.reach)
      same);
}

pub take-requires-clause-width : goal.take-requires-clause-width
take-requires-clause-width c =
    let good = IsGood c.args.p.now c.args.info.now c.args.reach in
    let all = (region_of c.args.info.now c.args.reach).boxes in
    let w = width_of c.args.p.now.plants c.args.info.now.plant in
    next_width good all w c.loop-cell.cells.boxes c.pop.new.self.items c.in-Some.cell
    (subst (Stands good all w c.loop-cell.cells.boxes) c.in-Some.ensures.items c.loop-cell.invariant.stands)

pub loop-cell-smaller : goal.loop-cell-smaller
loop-cell-smaller c =
    let good = IsGood c.args.p.now c.args.info.now c.args.reach in
    let all = (region_of c.args.info.now c.args.reach).boxes in
    let w = width_of c.args.p.now.plants c.args.info.now.plant in
    let s = subst (Stands good all w c.loop-cell.cells.boxes) c.in-Some.ensures.items c.loop-cell.invariant.stands in
    subst (λ l. effort (reverse c.take.new.pending.items) < effort (reverse l)) (sym c.in-Some.ensures.items)
    (falls good all w c.loop-cell.cells.boxes c.pop.new.self.items c.in-Some.cell s c.take.new.pending.items c.take.new.cells.boxes
    c.in_default-take.ensures.ok)

pub loop-cell-preserved : goal.loop-cell-preserved
loop-cell-preserved c =
    let good = IsGood c.args.p.now c.args.info.now c.args.reach in
    let all = (region_of c.args.info.now c.args.reach).boxes in
    let w = width_of c.args.p.now.plants c.args.info.now.plant in
    let s = subst (Stands good all w c.loop-cell.cells.boxes) c.in-Some.ensures.items c.loop-cell.invariant.stands in
    record {
      width = c.in_default-take.ensures.region ∙ c.loop-cell.invariant.width;
      stands =
          goes_on good all w c.loop-cell.cells.boxes c.pop.new.self.items c.in-Some.cell s c.take.new.pending.items c.take.new.cells.boxes
          c.in_default-take.ensures.ordered c.in_default-take.ensures.ok (c.in_default-take.ensures.few s.few);
    }

pub returns-in-Err : goal.returns-in-Err
returns-in-Err c =
    let good = IsGood c.args.p.now c.args.info.now c.args.reach in
    let all = (region_of c.args.info.now c.args.reach).boxes in
    let w = width_of c.args.p.now.plants c.args.info.now.plant in
    let s = subst (Stands good all w c.loop-cell.cells.boxes) c.in-Some.ensures.items c.loop-cell.invariant.stands in
    not_made c.args.p.now c.args.info.now c.args.reach w c.loop-cell.cells.boxes c.pop.new.self.items c.in-Some.cell s c.in-Err.fail c.in-Err.ensures.fail

pub returns : goal.returns
returns c =
    let good = IsGood c.args.p.now c.args.info.now c.args.reach in
    let all = (region_of c.args.info.now c.args.reach).boxes in
    let w = width_of c.args.p.now.plants c.args.info.now.plant in
    let none : c.loop-cell.pending.items ≡ [] = c.in_default.ensures.items
    ∙ ap (λ l. l ++ []) (c.in_default.ensures.rest ∙ ap (λ n. take (n - 1) c.loop-cell.pending.items) c.in_default.ensures.cases.0) in
    is_list c.args.p.now c.args.info.now c.args.reach c.settle.new.self c.loop-cell.cells
    (subst (Stands good all w c.loop-cell.cells.boxes) none c.loop-cell.invariant.stands) c.loop-cell.invariant.width c.in_ok-settle.ensures.boxes
    c.in_ok-settle.ensures.width c.in_ok-settle.ensures.ok
