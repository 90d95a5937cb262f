use Rattle.std.proofs.Common.{◌++◌, sym, ap, ◌∙◌, subst}
use Rattle.std.specs.Prelude.{slice_index_or}
use Rattle.std.proofs.lemmas.Option.{get_or_from_slice_get}
use Rattle.sot_lists.specs.Places.{At}
use Rattle.sot_lists.proofs.Places.{at_below}
use Rattle.sot_recover.specs.Chosen.{chosen}
use Rattle.sot_recover.proofs.Chosen.{chosen_more, chosen_end}
use Rattle.sot_recover.proofs.least.chosen_cells.Goals as goal

pub loop-i-init : goal.loop-i-init
loop-i-init c = record { width = c.none-by.ensures.width; whole = ap (λ l. l ++ chosen c.args.cells.now c.args.ranks.now c.args.k) c.none-by.ensures.empty }

pub loop-i-preserved : goal.loop-i-preserved
loop-i-preserved c =
    let l = c.loop-i in
    let e = c.in_ok-push_where.ensures in
    let x = at_below c.args.ranks.now l.i c.loop-i-test.true in
    let here : At c.args.ranks.now l.i (slice_index_or c.args.ranks.now l.i 0) =
    subst (At c.args.ranks.now l.i) (sym (get_or_from_slice_get c.args.ranks.now l.i x.0 0 x.1)) x.1 in
    record {
      width = e.width ∙ l.invariant.width;
      whole =
          chosen_more c.args.cells.now c.args.ranks.now c.args.k l.i (slice_index_or c.args.ranks.now l.i 0) c.at.result l.by.boxes
          c.push_where.new.region.boxes (chosen c.args.cells.now c.args.ranks.now c.args.k) here c.at.ensures e.boxes l.invariant.whole;
    }

pub returns-clause-boxes : goal.returns-clause-boxes
returns-clause-boxes c =
    c.in_ok-settle.ensures.boxes ∙ chosen_end c.args.cells.now c.args.ranks.now c.args.k c.loop-i.i c.loop-i.by.boxes
    (chosen c.args.cells.now c.args.ranks.now c.args.k) c.loop-i-test.false c.loop-i.invariant.whole
