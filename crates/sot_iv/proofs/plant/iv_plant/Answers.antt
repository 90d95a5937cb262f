use Rattle.std.proofs.Common.{subst}
use Rattle.sot_iv.specs.TermIntervals.{AreTermIntervals}
use Rattle.sot_iv.proofs.plant.iv_plant.Goals as goal

pub iv_plant_over-requires : goal.iv_plant_over-requires
iv_plant_over-requires c = record {
  box = c.args.b.now;
  held = c.args.held.now;
  seen = c.args.seen.now;
  may = c.requires;
  are = c.put_plant_ranges.ensures;
}

pub returns : goal.returns
returns c plant at =
    subst (λ l. AreTermIntervals plant.next.items l c.iv_plant_over.result) (c.put_plant_ranges.ensures plant at) (c.iv_plant_over.ensures plant at)
