use Rattle.std.proofs.Common.{arith, ◌∙◌}
use Rattle.sot_box.proofs.Hulls.{hull-start, hull-more}
use Rattle.sot_box.proofs.region.Region.hull.Goals as goal

pub loop-i-init : goal.loop-i-init
loop-i-init c = record {
  width = c.at-hull.ensures.width;
  hull = hull-start c.args.self.now.boxes c.at-hull.result c.at-hull.ensures.ordered c.at-hull.ensures.place;
}

pub loop-i-preserved : goal.loop-i-preserved
loop-i-preserved c = record {
  width = c.widen.ensures.width ∙ c.loop-i.invariant.width;
  hull = hull-more c.args.self.now.boxes c.loop-i.i c.loop-i.hull c.widen.new.self c.at-by.result c.at-by.ensures.ordered c.at-by.ensures.place
      (omega (arith, c.at-by.ensures.width, c.loop-i.invariant.width)) c.loop-i.invariant.hull c.widen.ensures;
}
