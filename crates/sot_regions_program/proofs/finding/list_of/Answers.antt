use Rattle.std.proofs.Common.{length, arith}
use Rattle.sot_regions_program.proofs.Boxes.{settled_list}
use Rattle.sot_regions_program.proofs.finding.list_of.Goals as goal

pub returns-in_ok-settle-in-Some : goal.returns-in_ok-settle-in-Some
returns-in_ok-settle-in-Some c =
    settled_list c.in_ok-region_of.field-0 c.in-Some.region c.settle.new.self c.args.width c.args.most (length c.args.boxes.now) c.in_ok-region_of.ensures
    c.in-Some.is c.settle.ensures.boxes c.settle.ensures.width c.in_ok-settle-in-Some.ensures.ok (omega (arith, c.if-boxes-eq0.false))
    (omega (arith, c.if-most-boxes.false))
