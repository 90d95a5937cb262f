use Rattle.std.proofs.Common.{◌≡◌, ◌∙◌}
use Rattle.sot_regions_program.proofs.Boxes.{own_list}
use Rattle.sot_regions_program.proofs.finding.finding_of.Goals as goal

pub returns : goal.returns
returns c =
    let width : c.len-width.result ≡ c.args.given.now.safe.width = c.len-width.ensures.value ∙ c.at.ensures.width in
    let own = c.args.given.now.safe.width in
    record {
      inside = c.is_inside.ensures c.if-not-is_inside.false;
      safe = own_list c.in_ok-safe.field-0 c.in-Some.safe c.len-width.result own 256 c.in_ok-safe.ensures c.in-Some.is width;
      safer = own_list c.in_ok-safer.field-0 c.in-Some-2.safer c.len-width.result own 256 c.in_ok-safer.ensures c.in-Some-2.is width;
      closed = own_list c.in_ok-closed.field-0 c.in-Some-3.closed c.len-width.result own 4096 c.in_ok-closed.ensures c.in-Some-3.is width;
      reach = own_list c.in_ok-reach.field-0 c.in-Some-4.reach c.len-width.result own 4096 c.in_ok-reach.ensures c.in-Some-4.is width;
    }
