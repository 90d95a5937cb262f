use Rattle.std.proofs.Common.{◌≡◌, length, arith}
use Rattle.sot_certified_text.specs.CertText.{side_data}
use Rattle.sot_certified_text.proofs.Items.{one_more, whole}
use Rattle.sot_certified_text.proofs.value.cell_value.Goals as goal

pub loop-i-preserved : goal.loop-i-preserved
loop-i-preserved c =
    one_more side_data c.args.cell.now c.loop-i.i c.side.result c.loop-i.sides.items c.push.new.self.items c.in_ok-side.side c.side.ensures c.loop-i.invariant
    c.in_ok-side.ensures c.in_ok-push.ensures.items

pub returns : goal.returns
returns c =
    let all : c.len-i-end.result ≡ length c.args.cell.now = c.len-i-end.ensures.value in
    whole side_data c.args.cell.now c.loop-i.sides c.loop-i.i (omega (arith, all, c.loop-i-test.false)) c.loop-i.invariant
