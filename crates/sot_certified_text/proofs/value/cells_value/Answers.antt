use Rattle.std.proofs.Common.{◌≡◌, length, arith}
use Rattle.sot_certified_text.specs.CertText.{cell_data}
use Rattle.sot_certified_text.proofs.Items.{one_more, whole}
use Rattle.sot_certified_text.proofs.value.cells_value.Goals as goal

pub loop-i-preserved : goal.loop-i-preserved
loop-i-preserved c =
    one_more cell_data c.args.cells.now.boxes c.loop-i.i c.at.result c.loop-i.values.items c.push.new.self.items c.in_ok-cell.cell c.at.ensures.place
    c.loop-i.invariant c.in_ok-cell.ensures c.in_ok-push.ensures.items

pub returns : goal.returns
returns c =
    let all : c.len-i-end.result ≡ length c.args.cells.now.boxes = c.len-i-end.ensures in
    whole cell_data c.args.cells.now.boxes c.loop-i.values c.loop-i.i (omega (arith, all, c.loop-i-test.false)) c.loop-i.invariant
