use Rattle.std.proofs.Common.{◌∙◌}
use Rattle.sot_report.specs.Pieces.{side_text}
use Rattle.sot_report.proofs.Commas.{one_more}
use Rattle.sot_report.proofs.piece.put_further_sides.Goals as goal

pub loop-i-preserved : goal.loop-i-preserved
loop-i-preserved c =
    one_more side_text c.args.area.now c.loop-i.i _ c.loop-i.text.items c.put.new.text.items c.put_side.new.text.items c.side.ensures c.in_ok-put.ensures
    c.in_ok-put_side.ensures
    ∙ c.loop-i.invariant
