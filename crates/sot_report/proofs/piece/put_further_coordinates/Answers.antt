use Rattle.std.proofs.Common.{◌++◌, ◌∙◌, ap, rules, w64, SFits}
use Rattle.std.proofs.lemmas.Int.{to_z-of_z}
use Rattle.std.specs.Fmt.{signed_decimal}
use Rattle.sot_report.proofs.Commas.{one_more}
use Rattle.sot_report.proofs.piece.put_further_coordinates.Goals as goal

pub loop-i-preserved : goal.loop-i-preserved
loop-i-preserved c =
    let fits : SFits w64 c.at.result = search rules in
    let more = c.in_ok-put_coordinate.ensures ∙ ap (λ z. c.put.new.text.items ++ signed_decimal z) (to_z-of_z w64 c.at.result fits) in
    one_more signed_decimal c.args.point.now c.loop-i.i c.at.result c.loop-i.text.items c.put.new.text.items c.put_coordinate.new.text.items c.at.ensures
    c.in_ok-put.ensures more
    ∙ c.loop-i.invariant
