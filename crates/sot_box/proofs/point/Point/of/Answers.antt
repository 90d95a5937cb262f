use Rattle.std.proofs.Common.{w64, SFits, rules, get_or, pos}
use Rattle.std.proofs.lemmas.Int.{to_z-of_z}
use Rattle.sot_box.proofs.Slots.{list_of_one}
use Rattle.sot_box.proofs.point.Point.of.Goals as goal

pub returns-then-width-eq1 : goal.returns-then-width-eq1
returns-then-width-eq1 c =
    let number = get_or c.args.at.now 0 (pos 0) in
    let fits : SFits w64 number = search rules in
    rw (to_z-of_z w64 number fits) (list_of_one c.args.at.now c.if-width-eq1.true)
