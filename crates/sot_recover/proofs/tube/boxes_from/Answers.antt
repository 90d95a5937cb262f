use Rattle.std.proofs.Common.{◌-◌, arith, length, drop, length-drop}
use Rattle.std.proofs.lemmas.List.{take_all}
use Rattle.sot_recover.proofs.tube.boxes_from.Goals as goal

pub returns : goal.returns
returns c =
    (let l = length-drop c.args.first c.args.boxes.now in take_all (length c.args.boxes.now - c.args.first) (drop c.args.first c.args.boxes.now)
    (omega (arith, l)))
