use Rattle.std.proofs.Common.{◌-◌, arith}
use Rattle.std.proofs.lemmas.Int.{ints}
use Rattle.sot_iv.proofs.Wide.{word}
use Rattle.sot_iv.proofs.Floors.{ten_pos}
use Rattle.sot_iv.proofs.ends.scaled.Goals as goal

pub floor_above-requires : goal.floor_above-requires
floor_above-requires c =
    let f = word c.power-else-from-to.result (record { sfits = c.power-else-from-to.type_inv }) in
    rw (f, c.power-else-from-to.ensures) (omega (arith, ints, ten_pos (c.args.from - c.args.to)))
