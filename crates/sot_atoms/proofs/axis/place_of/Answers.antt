use Rattle.std.proofs.Common.{◌≡◌, pos, ◌-ℤ◌, arith, rules}
use Rattle.std.proofs.lemmas.Int.{ints}
use Rattle.sot_atoms.proofs.Places.{holds_number}
use Rattle.sot_atoms.proofs.axis.place_of.Goals as goal

pub returns : goal.returns
returns c =
    let far : pos c.apart.result ≡ c.args.x -ℤ c.args.axis.lo = omega (arith, ints, c.apart.ensures) in
    holds_number c.args.axis c.args.x c.apart.result c.min.result c.requires.cut far c.requires.high (search rules)
