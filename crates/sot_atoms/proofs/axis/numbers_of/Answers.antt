use Rattle.std.proofs.Common.{arith}
use Rattle.std.proofs.lemmas.Int.{ints}
use Rattle.sot_atoms.proofs.Places.{stretch_ordered}
use Rattle.sot_atoms.proofs.axis.numbers_of.Goals as goal

pub invariant_of-result : goal.invariant_of-result
invariant_of-result c =
    let o = stretch_ordered c.args.axis c.args.from c.args.to c.requires.cut c.requires.order c.requires.there in
    omega (arith, ints, c.first_of-lo.ensures, c.last_of-hi.ensures)
