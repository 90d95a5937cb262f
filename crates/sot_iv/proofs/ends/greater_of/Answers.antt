use Rattle.std.proofs.Common.{arith}
use Rattle.std.proofs.lemmas.Int.{ints, clamps}
use Rattle.sot_iv.proofs.ends.greater_of.Goals as goal

pub ordered-requires : goal.ordered-requires
ordered-requires c = omega (arith, ints, clamps, c.max-lo.ensures, c.max-hi.ensures, c.requires.first, c.requires.second)
