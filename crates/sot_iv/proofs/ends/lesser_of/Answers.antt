use Rattle.std.proofs.Common.{arith}
use Rattle.std.proofs.lemmas.Int.{ints, clamps}
use Rattle.sot_iv.proofs.ends.lesser_of.Goals as goal

pub ordered-requires : goal.ordered-requires
ordered-requires c = omega (arith, ints, clamps, c.min-lo.ensures, c.min-hi.ensures, c.requires.first, c.requires.second)
