-- Of `width`: that its sums fit.
use Rattle.std.proofs.Common.{arith}
use Rattle.std.proofs.lemmas.Int.{ints}
use Rattle.sot_rules.proofs.declarations.range.width.Goals as goal

pub overflow_sub-between : goal.overflow_sub-between
overflow_sub-between c = omega (arith, ints)

pub overflow_add-result : goal.overflow_add-result
overflow_add-result c = omega (arith, ints)
