use Rattle.std.proofs.Common.{◌≤◌, arith}
use Rattle.std.proofs.Math.Nat.{mul-le-mul_left}
use Rattle.sot_flight.proofs.counts.numbers_in.Goals as goal

pub overflow_add-result-2 : goal.overflow_add-result-2
overflow_add-result-2 c =
    let ticks : c.from-2.result ≤ 800 = omega (arith, c.from-2.ensures, c.ticks_of.ensures.small) in
    omega (arith, mul-le-mul_left c.from.result ticks, c.from.ensures, c.requires, c.from-3.ensures, c.drafts_of.ensures.small, c.values_of.ensures.small)
