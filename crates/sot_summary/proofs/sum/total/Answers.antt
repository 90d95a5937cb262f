use Rattle.std.proofs.Common.{ℤ, pos, arith, rules, w64, SFits}
use Rattle.std.specs.Prelude.{slice_index_or}
use Rattle.std.specs.Int.{w128}
use Rattle.std.proofs.lemmas.Int.{ints, to_z-of_z}
use Rattle.std.proofs.lemmas.Option.{slice_get-get_or}
use Rattle.sot_summary.proofs.Counting.{total_more}
use Rattle.sot_summary.proofs.sum.total.Goals as goal

pub loop-i-preserved : goal.loop-i-preserved
loop-i-preserved c =
    let numbers = c.args.numbers.now in
    let x : ℤ = slice_index_or numbers c.loop-i.i (pos 0) in
    let fits : SFits w64 x = search rules in
    let number = to_z-of_z w64 x fits in
    let fits_sum : SFits w128 c.with_number-sum.result = search rules in
    let whole = to_z-of_z w128 c.with_number-sum.result fits_sum in
    let more = total_more numbers c.loop-i.i x (slice_get-get_or numbers c.loop-i.i (pos 0) c.loop-i-test.true) in
    record {
      sum = omega (arith, ints, more, number, whole, c.with_number-sum.ensures.value, c.loop-i.invariant.sum);
      low = omega (arith, ints, whole, c.with_number-sum.ensures.low, c.loop-i.invariant.low);
      high = omega (arith, ints, whole, c.with_number-sum.ensures.high, c.loop-i.invariant.high);
    }
