use Rattle.std.proofs.Common.{◌≡◌, rules, arith, ◌<◌, ◌+◌, take, length, FitsSigned, w64}
use Rattle.sot_code.proofs.Filling.{one_behind, taken_behind, read_word}
use Rattle.sot_code.proofs.gather.put_point.Goals as goal

pub loop-i-preserved : goal.loop-i-preserved
loop-i-preserved c =
    let k = c.loop-i.invariant in
    let fits : FitsSigned w64 c.at-in-loop-i.result = search rules in
    let below : c.loop-i.i < length c.args.point.now = omega (arith, c.len-i-end.ensures.value, c.loop-i-test.true) in
    let inside : c.args.from + c.loop-i.i < length c.loop-i.numbers = omega (arith, k.size, c.requires, below) in
    record {
      size = search (rules, k.size);
      front =
          rw (read_word c.at-in-loop-i.result fits) (taken_behind c.loop-i.numbers c.args.point.now (take c.args.from c.args.numbers.now) c.args.from c.loop-i.i
          c.at-in-loop-i.result inside below k.front c.at-in-loop-i.ensures);
    }

pub returns-then-len-eq1-clause-front : goal.returns-then-len-eq1-clause-front
returns-then-len-eq1-clause-front c =
    let one : length c.args.point.now ≡ 1 = omega (arith, c.len.ensures.value, c.if-len-eq1.true) in
    let fits : FitsSigned w64 c.at.result = search rules in
    let front = rw (read_word c.at.result fits) at c.put_number.ensures.front in
    one_behind c.put_number.new.numbers (take c.args.from c.args.numbers.now) c.args.point.now c.args.from c.at.result one c.at.ensures front
