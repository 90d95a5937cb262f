use Rattle.std.proofs.Common.{rules, arith, pos, get_or, FitsSigned, w64, length, ◌<◌}
use Rattle.sot_code.proofs.Filling.{taken_more, rest_more, read_word}
use Rattle.sot_code.proofs.locals.Locals.from_slice.Goals as goal

pub loop-i-preserved : goal.loop-i-preserved
loop-i-preserved c =
    let k = c.loop-i.invariant in
    let lt = c.loop-i-test.true in
    let few = c.requires in
    let inside : c.loop-i.i < length c.loop-i.inline = omega (arith, k.sixteen, lt, few) in
    let fits : FitsSigned w64 (get_or c.args.at.now c.loop-i.i (pos 0)) = search rules in
    record {
      sixteen = search (rules, k.sixteen);
      taken = taken_more c.loop-i.inline c.args.at.now c.loop-i.i (pos 0) _ inside lt k.taken (read_word _ fits);
      rest = rest_more 16 c.loop-i.inline c.loop-i.i (pos 0) _ k.sixteen (omega (arith, lt, few)) k.rest;
    }
