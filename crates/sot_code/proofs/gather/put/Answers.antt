use Rattle.std.proofs.Common.{◌<◌, length, take, get_or, pos, arith, rules, FitsSigned, w64}
use Rattle.std.proofs.lemmas.Option.{slice_get-get_or}
use Rattle.sot_code.proofs.Filling.{one_behind, read_word}
use Rattle.sot_code.proofs.gather.put.Goals as goal

pub returns-then-part-eq1-clause-front : goal.returns-then-part-eq1-clause-front
returns-then-part-eq1-clause-front c =
    let number = get_or c.args.part.now 0 (pos 0) in
    let below : 0 < length c.args.part.now = omega (arith, c.if-part-eq1.true) in
    let fits : FitsSigned w64 number = search rules in
    let front = rw (read_word number fits) at c.put_number.ensures.front in
    one_behind c.put_number.new.numbers (take c.args.from c.args.numbers.now) c.args.part.now c.args.from number c.if-part-eq1.true
    (slice_get-get_or c.args.part.now 0 (pos 0) below) front
