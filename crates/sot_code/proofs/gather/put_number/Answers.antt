use Rattle.std.proofs.Common.{rules, FitsSigned, w64}
use Rattle.std.proofs.lemmas.List.{take_more_set}
use Rattle.sot_code.proofs.Filling.{read_word}
use Rattle.sot_code.proofs.gather.put_number.Goals as goal

pub returns-clause-front : goal.returns-clause-front
returns-clause-front c =
    let fits : FitsSigned w64 c.args.number = search rules in
    rw (read_word c.args.number fits) (take_more_set c.args.numbers.now c.args.from c.args.number c.requires)
