use Rattle.std.proofs.Common.{arith}
use Rattle.std.proofs.lemmas.List.{take_rest}
use Rattle.sot_ports.proofs.Transfers.{given_next}
use Rattle.sot_ports.proofs.memory_source.give_from.Goals as goal

pub returns-clause-next : goal.returns-clause-next
returns-clause-next c =
    let count = rw take_rest at c.give.ensures.count in
    given_next c.args.bytes.now c.args.buf.now c.give.new.buf c.args.at c.give.result (omega (arith, count)) (rw take_rest at c.give.ensures.bytes)
