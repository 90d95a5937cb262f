use Rattle.sot_workers.proofs.Histories.{goes_further}
use Rattle.sot_workers.proofs.Turns.{none_due_along, turn_begins}
use Rattle.sot_workers.proofs.instant.finish_instant.Goals as goal

pub fire_all-requires-clause-turn : goal.fire_all-requires-clause-turn
fire_all-requires-clause-turn c =
    let one = c.take_inputs.new.board in
    let two = c.decide_all.new.board in
    let did = c.decide_all.ensures in
    turn_begins two (none_due_along one two did.inputs did.same.time c.take_inputs.ensures.none) did.none

pub returns-clause-goes_on : goal.returns-clause-goes_on
returns-clause-goes_on c =
    let start = c.args.board.now.entries in
    let one = c.take_inputs.new.board.entries in
    let two = c.decide_all.new.board.entries in
    let three = c.fire_all.new.board.entries in
    goes_further start two three (goes_further start one two c.take_inputs.ensures.entries.goes_on c.decide_all.ensures.entries.goes_on)
    c.fire_all.ensures.goes_on
