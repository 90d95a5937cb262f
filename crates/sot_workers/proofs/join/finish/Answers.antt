use Rattle.std.proofs.Common.{◌∙◌, sym}
use Rattle.sot_workers.proofs.join.finish.Goals as goal

pub take_turn-shift-requires-clause-at_work : goal.take_turn-shift-requires-clause-at_work
take_turn-shift-requires-clause-at_work g c = (c.loop.invariant.goes_on c.requires.on_shift.0 c.requires.on_shift.1).at_work

pub loop-preserved : goal.loop-preserved
loop-preserved g c =
    let began = c.requires.on_shift.0 in
    let was = c.loop.invariant.goes_on began c.requires.on_shift.1 in
    let now = c.take_turn-shift.ensures.on_shift began was in
    record {
      lock = now.lock ∙ (sym was.lock ∙ c.loop.invariant.lock);
      goes_on = λ before on. c.take_turn-shift.ensures.on_shift before (c.loop.invariant.goes_on before on);
    }
