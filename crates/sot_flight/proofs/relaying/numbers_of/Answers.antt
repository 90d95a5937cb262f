use Rattle.std.proofs.Common.{◌+◌, ◌++◌, drop, ap, ◌∙◌}
use Rattle.sot_flight.specs.Relayed.{drafted}
use Rattle.sot_flight.proofs.Merging.{drafted_more}
use Rattle.sot_flight.proofs.relaying.numbers_of.Goals as goal

pub loop-i-preserved : goal.loop-i-preserved
loop-i-preserved c =
    ap (λ l. l ++ drafted (drop (c.loop-i.i + 1) c.args.draft.now)) c.in_ok-put_number.ensures
    ∙ drafted_more c.loop-i.found.items c.args.draft.now c.loop-i.i c.get.result _ c.get.ensures c.loop-i.invariant
