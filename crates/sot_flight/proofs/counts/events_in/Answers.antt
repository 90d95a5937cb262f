use Rattle.std.proofs.Common.{subst}
use Rattle.sot_lists.specs.Places.{At}
use Rattle.sot_flight.proofs.counts.events_in.Goals as goal

pub decisions_of-requires-clause-times : goal.decisions_of-requires-clause-times
decisions_of-requires-clause-times c m info at =
    let is = subst (λ l. At l m info) c.deref-2.ensures.value at in
    (c.p.invariant.typed.module_times m info is, (c.p.invariant.modules m info is).period)
