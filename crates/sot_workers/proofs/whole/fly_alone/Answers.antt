use Rattle.std.proofs.Common.{◌≡◌, refl, ap, ◌∙◌, arith}
use Rattle.sot_ordered_board.proofs.OneHistory.{whole_in_order}
use Rattle.sot_workers.proofs.Going.{goes_on_same, goes_on_again, tick_goes_on}
use Rattle.sot_workers.proofs.Histories.{goes_here}
use Rattle.sot_workers.proofs.Remaining.{flown_whole}
use Rattle.sot_workers.proofs.Turns.{turn_settled}
use Rattle.sot_workers.proofs.whole.fly_alone.Goals as goal

pub ticks-init : goal.ticks-init
ticks-init c = record { accepted = refl; plan = refl; entries = goes_here c.args.board.now.entries }

pub tick-requires-clause-turn : goal.tick-requires-clause-turn
tick-requires-clause-turn c = turn_settled c.finish_instant.new.board c.finish_instant.ensures.settled

pub ticks-preserved : goal.ticks-preserved
ticks-preserved c =
    let start = c.args.board.now in
    let b = c.ticks.board in
    let one = c.finish_instant.new.board in
    let two = c.tick.new.self in
    goes_on_again start one two
    (goes_on_again start b one c.ticks.invariant (goes_on_same b one c.finish_instant.ensures.same c.finish_instant.ensures.goes_on))
    (tick_goes_on one two _ c.tick.ensures.0 c.tick.ensures.1)

pub returns-clause-flown : goal.returns-clause-flown
returns-clause-flown c =
    let b = c.finish_instant-2.new.board in
    let same = c.finish_instant-2.ensures.same in
    let plan = same.plan ∙ c.ticks.invariant.plan in
    let horizon = ap (λ f. f.horizon) plan in
    let ended : b.position.at.time ≡ b.plan.horizon = omega (
      arith,
      same.time,
      c.time.ensures,
      c.horizon-horizon.ensures,
      ap (λ f. f.horizon) c.flight.ensures,
      horizon,
      c.ticks-test.false,
      c.reveal_invariant-2.ensures.in_time,
    ) in
    flown_whole b c.reveal_invariant-2.ensures ended c.finish_instant-2.ensures.settled

pub returns-clause-goes_on : goal.returns-clause-goes_on
returns-clause-goes_on c =
    let start = c.args.board.now in
    let b = c.ticks.board in
    let last = c.finish_instant-2.new.board in
    (goes_on_again start b last c.ticks.invariant (goes_on_same b last c.finish_instant-2.ensures.same c.finish_instant-2.ensures.goes_on)).entries

pub returns-clause-order : goal.returns-clause-order
returns-clause-order c =
    let b = c.finish_instant-2.new.board in
    whole_in_order b.accepted.program b.accepted.cert.jitter b.plan b.entries b.position c.reveal_order.ensures (returns-clause-flown c)
