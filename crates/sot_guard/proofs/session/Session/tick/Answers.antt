use Rattle.std.proofs.Common.{true, refl, ◌∙◌, subst, arith}
use Rattle.sot_world.specs.Changes.{ArePoints}
use Rattle.sot_guard.specs.Hearing.{TakesTick}
use Rattle.sot_guard.specs.SessionView.{hearing}
use Rattle.sot_guard.specs.declared.turn.SessionEvent.TheVariants.{Instant}
use Rattle.sot_guard.proofs.AlongSession.{asked_so, asked_accepted}
use Rattle.sot_guard.proofs.session.Session.tick.Goals as goal

pub returns : goal.returns
returns c =
    let h = hearing c.self.inside in
    let after = c.ask_safe_nodes_if.new.self in
    let k = record h { guarding = after; turn = Instant; seen = true } in
    let o = c.observe-outside.result in
    let moved = c.observe-outside.new.self in
    let asked = asked_so o moved after c.is_some.result c.is_some.ensures c.ask_safe_nodes_if.ensures.asks c.ask_safe_nodes_if.ensures.same in
    subst (λ x. TakesTick x c.args.points.now o k) c.self.view_is (record {
      turn = c.in-Tick.is;
      time = omega (arith, c.if-time-ge-LAST_TIME.false, c.time.ensures.value);
      points_are = subst (λ t. ArePoints t c.args.points.now) c.typed.ensures (c.are_points.ensures.0 c.if-not-are_points.false);
      moved = moved;
      moves = c.observe-outside.ensures.moves;
      judged = c.observe-outside.ensures.told;
      asked = asked;
      accepted = asked_accepted o moved after asked ∙ c.observe-outside.ensures.accepted;
      rest = refl;
    })
