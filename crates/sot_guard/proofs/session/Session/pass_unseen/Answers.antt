use Rattle.std.proofs.Common.{◌<◌, false, refl, sym, ap, ◌∙◌, subst}
use Rattle.sot_world.specs.Changes.{ArePoints}
use Rattle.sot_guard.specs.Guarding.{Guarding, last_time}
use Rattle.sot_guard.specs.Changes.{MovesTo}
use Rattle.sot_guard.specs.Hearing.{PassesUnseen, program_of}
use Rattle.sot_guard.specs.SessionView.{hearing}
use Rattle.sot_guard.specs.declared.turn.SessionEvent.TheVariants.{Instant}
use Rattle.sot_guard.proofs.session.Session.pass_unseen.Goals as goal

pub observe-requires-clause-points : goal.observe-requires-clause-points
observe-requires-clause-points c =
    let p = c.self.inside.guard.accepted.program in
    subst (ArePoints p) (sym c.put_states.ensures) c.reveal_invariant.ensures.points

pub returns-clause-passes : goal.returns-clause-passes
returns-clause-passes c =
    let h = hearing c.self.inside in
    let k = record h { guarding = c.ask_safe_nodes.new.self; turn = Instant; seen = false } in
    let turn = ap (λ x. x.turn) c.self.view_is ∙ c.requires.turn in
    let time = subst (λ x. x.guarding.at.time < last_time) (sym c.self.view_is) c.requires.time in
    let moves = subst (λ ps. MovesTo (program_of h) ps h.guarding.at c.observe.new.self.at) c.put_states.ensures c.observe.ensures.moves in
    subst (λ x. PassesUnseen x k) c.self.view_is (record {
      turn = turn;
      time = time;
      moved = c.observe.new.self;
      moves = moves;
      falls = record {
        between = c.withdraw.new.self;
        distrusts = record { accepted = c.withdraw.ensures.accepted; is = c.withdraw.ensures.is; modes = c.withdraw.ensures.modes; rest = c.withdraw.ensures.rest };
        asks = record { left = c.ask_safe_nodes.ensures.left; rest = c.ask_safe_nodes.ensures.rest };
      };
      accepted = ap (λ (x : Guarding). x.accepted) c.ask_safe_nodes.ensures.rest ∙ c.withdraw.ensures.accepted ∙ c.observe.ensures.accepted;
      rest = refl;
    })
