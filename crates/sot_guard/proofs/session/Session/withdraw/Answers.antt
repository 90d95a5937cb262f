use Rattle.std.proofs.Common.{refl, subst}
use Rattle.sot_guard.specs.Hearing.{IsWithdrawn}
use Rattle.sot_guard.specs.SessionView.{hearing}
use Rattle.sot_guard.proofs.session.Session.withdraw.Goals as goal

pub returns : goal.returns
returns c =
    let k = record (hearing c.self.inside) { guarding = c.ask_safe_nodes.new.self } in
    subst (λ h. IsWithdrawn h k) c.self.view_is (record {
      falls = record {
        between = c.withdraw.new.self;
        distrusts = record { accepted = c.withdraw.ensures.accepted; is = c.withdraw.ensures.is; modes = c.withdraw.ensures.modes; rest = c.withdraw.ensures.rest };
        asks = record { left = c.ask_safe_nodes.ensures.left; rest = c.ask_safe_nodes.ensures.rest };
      };
      rest = refl;
    })
