use Rattle.std.proofs.Common.{◌∙◌, subst}
use Rattle.sot_guard_protocol.specs.Talks.{HearsSo}
use Rattle.sot_guard_protocol.proofs.talk.Talk.hear.Goals as goal

pub returns-in-Err : goal.returns-in-Err
returns-in-Err g c =
    let hears = c.mishear.ensures in
    let same = c.self.view_is ∙ c.in-Err.ensures.same in (
      hears.0,
      subst (λ t. HearsSo t c.args.line.now c.mishear.result hears.0 c.mishear.new.self) same hears.1,
      g.met.O.Out.more _ _ _ _ _ c.in-Err.ensures.nothing_put hears.2,
    )
