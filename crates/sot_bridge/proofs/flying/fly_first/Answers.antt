use Rattle.sot_bridge.proofs.Forms.{flown_first}
use Rattle.sot_bridge.proofs.flying.fly_first.Goals as goal

pub returns : goal.returns
returns g c =
    let ended = c.in_ok-flown.ensures in
    flown_first c.args.board c.in_ok-flown.flown.board c.args.topic _ _ ended.accepted ended.plan ended.flown c.in_ok-text.ensures c.in_ok-sends.ensures
