use Rattle.sot_box.proofs.Within.{in-region, some-when}
use Rattle.sot_box.proofs.region.Region.has.Goals as goal

pub returns : goal.returns
returns c =
    some-when c.holder.result c.is_some.result c.holder.ensures c.is_some.ensures (λ i h. in-region c.args.self.now.boxes i c.args.p.now h)
